-- The opening has no table, and each answer that is given keeps the numbers apart.
use Rattle.mt_laws.proofs.TableLemmas.{done_has_numbers, opening_has_numbers}
use Rattle.mt_laws.proofs.tables.tables_keep_numbers_of_their_own.Goals as goal

pub returns-clause-opening : goal.returns-clause-opening
returns-clause-opening c = opening_has_numbers

pub returns-clause-next : goal.returns-clause-next
returns-clause-next c = done_has_numbers
