use Rattle.mt_primary.proofs.DenialLemmas.{denials-table}
use Rattle.mt_primary.proofs.LawLemmas.{set-denied, set-made, set-rows, set-tables}
use Rattle.mt_primary.proofs.laws.denials_change_nothing_else.Goals as goal

pub returns-clause-by_name : goal.returns-clause-by_name
returns-clause-by_name c = denials-table

pub returns-clause-tables : goal.returns-clause-tables
returns-clause-tables c = set-tables

pub returns-clause-made : goal.returns-clause-made
returns-clause-made c = set-made

pub returns-clause-rows : goal.returns-clause-rows
returns-clause-rows c = set-rows

pub returns-clause-denied : goal.returns-clause-denied
returns-clause-denied c = set-denied
