use Rattle.mt_primary.proofs.ReadLemmas.{rows-end, rows-next}
use Rattle.mt_primary.proofs.read_laws.rows_are_read_in_order.Goals as goal

pub returns-clause-row : goal.returns-clause-row
returns-clause-row c table last row sorted = rows-next last table.rows row sorted

pub returns-clause-end : goal.returns-clause-end
returns-clause-end c table last = rows-end last table.rows
