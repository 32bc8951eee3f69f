use Rattle.mt_primary.proofs.PutLemmas.{put-entry, put-rows, put-tables}
use Rattle.mt_primary.proofs.change_laws.a_row_is_put.Goals as goal

pub returns-clause-rows : goal.returns-clause-rows
returns-clause-rows c = put-rows

pub returns-clause-tables : goal.returns-clause-tables
returns-clause-tables c = put-tables

pub returns-clause-entry : goal.returns-clause-entry
returns-clause-entry c = put-entry
