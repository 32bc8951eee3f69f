-- By cases on the event.
use Rattle.mt_laws.proofs.TableLemmas.{done_at}
use Rattle.mt_laws.proofs.tables.an_answer_changes_a_row_by_its_operation_alone.Goals as goal

pub returns : goal.returns
returns c = done_at
