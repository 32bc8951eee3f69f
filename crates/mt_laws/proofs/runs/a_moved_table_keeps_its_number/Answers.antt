-- A table has a number just where it is there, and the target has none of the tables that are moved to it.
use Rattle.mt_laws.proofs.GoesOnLemmas.{cancelled, completed, completed-row, created-side, kept}
use Rattle.mt_laws.proofs.runs.a_moved_table_keeps_its_number.Goals as goal

pub returns : goal.returns
returns c = record {
  create = created-side;
  kept = kept;
  cancel = λ p reached name w live given. cancelled p reached name w live;
  complete = λ p reached name w live given. completed p reached name w live;
  rows = λ p reached name w live given. completed-row p reached name w live;
}
