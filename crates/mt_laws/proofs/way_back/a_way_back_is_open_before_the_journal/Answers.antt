-- No condition refuses, and neither event may grow anything or asks a watcher.
use Rattle.mt_laws.proofs.OpenLemmas.{cancel_is_done, undo_is_done}
use Rattle.mt_laws.proofs.way_back.a_way_back_is_open_before_the_journal.Goals as goal

pub returns-clause-undo : goal.returns-clause-undo
returns-clause-undo c = undo_is_done

pub returns-clause-cancel : goal.returns-clause-cancel
returns-clause-cancel c = cancel_is_done
