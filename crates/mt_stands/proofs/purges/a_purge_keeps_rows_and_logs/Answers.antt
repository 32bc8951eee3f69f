-- What is still to be read is kept.
use Rattle.mt_stands.proofs.PurgeLemmas.{purge-stands}
use Rattle.mt_stands.proofs.purges.a_purge_keeps_rows_and_logs.Goals as goal

pub returns : goal.returns
returns c = λ p reached old new stands purged. purge-stands p old new stands purged (c.what_is_pending_was_not_fed.ensures.counted p reached) (c.each_live_workflow_is_read.ensures p reached)
    (λ name w live. (c.live_workflows_stand_in_place.ensures.placed p reached name w live).sides.apart)
