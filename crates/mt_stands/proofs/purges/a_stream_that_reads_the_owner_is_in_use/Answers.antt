-- There is one that reads it and is in use, and no two streams read one side.
use Rattle.mt_stands.proofs.UnreadLemmas.{reads_in_use}
use Rattle.mt_stands.proofs.purges.a_stream_that_reads_the_owner_is_in_use.Goals as goal

pub returns : goal.returns
returns c = λ p reached name w live shard lane laned stream slot there reads.
    reads_in_use w lane (c.live_workflows_stand_in_place.ensures.placed p reached name w live).sides.apart (c.each_live_workflow_is_read.ensures p reached name w live shard lane laned) stream slot there reads
