-- By the way that is open, if one is.
use Rattle.mt_stands.proofs.ReaderLemmas.{read-by_owner}
use Rattle.mt_stands.proofs.purges.each_live_workflow_is_read.Goals as goal

pub returns : goal.returns
returns c = λ p reached name w live shard lane laned. read-by_owner w lane (c.ways_keep_their_course.ensures.course p reached name w live) (c.ways_keep_their_course.ensures.writes p reached name w live)
