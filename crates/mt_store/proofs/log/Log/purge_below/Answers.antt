-- Segment by segment.
use Rattle.std.proofs.Common.{◌∙◌, ap}
use Rattle.mt_store.specs.Log.{without_first}
use Rattle.mt_store.proofs.SegmentLemmas.{one_more}
use Rattle.mt_store.proofs.log.Log.purge_below.Goals as goal

pub loop-preserved : goal.loop-preserved
loop-preserved c = c.drop_first.ensures ∙ ap (without_first 256) c.loop.invariant ∙ one_more c.args.self.now.log c.loop.counter
