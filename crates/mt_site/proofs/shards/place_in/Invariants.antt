-- No lane before this one has the range.
use Rattle.mt_names.specs.Shards.{same_range}
use Rattle.mt_site.proofs.ShardLemmas.{NoneBefore}
use Rattle.mt_site.proofs.shards.place_in.Given as goal

abbrev pub invariant-loop-shard : goal.invariant-loop-shard
invariant-loop-shard l = NoneBefore (λ lane. same_range l.range lane.range) l.workflow.lanes l.shard
