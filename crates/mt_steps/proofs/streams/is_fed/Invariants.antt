-- The streams of the shards before this one are level.
use Rattle.std.proofs.Common.{◌≡◌, true, take}
use Rattle.std.specs.List.{list_all}
use Rattle.mt_workflow.specs.Workflows.{way_from}
use Rattle.mt_steps.specs.Shards.{shards_of}
use Rattle.mt_steps.specs.Streams.{is_fed_at}
use Rattle.mt_steps.proofs.streams.is_fed.Given as goal

abbrev pub invariant-loop-shard : goal.invariant-loop-shard
invariant-loop-shard l = list_all (is_fed_at l.workflow (way_from l.way) l.source l.targets) (take l.shard (shards_of l.workflow)) ≡ true
