-- The primaries that the streams of the shards before this one read keep what these have still to read.
use Rattle.std.proofs.Common.{◌≡◌, ◌<◌, ◌≤◌, ℕ, Some}
use Rattle.mt_stream.specs.Streams.{StreamValue}
use Rattle.mt_workflow.specs.Workflows.{slot_of, way_from}
use Rattle.mt_steps.specs.Streams.{feeding_name, read_for}
use Rattle.mt_steps_tests.proofs.scene.keeps_to_feed.Given as goal

abbrev pub invariant-loop-shard : goal.invariant-loop-shard
invariant-loop-shard l =
    (k : ℕ) (s : StreamValue) → k < l.shard → slot_of l.workflow k (feeding_name (way_from l.way)) ≡ Some s → (read_for (way_from l.way) l.source l.targets k).log.purged ≤ s.position
