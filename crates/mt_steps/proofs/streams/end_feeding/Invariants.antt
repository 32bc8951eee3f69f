-- The lanes before this one have no such stream.
use Rattle.std.proofs.Common.{◌≡◌, ◌++◌, map, take, drop, None}
use Rattle.mt_plain.specs.Events.{back}
use Rattle.mt_workflow.specs.Workflows.{with_lane_slot}
use Rattle.mt_steps.proofs.streams.end_feeding.Given as goal

abbrev pub invariant-loop-shard : goal.invariant-loop-shard
invariant-loop-shard l =
    l.workflow ≡ record l.initial.workflow { lanes = map (with_lane_slot back None) (take l.shard l.initial.workflow.lanes) ++ drop l.shard l.initial.workflow.lanes }
