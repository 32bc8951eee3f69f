-- The lanes so far are those of the shards so far.
use Rattle.std.proofs.Common.{◌≡◌, map, take}
use Rattle.mt_workflow.specs.Workflows.{new_lane}
use Rattle.mt_workflow.proofs.lane.first_lanes.Given as goal

abbrev pub invariant-loop-range : goal.invariant-loop-range
invariant-loop-range l = l.lanes.items ≡ map (new_lane l.tables l.position) (take l.range-index l.shards)
