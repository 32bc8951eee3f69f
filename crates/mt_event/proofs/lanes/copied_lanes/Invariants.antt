-- The lanes passed.
use Rattle.std.proofs.Common.{◌≡◌, take}
use Rattle.mt_event.proofs.lanes.copied_lanes.Given as goal

abbrev pub invariant-loop-lane : goal.invariant-loop-lane
invariant-loop-lane l = l.list.items ≡ take l.lane-index l.lanes
