-- The places before this one.
use Rattle.std.proofs.Common.{◌≡◌, ◌-◌, map}
use Rattle.std.specs.List.{range_with_len}
use Rattle.mt_steps.specs.Plans.{planned_at, way_of}
use Rattle.mt_steps.proofs.plan.places.Given as goal

abbrev pub invariant-loop-place : goal.invariant-loop-place
invariant-loop-place l = l.list.items ≡ map (planned_at (way_of l.fn.back l.fn.types l.fn.shards)) (range_with_len l.first (l.place - l.first))
