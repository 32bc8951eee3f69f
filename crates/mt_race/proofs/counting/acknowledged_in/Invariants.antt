-- The writes of the passes before this one are counted.
use Rattle.std.proofs.Common.{◌≡◌, map, take}
use Rattle.mt_race.specs.Agreements.{acknowledged_in}
use Rattle.mt_race.proofs.counting.acknowledged_in.Given as goal

abbrev pub invariant-loop-pass : goal.invariant-loop-pass
invariant-loop-pass g l = l.count ≡ acknowledged_in (map (λ pass. (pass.client, pass.calls.items)) (take l.pass-index l.fn.passes))
