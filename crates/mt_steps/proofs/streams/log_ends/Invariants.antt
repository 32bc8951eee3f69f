-- The primaries before this one have their positions.
use Rattle.std.proofs.Common.{◌≡◌, map, take}
use Rattle.mt_primary.specs.Primary.{end_of}
use Rattle.mt_steps.proofs.streams.log_ends.Given as goal

abbrev pub invariant-loop-target : goal.invariant-loop-target
invariant-loop-target l = l.ends.items ≡ map (λ target. end_of l.source) (take l._target-index l.targets)
