-- The primaries before this one have their positions.
use Rattle.std.proofs.Common.{◌≡◌, map, take}
use Rattle.mt_primary.specs.Primary.{end_of}
use Rattle.mt_steps.proofs.streams.positions.Given as goal

abbrev pub invariant-loop-primary : goal.invariant-loop-primary
invariant-loop-primary l = l.ends.items ≡ map end_of (take l.primary-index l.primaries)
