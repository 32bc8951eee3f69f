use Rattle.std.proofs.Common.{◌≡◌, replicate}
use Rattle.mt_primary.specs.Primary.{empty_primary}
use Rattle.mt_primary.proofs.shards.empty_primaries.Given as goal

abbrev pub invariant-loop : goal.invariant-loop
invariant-loop l = l.primaries.items ≡ replicate l.counter empty_primary
