-- What is true of every primary is true of those before this one.
use Rattle.std.proofs.Common.{◌<◌, ℕ, get_or}
use Rattle.mt_primary.specs.Primary.{IsPrimary, empty_primary}
use Rattle.mt_site.proofs.primaries.each_is_one.Given as goal

abbrev pub invariant-loop-index : goal.invariant-loop-index
invariant-loop-index l = (n : ℕ) → n < l.index → IsPrimary (get_or l.primaries n empty_primary)
