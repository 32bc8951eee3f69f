-- The ranges so far are copied.
use Rattle.std.proofs.Common.{◌≡◌, take}
use Rattle.mt_names.proofs.shards.copies_of.Given as goal

abbrev pub invariant-loop-range : goal.invariant-loop-range
invariant-loop-range l = l.copies.items ≡ take l.range-index l.ranges
