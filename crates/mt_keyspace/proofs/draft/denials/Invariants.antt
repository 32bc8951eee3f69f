-- The denials so far and those that are left.
use Rattle.std.proofs.Common.{◌≡◌, ◌++◌}
use Rattle.mt_keyspace.proofs.draft.denials.Given as goal

abbrev pub invariant-places : goal.invariant-places
invariant-places l = l.places.entries ≡ l.denied ++ l.table-iterator
