-- Those of the keyspaces so far that differ.
use Rattle.std.proofs.Common.{◌≡◌, filter, not, take}
use Rattle.mt_names.specs.Names.{same_text}
use Rattle.mt_routes.proofs.holders.Holders.without.Given as goal

abbrev pub invariant-loop-other : goal.invariant-loop-other
invariant-loop-other l = l.list.items ≡ filter (λ k. not (same_text l.keyspace k)) (take l.other-index l.other-items)
