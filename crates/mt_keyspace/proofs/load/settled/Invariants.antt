-- The keyspaces so far and those that are left, and that no table of one so far has two places.
use Rattle.std.proofs.Common.{◌≡◌, ◌++◌}
use Rattle.std.specs.List.{AllByRecursion, IsDistinct}
use Rattle.std.specs.Map.{keys_of}
use Rattle.mt_names.specs.Names.{same_text}
use Rattle.mt_keyspace.proofs.load.settled.Given as goal

abbrev pub invariant-drafts : goal.invariant-drafts
invariant-drafts l =
    (l.fn.drafts.entries ≡ l.keyspaces.entries ++ l.name-iterator)
    × AllByRecursion (λ k. IsDistinct same_text (keys_of k.1.tables) × IsDistinct same_text (keys_of k.1.denied)) l.keyspaces.entries
