-- The words so far are read into the ranges.
use Rattle.std.proofs.Common.{◌≡◌, [], Ok, map}
use Rattle.mt_names.specs.Shards.{read_ranges_after}
use Rattle.mt_names.proofs.shards.parse_ranges.Given as goal

abbrev pub invariant-loop-word : goal.invariant-loop-word
invariant-loop-word l =
    (goal.iterator-loop-word).can_next l.word-iterator ×
    (goal.iterator-loop-word).is_finite l.word-iterator ×
    (read_ranges_after [] (map (λ x. x.now) l.yielded) ≡ Ok l.ranges.items)
