-- The words so far are read into the set.
use Rattle.std.proofs.Common.{◌≡◌, Ok, map}
use Rattle.mt_names.specs.Types.{read_words}
use Rattle.mt_names.proofs.types.parse_words.Given as goal

abbrev pub invariant-loop-word : goal.invariant-loop-word
invariant-loop-word l =
    (goal.iterator-loop-word).can_next l.word-iterator ×
    (goal.iterator-loop-word).is_finite l.word-iterator ×
    (read_words (map (λ x. x.now) l.yielded) ≡ Ok l.set)
