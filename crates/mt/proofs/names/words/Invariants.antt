-- The words so far are those of the parts so far, as far as there is room.
use Rattle.std.proofs.Common.{◌≡◌, map, take, filter}
use Rattle.mt.specs.Names.{is_word, most_words}
use Rattle.mt.proofs.names.words.Given as goal

abbrev pub invariant-loop-word : goal.invariant-loop-word
invariant-loop-word l =
    (goal.iterator-loop-word).can_next l.word-iterator ×
    (goal.iterator-loop-word).is_finite l.word-iterator ×
    (map (λ word. word.now) l.words.items ≡ take most_words (filter is_word (map (λ part. part.now) l.yielded)))
