-- What completes the names so far completes the whole.
use Rattle.std.proofs.Common.{◌≡◌, ◌-◌, ◌≤◌, length, map, drop}
use Rattle.mt_choice.specs.Keyspaces.{most_keyspaces, read_keyspaces, read_within}
use Rattle.mt_choice.proofs.WordLemmas.{completed}
use Rattle.mt_choice.proofs.words.keyspaces.Given as goal

abbrev pub invariant-loop-word : goal.invariant-loop-word
invariant-loop-word l =
    (completed l.names.items (read_within (most_keyspaces - length l.names.items) (map (λ word. word.now) (drop l.word-index l.words)))
    ≡ read_keyspaces (map (λ word. word.now) l.words))
    × (length l.names.items ≤ most_keyspaces)
