-- The keyspaces that a text names whose primaries are watched.
use Rattle.std.specs.Prelude.{◌≡◌, ◌⊎◌, ℕ, ◌==◌, Bool, not, List, filter, length, Option, None, Some, Result, Ok, Err}
use Rattle.std.specs.List.{slice_split}
use Rattle.std.specs.Str.{IsUtf8}
use Rattle.arrayvec.specs.ArrayVec.{ArrayVec}
use Rattle.mt_choice.specs.Keyspaces.{read_keyspaces}
use Rattle.mt_names.specs.declared.fault.NameFault.{NameFault}

-- no byte is no word
abbrev pub is_word : List ℕ → Bool
is_word word = not (length word == 0)

-- the words of a text, which blanks part
abbrev pub words_in : List ℕ → List (List ℕ)
words_in text = filter is_word (slice_split (λ byte. byte == 32) text)

-- as many as are looked at: one more than may be named
abbrev pub most_words : ℕ
most_words = 32

-- the names that they are
abbrev pub watched_in : List ℕ → Result (List (List ℕ)) NameFault
watched_in text = read_keyspaces (words_in text)

-- the text is no UTF-8, or a word in it is no name, or one too many
abbrev pub IsNoList : List ℕ → Type 0
IsNoList text = (¬ (IsUtf8 text)) ⊎ ((fault : NameFault) × (watched_in text ≡ Err fault))

-- the names are answered, or that there are none
abbrev pub Watches : (text : List ℕ) → Option (ArrayVec (List ℕ)) → Type 0
Watches text (Some names) = watched_in text ≡ Ok names.items
Watches text None = IsNoList text
