-- Which of the words behind `mt run` are keyspaces.
use Rattle.std.specs.Prelude.{ℕ, Bool, false, ◌==◌, if◌then◌else◌, List, [], ◌∷◌, codes, Option, Some, None, option_map}
use Rattle.std.specs.Str.{bytes_eq}
use Rattle.mt_names.specs.Names.{dash}

-- a word that looks like an option: `-` with something behind it
abbrev pub is_dashed : List ℕ → Bool
is_dashed [] = false
is_dashed (byte ∷ []) = false
is_dashed (byte ∷ next ∷ bytes) = byte == dash

-- the words that name keyspaces: all but the first `--`, behind which a word may look like an option; none where another
-- word looks like one
abbrev pub keyspace_words : List (List ℕ) → Option (List (List ℕ))
keyspace_words [] = Some []
keyspace_words (word ∷ words) =
    if bytes_eq word (codes "--") then Some words
    else if is_dashed word then None
    else option_map (λ more. word ∷ more) (keyspace_words words)
