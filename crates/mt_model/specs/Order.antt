-- The order of texts, and that in which the rules of a topology stand: the order of their keys, whatever the order in which their
-- places were made.
use Rattle.std.specs.Prelude.{◌≡◌, ⊤, ℕ, suc, ◌==◌, nat_lt, Bool, true, false, if◌then◌else◌, List, [], ◌∷◌, ◌++◌, length, Option, None, Some}
use Rattle.std.specs.List.{AllByRecursion}
use Rattle.std.specs.Map.{keys_of, remove_entry}
use Rattle.mt_names.specs.declared.keys.RuleKey.{RuleKey}
use Rattle.mt_names.specs.Hashes.{type_number}

-- whether a text comes before another
abbrev pub comes_before : List ℕ → List ℕ → Bool
comes_before bytes [] = false
comes_before [] (b ∷ bs) = true
comes_before (a ∷ as') (b ∷ bs) = if a == b then comes_before as' bs else nat_lt a b

-- a keyspace behind its length, where a key is qualified
abbrev pub keyspace_code : Option (List ℕ) → List ℕ
keyspace_code None = 0 ∷ []
keyspace_code (Some keyspace) = suc (length keyspace) ∷ keyspace

-- a key as a list of numbers: no two keys have the same
abbrev pub key_code : RuleKey → List ℕ
key_code key = type_number key.tablet_type ∷ keyspace_code key.keyspace ++ key.table

-- a key comes before another
abbrev pub key_before : RuleKey → RuleKey → Bool
key_before key other = comes_before (key_code key) (key_code other)

-- an entry put among others, before the first whose key comes later
abbrev pub put_by : {K V : Type 0} → (K → K → Bool) → List (K × V) → K × V → List (K × V)
put_by before [] x = x ∷ []
put_by before (e ∷ es) x = if before x.0 e.0 then x ∷ e ∷ es else (e ∷ put_by before es x)

-- entries put one after another, the last first; of those with one key the first counts
abbrev pub ordered : {K V : Type 0} → (K → K → Bool) → (K → K → Bool) → List (K × V) → List (K × V)
ordered before same [] = []
ordered before same (e ∷ es) = put_by before (remove_entry (same e.0) (ordered before same es)) e

-- entries stand in their order: each key comes before those behind it
abbrev pub Ascends : {K V : Type 0} → (K → K → Bool) → List (K × V) → Type 0
Ascends before [] = ⊤
Ascends before (e ∷ es) = AllByRecursion (λ k. before e.0 k ≡ true) (keys_of es) × Ascends before es
