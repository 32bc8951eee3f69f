-- What holds of each of some names.
use Rattle.std.proofs.Common.{◌≡◌, ℕ, suc, ◌||◌, Bool, true, false, List, [], ◌∷◌, All, refl, subst, arith}
use Rattle.std.specs.List.{list_any}
use Rattle.mt_names.specs.Names.{same_text}
use Rattle.mt_names.proofs.SameLemmas.{same_text_decides}

-- it holds of a name that stands among them
pub named-all : (P : List ℕ → Type 0) (names : List (List ℕ)) → All P names → (name : List ℕ) → list_any (λ n. same_text n name) names ≡ true → P name
named-all P [] all name is = absurd cc
named-all P (x ∷ xs) all name is = by (named-all P xs (λ k d below. all (suc k) d (omega arith)) name) (same_text x name) refl
  where
    by : (list_any (λ n. same_text n name) xs ≡ true → P name) → (b : Bool) → same_text x name ≡ b → P name
    by later true same = subst P ((same_text_decides x name).0 same) (all 0 [] (omega arith))
    by later false other = later (subst (λ b. (b || list_any (λ n. same_text n name) xs) ≡ true) other is)
