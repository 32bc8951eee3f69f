-- Keys that differ.
use Rattle.std.proofs.Common.{◌≡◌, Bool, true, false, List, [], ◌∷◌, None, refl, sym, ◌∙◌}
use Rattle.std.proofs.lemmas.Bool.{true≢false}
use Rattle.std.specs.Bool.{Decides}
use Rattle.std.specs.List.{AllByRecursion}
use Rattle.std.specs.Map.{lookup}
use Rattle.mt_names.specs.declared.keys.RuleKey.{RuleKey}
use Rattle.mt_names.specs.Same.{same_key}
use Rattle.mt_model.specs.Order.{put_by}
use Rattle.mt_model.proofs.OrderLemmas.{lookup-put_by_elsewhere}
use Rattle.mt_names.proofs.SameLemmas.{same_key_decides}

-- two tests that follow from one another
pub either_way : (s t : Bool) → (s ≡ true → t ≡ true) → (t ≡ true → s ≡ true) → s ≡ t
either_way true t f g = sym (f refl)
either_way false true f g = g refl
either_way false false f g = refl

pub flipped_key : (k l : RuleKey) → same_key k l ≡ same_key l k
flipped_key k l = either_way (same_key k l) (same_key l k) (λ t. (same_key_decides l k).1 (sym ((same_key_decides k l).0 t))) (λ t. (same_key_decides k l).1 (sym ((same_key_decides l k).0 t)))

-- no key has an entry where there is none
pub none_yet : {K : Type 0} (V : Type 0) (same : K → K → Bool) (keys : List K) → AllByRecursion (λ k. lookup {X = V} (same k) [] ≡ None) keys
none_yet V same [] = tt
none_yet V same (k ∷ keys) = (refl, none_yet V same keys)

module _ {K V : Type 0} (before : K → K → Bool) (same : K → K → Bool) (decides : (a b : K) → Decides (same a b) (a ≡ b)) where
  -- with an entry put, at a key that is none of these
  pub still_none : (es : List (K × V)) (n : K) (v : V) (keys : List K) → AllByRecursion (λ k. lookup (same k) es ≡ None) keys → AllByRecursion (λ k. same n k ≡ false) keys
      → AllByRecursion (λ k. lookup (same k) (put_by before es (n, v)) ≡ None) keys
  still_none es n v [] lacks other = tt
  still_none es n v (k ∷ keys) lacks other = (
    lookup-put_by_elsewhere before same decides es n k v (λ e. true≢false (sym ((decides n k).1 e) ∙ other.0)) ∙ lacks.0,
    still_none es n v keys lacks.1 other.1,
  )
