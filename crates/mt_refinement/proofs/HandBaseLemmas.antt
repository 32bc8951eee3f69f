-- What a look-up finds where an entry was added.
use Rattle.std.proofs.Common.{◌≡◌, ℕ, Bool, true, false, cond, List, [], ◌∷◌, ◌++◌, None, Some, refl, sym, ap, ◌∙◌, is_some}
use Rattle.std.specs.Map.{lookup}
use Rattle.mt_names.specs.Names.{same_text}

-- what is found where an entry was added is the one that stood, or the new one, or nothing
module _ {V : Type 0} where
  is_some-push : (es : List (List ℕ × V)) (k j : List ℕ) (v : V) → is_some (lookup (same_text j) (es ++ (k, v) ∷ [])) ≡ cond (is_some (lookup (same_text j) es)) true (same_text j k)
  is_some-push [] k j v = by (same_text j k)
    where
      by : (t : Bool) → is_some (cond t (Some v) None) ≡ t
      by true = refl
      by false = refl
  is_some-push (e ∷ es) k j v = by (is_some-push es k j v) (same_text j e.0)
    where
      by : is_some (lookup (same_text j) (es ++ (k, v) ∷ [])) ≡ cond (is_some (lookup (same_text j) es)) true (same_text j k)
          → (t : Bool) → is_some (cond t (Some e.1) (lookup (same_text j) (es ++ (k, v) ∷ []))) ≡ cond (is_some (cond t (Some e.1) (lookup (same_text j) es))) true (same_text j k)
      by again true = refl
      by again false = again

pub is_some-push_both : {V W : Type 0} (es : List (List ℕ × V)) (fs : List (List ℕ × W)) (k j : List ℕ) (v : V) (w : W) → is_some (lookup (same_text j) es) ≡ is_some (lookup (same_text j) fs)
    → is_some (lookup (same_text j) (es ++ (k, v) ∷ [])) ≡ is_some (lookup (same_text j) (fs ++ (k, w) ∷ []))
is_some-push_both es fs k j v w same = is_some-push es k j v ∙ ap (λ t. cond t true (same_text j k)) same ∙ sym (is_some-push fs k j w)
