-- Keys that are apart, what a key that is set leaves, and what is kept of entries.
use Rattle.std.proofs.Common.{◌≡◌, ◌≢◌, ◌||◌, Bool, true, false, cond, filter, List, [], ◌∷◌, ◌++◌, Option, None, Some, refl, ap, sym, ◌∙◌}
use Rattle.std.proofs.lemmas.Bool.{true≢false}
use Rattle.std.specs.Bool.{Decides}
use Rattle.std.specs.Cmp.{IsEquivalence}
use Rattle.std.specs.List.{AllByRecursion, IsDistinct, list_any}
use Rattle.std.specs.Map.{keys_of, lookup}
use Rattle.indexmap.specs.IndexMap.{insert_entry}
use Rattle.mt_names.proofs.EntryLemmas.{apart}

-- ---- a key that is set

module _ {K V : Type 0} (same : K → K → Bool) (decides : (a b : K) → Decides (same a b) (a ≡ b)) where
  -- it has what was set
  pub set-here : (es : List (K × V)) (k : K) (v : V) → lookup (same k) (insert_entry same es k v) ≡ Some v
  set-here [] k v = let itself : same k k ≡ true = (decides k k).1 refl in rw itself refl
  set-here (e ∷ es) k v = by (same k e.0) refl (set-here es k v)
    where
      by : (b : Bool) → same k e.0 ≡ b → lookup (same k) (insert_entry same es k v) ≡ Some v → lookup (same k) (insert_entry same (e ∷ es) k v) ≡ Some v
      by true is again = rw is (rw is refl)
      by false is again = rw is (rw is again)

  -- another key has what it had
  pub set-elsewhere : (es : List (K × V)) (k : K) (v : V) (q : K) → k ≢ q → lookup (same q) (insert_entry same es k v) ≡ lookup (same q) es
  set-elsewhere [] k v q other = let differs : same q k ≡ false = apart same decides q k (λ h. other (sym h)) in rw differs refl
  set-elsewhere (e ∷ es) k v q other = by (same k e.0) refl (set-elsewhere es k v q other)
    where
      by : (b : Bool) → same k e.0 ≡ b → lookup (same q) (insert_entry same es k v) ≡ lookup (same q) es → lookup (same q) (insert_entry same (e ∷ es) k v) ≡ lookup (same q) (e ∷ es)
      by true is again =
          let k_is : k ≡ e.0 = (decides k e.0).0 is in
          let differs : same q e.0 ≡ false = apart same decides q e.0 (λ h. other (k_is ∙ sym h)) in
          rw is (rw differs refl)
      by false is again = rw is (ap (cond (same q e.0) (Some e.1)) again)

-- ---- keys that are apart

module _ {K V : Type 0} (same : K → K → Bool) (laws : IsEquivalence same) where
  apart_in : (es rest : List (K × V)) (x k : K) (v : V) → AllByRecursion (λ y. same x y ≡ false) (keys_of (es ++ (k, v) ∷ rest)) → same x k ≡ false
  apart_in [] rest x k v apart = apart.0
  apart_in (e ∷ es) rest x k v apart = apart_in es rest x k v apart.1

  -- a key isn't there before its place
  pub new_from_distinct : (es rest : List (K × V)) (k : K) (v : V) → IsDistinct same (keys_of (es ++ (k, v) ∷ rest)) → lookup (same k) es ≡ None
  unfolding IsDistinct
  new_from_distinct [] rest k v distinct = refl
  new_from_distinct (e ∷ es) rest k v distinct =
      let apart : same k e.0 ≡ false = laws.symm k e.0 ∙ apart_in es rest e.0 k v distinct.0 in
      rw apart (new_from_distinct es rest k v distinct.1)

module _ {K : Type 0} (same : K → K → Bool) (laws : IsEquivalence same) where
  apart-push : (xs : List K) (x k : K) → AllByRecursion (λ y. same x y ≡ false) xs → same x k ≡ false → AllByRecursion (λ y. same x y ≡ false) (xs ++ k ∷ [])
  apart-push [] x k apart is = (is, tt)
  apart-push (y ∷ xs) x k apart is = (apart.0, apart-push xs x k apart.1 is)

  none-of : (b c : Bool) → (b || c) ≡ false → (b ≡ false) × (c ≡ false)
  none-of true c is = absurd (true≢false is)
  none-of false c is = (refl, is)

  -- a new one behind others
  pub distinct-push : (xs : List K) (k : K) → list_any (same k) xs ≡ false → IsDistinct same xs → IsDistinct same (xs ++ k ∷ [])
  unfolding IsDistinct
  distinct-push [] k new distinct = (tt, tt)
  distinct-push (x ∷ xs) k new distinct =
      let none = none-of (same k x) (list_any (same k) xs) new in
      (apart-push xs x k distinct.0 (laws.symm x k ∙ none.0), distinct-push xs k none.1 distinct.1)

  apart-filter : (p : K → Bool) (xs : List K) (x : K) → AllByRecursion (λ y. same x y ≡ false) xs → AllByRecursion (λ y. same x y ≡ false) (filter p xs)
  apart-filter p [] x apart = tt
  apart-filter p (y ∷ xs) x apart = by (p y) (apart-filter p xs x apart.1)
    where
      by : (b : Bool) → AllByRecursion (λ z. same x z ≡ false) (filter p xs) → AllByRecursion (λ z. same x z ≡ false) (cond b (y ∷ filter p xs) (filter p xs))
      by true again = (apart.0, again)
      by false again = again

  pub distinct-filter : (p : K → Bool) (xs : List K) → IsDistinct same xs → IsDistinct same (filter p xs)
  unfolding IsDistinct
  distinct-filter p [] distinct = tt
  distinct-filter p (x ∷ xs) distinct = by (p x) (distinct-filter p xs distinct.1)
    where
      by : (b : Bool) → IsDistinct same (filter p xs) → IsDistinct same (cond b (x ∷ filter p xs) (filter p xs))
      by true again = (apart-filter p xs x distinct.0, again)
      by false again = again
