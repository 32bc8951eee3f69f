-- A map as the list of its entries, under a test of keys that decides their equality: what is found here, elsewhere,
-- and after what a write answered is written back, and that the keys stay distinct.
use Rattle.std.proofs.Common.{◌≡◌, ◌≢◌, ◌⊎◌, inl, inr, Bool, true, false, cond, List, [], ◌∷◌, ◌++◌, Option, None, Some, is_some, refl, sym, ap, subst, ◌∙◌}
use Rattle.std.proofs.lemmas.Bool.{true≢false, false_from_ne_true}
use Rattle.std.proofs.lemmas.Map.{keys-set_value}
use Rattle.std.specs.Bool.{Decides}
use Rattle.std.specs.Cmp.{both_ways}
use Rattle.std.specs.List.{AllByRecursion, IsDistinct}
use Rattle.std.specs.Map.{keys_of, lookup, remove_entry, set_value}

-- what isn't some is none
pub none_from : {A : Type 0} (o : Option A) → is_some o ≡ false → o ≡ None
none_from None lacks = refl
none_from (Some x) lacks = absurd (true≢false lacks)

-- what is some, is something
pub some_from : {A : Type 0} (o : Option A) → is_some o ≡ true → (x : A) × (o ≡ Some x)
some_from None has = absurd (true≢false (sym has))
some_from (Some x) has = (x, refl)

module _ {K : Type 0} (same : K → K → Bool) (decides : (a b : K) → Decides (same a b) (a ≡ b)) where
  -- a key is the same as itself, and as no other
  pub same_itself : (k : K) → same k k ≡ true
  same_itself k = (decides k k).1 refl

  pub apart : (k j : K) → k ≢ j → same k j ≡ false
  apart k j other = false_from_ne_true (same k j) (λ t. other ((decides k j).0 t))

  pub other_from : (k j : K) → same k j ≡ false → k ≢ j
  other_from k j f e = true≢false (sym ((decides k j).1 e) ∙ f)

  pub same_or_other : (k j : K) → (k ≡ j) ⊎ (k ≢ j)
  same_or_other k j = by (same k j) refl
    where
      by : (t : Bool) → same k j ≡ t → (k ≡ j) ⊎ (k ≢ j)
      by true t = inl ((decides k j).0 t)
      by false t = inr (other_from k j t)

  -- the other way round it is the same test
  pub same_turned : (k j : K) → same k j ≡ same j k
  same_turned k j = both_ways (same k j) (same j k) (λ t. (decides j k).1 (sym ((decides k j).0 t))) (λ t. (decides k j).1 (sym ((decides j k).0 t)))

-- ---- a value that is set

module _ {K V : Type 0} (same : K → K → Bool) (decides : (a b : K) → Decides (same a b) (a ≡ b)) where
  -- at its key
  pub lookup-set_value_here : (es : List (K × V)) (k : K) (v old : V) → lookup (same k) es ≡ Some old → lookup (same k) (set_value (same k) es v) ≡ Some v
  lookup-set_value_here [] k v old found = absurd cc
  lookup-set_value_here (e ∷ es) k v old found = by (lookup-set_value_here es k v old) (same k e.0) refl
    where
      by : (lookup (same k) es ≡ Some old → lookup (same k) (set_value (same k) es v) ≡ Some v) → (t : Bool) → same k e.0 ≡ t → lookup (same k) (set_value (same k) (e ∷ es) v) ≡ Some v
      by again true t = rw (t, t) refl
      by again false t = rw (t, t) (again (rw t at found))

  -- at another key
  pub lookup-set_value_elsewhere : (es : List (K × V)) (k j : K) (v : V) → k ≢ j → lookup (same j) (set_value (same k) es v) ≡ lookup (same j) es
  lookup-set_value_elsewhere [] k j v other = refl
  lookup-set_value_elsewhere (e ∷ es) k j v other = by (lookup-set_value_elsewhere es k j v other) (same k e.0) refl
    where
      by : lookup (same j) (set_value (same k) es v) ≡ lookup (same j) es → (t : Bool) → same k e.0 ≡ t → lookup (same j) (set_value (same k) (e ∷ es) v) ≡ lookup (same j) (e ∷ es)
      by again true t =
          let at_k : k ≡ e.0 = (decides k e.0).0 t in
          rw t (rw (apart same decides j e.0 (λ h. other (at_k ∙ sym h))) refl)
      by again false t = rw t (ap (cond (same j e.0) (Some e.1)) again)

  -- what was there, set again
  pub set_value-back : (es : List (K × V)) (k : K) (v old : V) → lookup (same k) es ≡ Some old → set_value (same k) (set_value (same k) es v) old ≡ es
  set_value-back [] k v old found = refl
  set_value-back (e ∷ es) k v old found = by (set_value-back es k v old) (same k e.0) refl
    where
      by : (lookup (same k) es ≡ Some old → set_value (same k) (set_value (same k) es v) old ≡ es) → (t : Bool) → same k e.0 ≡ t → set_value (same k) (set_value (same k) (e ∷ es) v) old ≡ e ∷ es
      by again true t = let is : Some e.1 ≡ Some old = rw t at found in let was : e.1 ≡ old = cc in rw (t, t) (ap (λ x. (e.0, x) ∷ es) (sym was))
      by again false t = rw (t, t) (ap (λ l. e ∷ l) (again (rw t at found)))

-- whatever the test
module _ {K V : Type 0} (same : K → K → Bool) where
  -- whether an entry is there is as before
  pub is_some-set_value : (es : List (K × V)) (k j : K) (v : V) → is_some (lookup (same j) (set_value (same k) es v)) ≡ is_some (lookup (same j) es)
  is_some-set_value [] k j v = refl
  is_some-set_value (e ∷ es) k j v = by (is_some-set_value es k j v) (same k e.0)
    where
      by : is_some (lookup (same j) (set_value (same k) es v)) ≡ is_some (lookup (same j) es)
          → (t : Bool) → is_some (lookup (same j) (cond t ((e.0, v) ∷ es) (e ∷ set_value (same k) es v))) ≡ is_some (lookup (same j) (e ∷ es))
      by again true = at_it (same j e.0)
        where
          at_it : (t : Bool) → is_some (cond t (Some v) (lookup (same j) es)) ≡ is_some (cond t (Some e.1) (lookup (same j) es))
          at_it true = refl
          at_it false = refl
      by again false = at_it (same j e.0)
        where
          at_it : (t : Bool) → is_some (cond t (Some e.1) (lookup (same j) (set_value (same k) es v))) ≡ is_some (cond t (Some e.1) (lookup (same j) es))
          at_it true = refl
          at_it false = again

-- of two values that are set one after the other the second stays
pub set_value-twice : {K V : Type 0} (test : K → Bool) (es : List (K × V)) (v w : V) → set_value test (set_value test es v) w ≡ set_value test es w
set_value-twice test [] v w = refl
set_value-twice test (e ∷ es) v w = by (set_value-twice test es v w) (test e.0) refl
  where
    by : set_value test (set_value test es v) w ≡ set_value test es w → (t : Bool) → test e.0 ≡ t → set_value test (set_value test (e ∷ es) v) w ≡ set_value test (e ∷ es) w
    by again true t = rw (t, t) refl
    by again false t = rw (t, t) (ap (λ l. e ∷ l) again)

-- ---- an entry that is added at the end

-- what stood before stays
module _ {K V : Type 0} (same : K → K → Bool) where
  pub lookup-push_stood : (es : List (K × V)) (e : K × V) (k : K) (v : V) → lookup (same k) es ≡ Some v → lookup (same k) (es ++ e ∷ []) ≡ Some v
  lookup-push_stood [] e k v stood = absurd cc
  lookup-push_stood (d ∷ es) e k v stood = by (lookup-push_stood es e k v) (same k d.0) refl
    where
      by : (lookup (same k) es ≡ Some v → lookup (same k) (es ++ e ∷ []) ≡ Some v) → (t : Bool) → same k d.0 ≡ t → lookup (same k) ((d ∷ es) ++ e ∷ []) ≡ Some v
      by again true t = rw t (rw t at stood)
      by again false t = rw t (again (rw t at stood))

  -- what wasn't there is the one added, or isn't there
  pub lookup-push_new : (es : List (K × V)) (e : K × V) (k : K) → lookup (same k) es ≡ None → lookup (same k) (es ++ e ∷ []) ≡ cond (same k e.0) (Some e.1) None
  lookup-push_new [] e k none = refl
  lookup-push_new (d ∷ es) e k none = by (lookup-push_new es e k) (same k d.0) refl
    where
      by : (lookup (same k) es ≡ None → lookup (same k) (es ++ e ∷ []) ≡ cond (same k e.0) (Some e.1) None) → (t : Bool) → same k d.0 ≡ t → lookup (same k) ((d ∷ es) ++ e ∷ []) ≡ cond (same k e.0) (Some e.1) None
      by again true t = absurd (let h = rw t at none in cc)
      by again false t = rw t (again (rw t at none))

-- of a key that wasn't there

module _ {K V : Type 0} (same : K → K → Bool) (decides : (a b : K) → Decides (same a b) (a ≡ b)) where
  -- at its key
  pub lookup-push_here : (es : List (K × V)) (k : K) (v : V) → lookup (same k) es ≡ None → lookup (same k) (es ++ (k, v) ∷ []) ≡ Some v
  lookup-push_here es k v none = lookup-push_new same es (k, v) k none ∙ ap (λ t. cond t (Some v) None) (same_itself same decides k)

  -- at another key
  pub lookup-push_elsewhere : (es : List (K × V)) (k j : K) (v : V) → k ≢ j → lookup (same j) (es ++ (k, v) ∷ []) ≡ lookup (same j) es
  lookup-push_elsewhere [] k j v other = rw (apart same decides j k (λ h. other (sym h))) refl
  lookup-push_elsewhere (e ∷ es) k j v other = ap (cond (same j e.0) (Some e.1)) (lookup-push_elsewhere es k j v other)

  -- removed again
  pub remove_entry-push : (es : List (K × V)) (k : K) (v : V) → lookup (same k) es ≡ None → remove_entry (same k) (es ++ (k, v) ∷ []) ≡ es
  remove_entry-push [] k v none = rw (same_itself same decides k) refl
  remove_entry-push (e ∷ es) k v none = by (remove_entry-push es k v) (same k e.0) refl
    where
      by : (lookup (same k) es ≡ None → remove_entry (same k) (es ++ (k, v) ∷ []) ≡ es) → (t : Bool) → same k e.0 ≡ t → remove_entry (same k) ((e ∷ es) ++ (k, v) ∷ []) ≡ e ∷ es
      by again true t = absurd (let h = rw t at none in cc)
      by again false t = rw t (ap (λ l. e ∷ l) (again (rw t at none)))

  -- ---- keys that stay distinct

  -- no key of the entries is k
  pub absent_from_lookup : (es : List (K × V)) (k : K) → lookup (same k) es ≡ None → AllByRecursion (λ j. same k j ≡ false) (keys_of es)
  absent_from_lookup [] k none = tt
  absent_from_lookup (e ∷ es) k none = by (absent_from_lookup es k) (same k e.0) refl
    where
      by : (lookup (same k) es ≡ None → AllByRecursion (λ j. same k j ≡ false) (keys_of es)) → (t : Bool) → same k e.0 ≡ t → AllByRecursion (λ j. same k j ≡ false) (keys_of (e ∷ es))
      by again true t = absurd (let h = rw t at none in cc)
      by again false t = (t, again (rw t at none))

  pub lookup_from_absent : (es : List (K × V)) (k : K) → AllByRecursion (λ j. same k j ≡ false) (keys_of es) → lookup (same k) es ≡ None
  lookup_from_absent [] k absent = refl
  lookup_from_absent (e ∷ es) k absent = rw absent.0 (lookup_from_absent es k absent.1)

  -- after a value is set
  pub IsDistinct-set_value : (es : List (K × V)) (k : K) (v : V) → IsDistinct same (keys_of es) → IsDistinct same (keys_of (set_value (same k) es v))
  IsDistinct-set_value es k v distinct = subst (IsDistinct same) (sym (keys-set_value (same k) es v)) distinct

  -- after an entry is added whose key wasn't there
  absent-push : (es : List (K × V)) (k j : K) (v : V) → AllByRecursion (λ i. same j i ≡ false) (keys_of es) → k ≢ j → AllByRecursion (λ i. same j i ≡ false) (keys_of (es ++ (k, v) ∷ []))
  absent-push [] k j v absent other = (apart same decides j k (λ h. other (sym h)), tt)
  absent-push (e ∷ es) k j v absent other = (absent.0, absent-push es k j v absent.1 other)

  pub IsDistinct-push : (es : List (K × V)) (k : K) (v : V) → lookup (same k) es ≡ None → IsDistinct same (keys_of es) → IsDistinct same (keys_of (es ++ (k, v) ∷ []))
  unfolding IsDistinct
  IsDistinct-push [] k v none distinct = (tt, tt)
  IsDistinct-push (e ∷ es) k v none distinct =
      let absent = absent_from_lookup (e ∷ es) k none in
      (absent-push es k e.0 v distinct.0 (λ h. true≢false (sym ((decides k e.0).1 h) ∙ absent.0)), IsDistinct-push es k v (lookup_from_absent es k absent.1) distinct.1)

  -- after an entry is removed
  absent-remove_entry : (test : K → Bool) (es : List (K × V)) (j : K) → AllByRecursion (λ i. same j i ≡ false) (keys_of es) → AllByRecursion (λ i. same j i ≡ false) (keys_of (remove_entry test es))
  absent-remove_entry test [] j absent = tt
  absent-remove_entry test (e ∷ es) j absent = by (absent-remove_entry test es j absent.1) (test e.0) refl
    where
      by : AllByRecursion (λ i. same j i ≡ false) (keys_of (remove_entry test es)) → (t : Bool) → test e.0 ≡ t → AllByRecursion (λ i. same j i ≡ false) (keys_of (remove_entry test (e ∷ es)))
      by again true t = rw t absent.1
      by again false t = rw t (absent.0, again)

  pub IsDistinct-remove_entry : (test : K → Bool) (es : List (K × V)) → IsDistinct same (keys_of es) → IsDistinct same (keys_of (remove_entry test es))
  unfolding IsDistinct
  IsDistinct-remove_entry test [] distinct = tt
  IsDistinct-remove_entry test (e ∷ es) distinct = by (IsDistinct-remove_entry test es distinct.1) (test e.0) refl
    where
      by : IsDistinct same (keys_of (remove_entry test es)) → (t : Bool) → test e.0 ≡ t → IsDistinct same (keys_of (remove_entry test (e ∷ es)))
      by again true t = rw t distinct.1
      by again false t = rw t (absent-remove_entry test es e.0 distinct.0, again)

  -- ---- an entry that is removed

  -- at its key
  pub lookup-remove_entry_here : (es : List (K × V)) (k : K) → IsDistinct same (keys_of es) → lookup (same k) (remove_entry (same k) es) ≡ None
  unfolding IsDistinct
  lookup-remove_entry_here [] k distinct = refl
  lookup-remove_entry_here (e ∷ es) k distinct = by (lookup-remove_entry_here es k distinct.1) (same k e.0) refl
    where
      by : lookup (same k) (remove_entry (same k) es) ≡ None → (t : Bool) → same k e.0 ≡ t → lookup (same k) (remove_entry (same k) (e ∷ es)) ≡ None
      by again true t = rw t (lookup_from_absent es k (subst (λ j. AllByRecursion (λ i. same j i ≡ false) (keys_of es)) (sym ((decides k e.0).0 t)) distinct.0))
      by again false t = rw (t, t) again

  -- at another key
  pub lookup-remove_entry_elsewhere : (es : List (K × V)) (k j : K) → k ≢ j → lookup (same j) (remove_entry (same k) es) ≡ lookup (same j) es
  lookup-remove_entry_elsewhere [] k j other = refl
  lookup-remove_entry_elsewhere (e ∷ es) k j other = by (lookup-remove_entry_elsewhere es k j other) (same k e.0) refl
    where
      by : lookup (same j) (remove_entry (same k) es) ≡ lookup (same j) es → (t : Bool) → same k e.0 ≡ t → lookup (same j) (remove_entry (same k) (e ∷ es)) ≡ lookup (same j) (e ∷ es)
      by again true t = rw t (rw (apart same decides j e.0 (λ h. other ((decides k e.0).0 t ∙ sym h))) refl)
      by again false t = rw t (ap (cond (same j e.0) (Some e.1)) again)
