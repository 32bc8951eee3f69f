-- Entries that stand in the order of their keys: what is found after one is put among them, that they stay so, and that those of
-- which each key finds the same are the same list.
use Rattle.std.proofs.Common.{◌≡◌, ◌≢◌, ℕ, suc, ◌==◌, ◌<◌, nat_lt, length, Bool, true, false, cond, if◌then◌else◌, List, [], ◌∷◌, ◌++◌, Option, None, Some, is_some, unwrap_or, refl, sym, ap, ap₂, subst, ◌∙◌, arith, is_eq, Ordering, Less, Equal, Greater}
use Rattle.std.proofs.lemmas.Bool.{true≢false, eqb-true, ltb-true, eq-eqb}
use Rattle.std.proofs.lemmas.Cmp.{nat_list_cmp_total}
use Rattle.std.proofs.lemmas.Map.Text.{is_eq-slice_cmp}
use Rattle.std.proofs.lemmas.Slice.Eq.{bytes_eq-Decides}
use Rattle.std.specs.Bool.{Decides}
use Rattle.std.proofs.lemmas.Map.{keys-set_value}
use Rattle.std.specs.Cmp.Lexicographic.{slice_cmp}
use Rattle.std.specs.List.{AllByRecursion, IsDistinct}
use Rattle.std.specs.Map.{keys_of, lookup, remove_entry, set_value}
use Rattle.std.specs.Option.{option_map_or}
use Rattle.std.specs.Ordering.{is_lt, nat_cmp, ordering_reverse, ordering_then}
use Rattle.mt_names.specs.declared.keys.RuleKey.{RuleKey}
use Rattle.mt_names.specs.declared.types.TabletType.{TabletType}
use Rattle.mt_names.specs.declared.types.TabletType.TheVariants.{Primary, Replica, Rdonly}
use Rattle.mt_names.proofs.EntryLemmas.{absent_from_lookup, apart, lookup_from_absent, lookup-remove_entry_elsewhere, lookup-remove_entry_here, lookup-set_value_elsewhere, lookup-set_value_here, other_from, same_itself}
use Rattle.mt_model.specs.Order.{Ascends, comes_before, key_before, key_code, keyspace_code, ordered, put_by}
use Rattle.mt_names.specs.Hashes.{type_number}

-- ---- an entry that is put, whatever the order

module _ {K V : Type 0} (before : K → K → Bool) where
  pub length-put_by : (es : List (K × V)) (x : K × V) → length (put_by before es x) ≡ suc (length es)
  length-put_by [] x = refl
  length-put_by (e ∷ es) x = by (length-put_by es x) (before x.0 e.0)
    where
      by : length (put_by before es x) ≡ suc (length es) → (t : Bool) → length (if t then x ∷ e ∷ es else (e ∷ put_by before es x)) ≡ suc (suc (length es))
      by again true = refl
      by again false = ap suc again

  -- what holds of each, holds of each once one is put
  pub all-put_by : (P : K → Type 0) (es : List (K × V)) (x : K × V) → P x.0 → AllByRecursion P (keys_of es) → AllByRecursion P (keys_of (put_by before es x))
  all-put_by P [] x p all = (p, tt)
  all-put_by P (e ∷ es) x p all = by (all-put_by P es x p all.1) (before x.0 e.0)
    where
      by : AllByRecursion P (keys_of (put_by before es x)) → (t : Bool) → AllByRecursion P (keys_of (if t then x ∷ e ∷ es else (e ∷ put_by before es x)))
      by again true = (p, all)
      by again false = (all.0, again)

  pub each-put_by : (P : K × V → Type 0) (es : List (K × V)) (x : K × V) → P x → AllByRecursion P es → AllByRecursion P (put_by before es x)
  each-put_by P [] x p all = (p, tt)
  each-put_by P (e ∷ es) x p all = by (each-put_by P es x p all.1) (before x.0 e.0)
    where
      by : AllByRecursion P (put_by before es x) → (t : Bool) → AllByRecursion P (if t then x ∷ e ∷ es else (e ∷ put_by before es x))
      by again true = (p, all)
      by again false = (all.0, again)

module _ {K V : Type 0} (before : K → K → Bool) (same : K → K → Bool) (decides : (a b : K) → Decides (same a b) (a ≡ b)) where
  -- at its key, of which there was none
  pub lookup-put_by_here : (es : List (K × V)) (k : K) (v : V) → lookup (same k) es ≡ None → lookup (same k) (put_by before es (k, v)) ≡ Some v
  lookup-put_by_here [] k v none = rw (same_itself same decides k) refl
  lookup-put_by_here (e ∷ es) k v none = by (lookup-put_by_here es k v) (same k e.0) refl (before k e.0) refl
    where
      by : (lookup (same k) es ≡ None → lookup (same k) (put_by before es (k, v)) ≡ Some v) → (s : Bool) → same k e.0 ≡ s → (t : Bool) → before k e.0 ≡ t → lookup (same k) (put_by before (e ∷ es) (k, v)) ≡ Some v
      by again true s t u = absurd (let h = rw s at none in cc)
      by again false s true t = rw (t, same_itself same decides k) refl
      by again false s false t = rw (t, s) (again (rw s at none))

  -- at another key
  pub lookup-put_by_elsewhere : (es : List (K × V)) (k j : K) (v : V) → k ≢ j → lookup (same j) (put_by before es (k, v)) ≡ lookup (same j) es
  lookup-put_by_elsewhere [] k j v other = rw (apart same decides j k (λ h. other (sym h))) refl
  lookup-put_by_elsewhere (e ∷ es) k j v other = by (lookup-put_by_elsewhere es k j v other) (before k e.0)
    where
      by : lookup (same j) (put_by before es (k, v)) ≡ lookup (same j) es → (t : Bool) → lookup (same j) (if t then (k, v) ∷ e ∷ es else (e ∷ put_by before es (k, v))) ≡ lookup (same j) (e ∷ es)
      by again true = rw (apart same decides j k (λ h. other (sym h))) refl
      by again false = ap (cond (same j e.0) (Some e.1)) again

  -- removed again
  pub remove_entry-put_by : (es : List (K × V)) (k : K) (v : V) → lookup (same k) es ≡ None → remove_entry (same k) (put_by before es (k, v)) ≡ es
  remove_entry-put_by [] k v none = rw (same_itself same decides k) refl
  remove_entry-put_by (e ∷ es) k v none = by (remove_entry-put_by es k v) (same k e.0) refl (before k e.0) refl
    where
      by : (lookup (same k) es ≡ None → remove_entry (same k) (put_by before es (k, v)) ≡ es) → (s : Bool) → same k e.0 ≡ s → (t : Bool) → before k e.0 ≡ t → remove_entry (same k) (put_by before (e ∷ es) (k, v)) ≡ e ∷ es
      by again true s t u = absurd (let h = rw s at none in cc)
      by again false s true t = rw (t, same_itself same decides k) refl
      by again false s false t = rw (t, s) (ap (λ l. e ∷ l) (again (rw s at none)))

  -- keys stay distinct
  pub IsDistinct-put_by : (es : List (K × V)) (k : K) (v : V) → lookup (same k) es ≡ None → IsDistinct same (keys_of es) → IsDistinct same (keys_of (put_by before es (k, v)))
  unfolding IsDistinct
  IsDistinct-put_by [] k v none distinct = (tt, tt)
  IsDistinct-put_by (e ∷ es) k v none distinct =
      let absent = absent_from_lookup same decides (e ∷ es) k none in
      let back : same e.0 k ≡ false = apart same decides e.0 k (λ h. other_from same decides k e.0 absent.0 (sym h)) in
      by absent back (IsDistinct-put_by es k v (lookup_from_absent same decides es k absent.1) distinct.1) (before k e.0)
    where
      by : AllByRecursion (λ j. same k j ≡ false) (keys_of (e ∷ es)) → same e.0 k ≡ false → IsDistinct same (keys_of (put_by before es (k, v)))
          → (t : Bool) → IsDistinct same (keys_of (if t then (k, v) ∷ e ∷ es else (e ∷ put_by before es (k, v))))
      by absent back again true = (absent, distinct)
      by absent back again false = (all-put_by before (λ j. same e.0 j ≡ false) es (k, v) back distinct.0, again)

-- a blank that is put says nothing
module _ {K V : Type 0} (before : K → K → Bool) (same : K → K → Bool) (decides : (a b : K) → Decides (same a b) (a ≡ b)) (blank : V) where
  pub at-put_by : (es : List (K × V)) (k j : K) → lookup (same k) es ≡ None → unwrap_or (lookup (same j) (put_by before es (k, blank))) blank ≡ unwrap_or (lookup (same j) es) blank
  at-put_by es k j none = by (same k j) refl
    where
      by : (t : Bool) → same k j ≡ t → unwrap_or (lookup (same j) (put_by before es (k, blank))) blank ≡ unwrap_or (lookup (same j) es) blank
      by true t =
          subst (λ i. unwrap_or (lookup (same i) (put_by before es (k, blank))) blank ≡ unwrap_or (lookup (same i) es) blank) ((decides k j).0 t)
          (ap (λ r. unwrap_or r blank) (lookup-put_by_here before same decides es k blank none) ∙ sym (ap (λ r. unwrap_or r blank) none))
      by false t = ap (λ r. unwrap_or r blank) (lookup-put_by_elsewhere before same decides es k j blank (other_from same decides k j t))

  -- a place made, unless there is one: it is there, says nothing, and its keys stay distinct
  abbrev placed : List (K × V) → K → List (K × V)
  placed es k = option_map_or (λ old. es) (lookup (same k) es) (put_by before es (k, blank))

  pub at-put_placed : (es : List (K × V)) (k j : K) → unwrap_or (lookup (same j) (placed es k)) blank ≡ unwrap_or (lookup (same j) es) blank
  at-put_placed es k j = by (lookup (same k) es) refl
    where
      by : (r : Option V) → lookup (same k) es ≡ r → unwrap_or (lookup (same j) (option_map_or (λ old. es) r (put_by before es (k, blank)))) blank ≡ unwrap_or (lookup (same j) es) blank
      by None none = at-put_by es k j none
      by (Some old) some = refl

  pub put_placed-there : (es : List (K × V)) (k : K) → is_some (lookup (same k) (placed es k)) ≡ true
  put_placed-there es k = by (lookup (same k) es) refl
    where
      by : (r : Option V) → lookup (same k) es ≡ r → is_some (lookup (same k) (option_map_or (λ old. es) r (put_by before es (k, blank)))) ≡ true
      by None none = ap is_some (lookup-put_by_here before same decides es k blank none)
      by (Some old) some = ap is_some some

  pub put_placed-elsewhere : (es : List (K × V)) (k j : K) → k ≢ j → lookup (same j) (placed es k) ≡ lookup (same j) es
  put_placed-elsewhere es k j other = by (lookup (same k) es)
    where
      by : (r : Option V) → lookup (same j) (option_map_or (λ old. es) r (put_by before es (k, blank))) ≡ lookup (same j) es
      by None = lookup-put_by_elsewhere before same decides es k j blank other
      by (Some old) = refl

  -- one that was there stays
  pub put_placed-stays : (es : List (K × V)) (k j : K) → is_some (lookup (same j) es) ≡ true → is_some (lookup (same j) (placed es k)) ≡ true
  put_placed-stays es k j there = by (same k j) refl
    where
      by : (t : Bool) → same k j ≡ t → is_some (lookup (same j) (placed es k)) ≡ true
      by true t = subst (λ i. is_some (lookup (same i) (placed es k)) ≡ true) ((decides k j).0 t) (put_placed-there es k)
      by false t = ap is_some (put_placed-elsewhere es k j (other_from same decides k j t)) ∙ there

  pub IsDistinct-put_placed : (es : List (K × V)) (k : K) → IsDistinct same (keys_of es) → IsDistinct same (keys_of (placed es k))
  IsDistinct-put_placed es k distinct = by (lookup (same k) es) refl
    where
      by : (r : Option V) → lookup (same k) es ≡ r → IsDistinct same (keys_of (option_map_or (λ old. es) r (put_by before es (k, blank))))
      by None none = IsDistinct-put_by before same decides es k blank none distinct
      by (Some old) some = distinct

-- ---- entries that stand in their order

-- an order in which of two different keys one comes before the other, and none before itself
pub record IsOrder {K : Type 0} (before : K → K → Bool) : Type 0 where
  pub itself : (k : K) → before k k ≡ false
  pub chain : (i j k : K) → before i j ≡ true → before j k ≡ true → before i k ≡ true
  pub total : (i j : K) → i ≢ j → before i j ≡ false → before j i ≡ true

module _ {K : Type 0} (before : K → K → Bool) (order : IsOrder before) where
  later : (i j : K) (keys : List K) → before i j ≡ true → AllByRecursion (λ k. before j k ≡ true) keys → AllByRecursion (λ k. before i k ≡ true) keys
  later i j [] first all = tt
  later i j (k ∷ keys) first all = (order.chain i j k first all.0, later i j keys first all.1)

module _ {K V : Type 0} (before : K → K → Bool) (order : IsOrder before) where
  not_among : (same : K → K → Bool) (decides : (a b : K) → Decides (same a b) (a ≡ b)) (k : K) (es : List (K × V)) → AllByRecursion (λ j. before k j ≡ true) (keys_of es) → lookup (same k) es ≡ None
  not_among same decides k [] all = refl
  not_among same decides k (e ∷ es) all =
      rw (apart same decides k e.0 (λ h. true≢false (sym all.0 ∙ subst (λ j. before k j ≡ false) h (order.itself k)))) (not_among same decides k es all.1)

  -- after one is put
  pub Ascends-put_by : (same : K → K → Bool) (decides : (a b : K) → Decides (same a b) (a ≡ b)) (es : List (K × V)) (k : K) (v : V) → lookup (same k) es ≡ None → Ascends before es → Ascends before (put_by before es (k, v))
  Ascends-put_by same decides [] k v none ascends = (tt, tt)
  Ascends-put_by same decides (e ∷ es) k v none ascends =
      let absent = absent_from_lookup same decides (e ∷ es) k none in
      by absent (Ascends-put_by same decides es k v (lookup_from_absent same decides es k absent.1) ascends.1) (before k e.0) refl
    where
      by : AllByRecursion (λ j. same k j ≡ false) (keys_of (e ∷ es)) → Ascends before (put_by before es (k, v)) → (t : Bool) → before k e.0 ≡ t → Ascends before (if t then (k, v) ∷ e ∷ es else (e ∷ put_by before es (k, v)))
      by absent again true t = ((t, later before order k e.0 (keys_of es) t ascends.0), ascends)
      by absent again false t = (all-put_by before (λ j. before e.0 j ≡ true) es (k, v) (order.total k e.0 (other_from same decides k e.0 absent.0) t) ascends.0, again)

  -- after a value is set
  all-set_value : (P : K → Type 0) (test : K → Bool) (es : List (K × V)) (v : V) → AllByRecursion P (keys_of es) → AllByRecursion P (keys_of (set_value test es v))
  all-set_value P test es v all = subst (AllByRecursion P) (sym (keys-set_value test es v)) all

  pub Ascends-set_value : (test : K → Bool) (es : List (K × V)) (v : V) → Ascends before es → Ascends before (set_value test es v)
  Ascends-set_value test [] v ascends = tt
  Ascends-set_value test (e ∷ es) v ascends = by (Ascends-set_value test es v ascends.1) (test e.0)
    where
      by : Ascends before (set_value test es v) → (t : Bool) → Ascends before (cond t ((e.0, v) ∷ es) (e ∷ set_value test es v))
      by again true = (ascends.0, ascends.1)
      by again false = (all-set_value (λ j. before e.0 j ≡ true) test es v ascends.0, again)

  -- after one is removed
  all-remove_entry : (P : K → Type 0) (test : K → Bool) (es : List (K × V)) → AllByRecursion P (keys_of es) → AllByRecursion P (keys_of (remove_entry test es))
  all-remove_entry P test [] all = tt
  all-remove_entry P test (e ∷ es) all = by (all-remove_entry P test es all.1) (test e.0)
    where
      by : AllByRecursion P (keys_of (remove_entry test es)) → (t : Bool) → AllByRecursion P (keys_of (cond t es (e ∷ remove_entry test es)))
      by again true = all.1
      by again false = (all.0, again)

  pub Ascends-remove_entry : (test : K → Bool) (es : List (K × V)) → Ascends before es → Ascends before (remove_entry test es)
  Ascends-remove_entry test [] ascends = tt
  Ascends-remove_entry test (e ∷ es) ascends = by (Ascends-remove_entry test es ascends.1) (test e.0)
    where
      by : Ascends before (remove_entry test es) → (t : Bool) → Ascends before (cond t es (e ∷ remove_entry test es))
      by again true = ascends.1
      by again false = (all-remove_entry (λ j. before e.0 j ≡ true) test es ascends.0, again)

  -- entries of which each key finds the same are the same
  module _ (same : K → K → Bool) (decides : (a b : K) → Decides (same a b) (a ≡ b)) where
    here : (e : K × V) (es : List (K × V)) → lookup (same e.0) (e ∷ es) ≡ Some e.1
    here e es = rw (same_itself same decides e.0) refl

    -- a first entry is found, so it isn't before all those of the other
    found_first : (x : K × V) (xs es : List (K × V)) → AllByRecursion (λ j. before x.0 j ≡ true) (keys_of es) → lookup (same x.0) (x ∷ xs) ≡ lookup (same x.0) es → ⊥
    found_first x xs es all is = let h : Some x.1 ≡ None = sym (here x xs) ∙ is ∙ not_among same decides x.0 es all in absurd cc

    -- of lists whose first keys are the same, each key finds the same behind these
    behind : (x y : K × V) (xs ys : List (K × V)) → x.0 ≡ y.0 → Ascends before (x ∷ xs) → Ascends before (y ∷ ys)
        → ((k : K) → lookup (same k) (x ∷ xs) ≡ lookup (same k) (y ∷ ys)) → (j : K) → lookup (same j) xs ≡ lookup (same j) ys
    behind x y xs ys k first second is j = by (same j x.0) refl
      where
        by : (t : Bool) → same j x.0 ≡ t → lookup (same j) xs ≡ lookup (same j) ys
        by true t =
            let at : x.0 ≡ j = sym ((decides j x.0).0 t) in
            subst (λ i. lookup (same i) xs ≡ lookup (same i) ys) at
            (not_among same decides x.0 xs first.0 ∙ sym (subst (λ i. lookup (same i) ys ≡ None) (sym k) (not_among same decides y.0 ys second.0)))
        by false t =
            sym (ap (λ b. cond b (Some x.1) (lookup (same j) xs)) t) ∙ is j ∙ ap (λ b. cond b (Some y.1) (lookup (same j) ys)) (sym (ap (same j) k) ∙ t)

    same_first : (x y : K × V) (xs ys : List (K × V)) → x.0 ≡ y.0 → lookup (same x.0) (x ∷ xs) ≡ lookup (same x.0) (y ∷ ys) → x.1 ≡ y.1
    same_first x y xs ys k is =
        let h : Some x.1 ≡ Some y.1 = sym (here x xs) ∙ is ∙ ap (λ j. lookup (same j) (y ∷ ys)) k ∙ here y ys in cc

    pub same_entries : (xs ys : List (K × V)) → Ascends before xs → Ascends before ys → ((k : K) → lookup (same k) xs ≡ lookup (same k) ys) → xs ≡ ys
    same_entries [] [] first second is = refl
    same_entries [] (y ∷ ys) first second is = let h : None ≡ Some y.1 = is y.0 ∙ here y ys in absurd cc
    same_entries (x ∷ xs) [] first second is = let h : Some x.1 ≡ None = sym (here x xs) ∙ is x.0 in absurd cc
    same_entries (x ∷ xs) (y ∷ ys) first second is = by (same_entries xs ys first.1 second.1) (same x.0 y.0) refl (before x.0 y.0) refl
      where
        by : (((k : K) → lookup (same k) xs ≡ lookup (same k) ys) → xs ≡ ys) → (t : Bool) → same x.0 y.0 ≡ t → (b : Bool) → before x.0 y.0 ≡ b → x ∷ xs ≡ y ∷ ys
        by again true t b u =
            let k : x.0 ≡ y.0 = (decides x.0 y.0).0 t in
            let e : x ≡ y = ap₂ (λ i v. (i, v)) k (same_first x y xs ys k (is x.0)) in
            ap₂ (λ h l. h ∷ l) e (again (behind x y xs ys k first second is))
        by again false t true b = absurd (found_first x xs (y ∷ ys) (b, later before order x.0 y.0 (keys_of ys) b second.0) (is x.0))
        by again false t false b =
            let a : before y.0 x.0 ≡ true = order.total x.0 y.0 (other_from same decides x.0 y.0 t) b in
            absurd (found_first y ys (x ∷ xs) (a, later before order y.0 x.0 (keys_of xs) a first.0) (sym (is y.0)))

    pub IsDistinct-Ascends : (es : List (K × V)) → Ascends before es → IsDistinct same (keys_of es)
    unfolding IsDistinct
    IsDistinct-Ascends [] ascends = tt
    IsDistinct-Ascends (e ∷ es) ascends = (absent_from_lookup same decides es e.0 (not_among same decides e.0 es ascends.0), IsDistinct-Ascends es ascends.1)

    -- ---- entries put one after another

    gone : (es : List (K × V)) (k : K) → Ascends before es → lookup (same k) (remove_entry (same k) es) ≡ None
    gone es k ascends = lookup-remove_entry_here same decides es k (IsDistinct-Ascends es ascends)

    pub Ascends-ordered : (es : List (K × V)) → Ascends before (ordered before same es)
    Ascends-ordered [] = tt
    Ascends-ordered (e ∷ es) =
        let rest = Ascends-ordered es in
        Ascends-put_by same decides (remove_entry (same e.0) (ordered before same es)) e.0 e.1 (gone (ordered before same es) e.0 rest)
        (Ascends-remove_entry (same e.0) (ordered before same es) rest)

    pub lookup-ordered : (es : List (K × V)) (k : K) → lookup (same k) (ordered before same es) ≡ lookup (same k) es
    lookup-ordered [] k = refl
    lookup-ordered (e ∷ es) k = by (lookup-ordered es k) (same k e.0) refl
      where
        rest : List (K × V)
        rest = remove_entry (same e.0) (ordered before same es)

        by : lookup (same k) (ordered before same es) ≡ lookup (same k) es → (t : Bool) → same k e.0 ≡ t → lookup (same k) (put_by before rest e) ≡ lookup (same k) (e ∷ es)
        by again true t =
            subst (λ j. lookup (same j) (put_by before rest e) ≡ lookup (same j) (e ∷ es)) (sym ((decides k e.0).0 t))
            (lookup-put_by_here before same decides rest e.0 e.1 (gone (ordered before same es) e.0 (Ascends-ordered es)) ∙ sym (here e es))
        by again false t =
            let other : e.0 ≢ k = λ h. other_from same decides k e.0 t (sym h) in
            lookup-put_by_elsewhere before same decides rest e.0 k e.1 other
            ∙ lookup-remove_entry_elsewhere same decides (ordered before same es) e.0 k other
            ∙ again ∙ sym (ap (λ b. cond b (Some e.1) (lookup (same k) es)) t)

    -- ---- what differs at one key

    -- an entry more
    pub is_put : (xs ys : List (K × V)) (k : K) (v : V) → Ascends before xs → Ascends before ys → lookup (same k) xs ≡ None → lookup (same k) ys ≡ Some v
        → ((j : K) → k ≢ j → lookup (same j) ys ≡ lookup (same j) xs) → ys ≡ put_by before xs (k, v)
    is_put xs ys k v first second none some elsewhere =
        same_entries ys (put_by before xs (k, v)) second (Ascends-put_by same decides xs k v none first) (λ j. by j (same k j) refl)
      where
        by : (j : K) (t : Bool) → same k j ≡ t → lookup (same j) ys ≡ lookup (same j) (put_by before xs (k, v))
        by j true t = subst (λ i. lookup (same i) ys ≡ lookup (same i) (put_by before xs (k, v))) ((decides k j).0 t) (some ∙ sym (lookup-put_by_here before same decides xs k v none))
        by j false t =
            let other = other_from same decides k j t in
            elsewhere j other ∙ sym (lookup-put_by_elsewhere before same decides xs k j v other)

    -- another value
    pub is_set : (xs ys : List (K × V)) (k : K) (v old : V) → Ascends before xs → Ascends before ys → lookup (same k) xs ≡ Some old → lookup (same k) ys ≡ Some v
        → ((j : K) → k ≢ j → lookup (same j) ys ≡ lookup (same j) xs) → ys ≡ set_value (same k) xs v
    is_set xs ys k v old first second stood some elsewhere =
        same_entries ys (set_value (same k) xs v) second (Ascends-set_value (same k) xs v first) (λ j. by j (same k j) refl)
      where
        by : (j : K) (t : Bool) → same k j ≡ t → lookup (same j) ys ≡ lookup (same j) (set_value (same k) xs v)
        by j true t = subst (λ i. lookup (same i) ys ≡ lookup (same i) (set_value (same k) xs v)) ((decides k j).0 t) (some ∙ sym (lookup-set_value_here same decides xs k v old stood))
        by j false t =
            let other = other_from same decides k j t in
            elsewhere j other ∙ sym (lookup-set_value_elsewhere same decides xs k j v other)

    -- an entry less
    pub is_removed : (xs ys : List (K × V)) (k : K) → Ascends before xs → Ascends before ys → lookup (same k) ys ≡ None
        → ((j : K) → k ≢ j → lookup (same j) ys ≡ lookup (same j) xs) → ys ≡ remove_entry (same k) xs
    is_removed xs ys k first second none elsewhere =
        same_entries ys (remove_entry (same k) xs) second (Ascends-remove_entry (same k) xs first) (λ j. by j (same k j) refl)
      where
        by : (j : K) (t : Bool) → same k j ≡ t → lookup (same j) ys ≡ lookup (same j) (remove_entry (same k) xs)
        by j true t = subst (λ i. lookup (same i) ys ≡ lookup (same i) (remove_entry (same k) xs)) ((decides k j).0 t) (none ∙ sym (gone xs k first))
        by j false t =
            let other = other_from same decides k j t in
            elsewhere j other ∙ sym (lookup-remove_entry_elsewhere same decides xs k j other)

    -- a place made where there was none
    pub Ascends-placed : (es : List (K × V)) (k : K) (v : V) → Ascends before es → Ascends before (option_map_or (λ old. es) (lookup (same k) es) (put_by before es (k, v)))
    Ascends-placed es k v ascends = by (lookup (same k) es) refl
      where
        by : (o : Option V) → lookup (same k) es ≡ o → Ascends before (option_map_or (λ old. es) o (put_by before es (k, v)))
        by None none = Ascends-put_by same decides es k v none ascends
        by (Some old) some = ascends

-- two that are put, in either order
module _ {K : Type 0} (before : K → K → Bool) (order : IsOrder before) where
  pub one_way : (a b : K) → before a b ≡ true → before b a ≡ false
  one_way a b is = by (before b a) refl
    where
      by : (t : Bool) → before b a ≡ t → before b a ≡ false
      by true t = absurd (true≢false (sym (order.chain a b a is t) ∙ order.itself a))
      by false t = t

  -- of two the one that comes before a third that the other doesn't come before isn't behind the other
  pub not_after : (a b c : K) → before a c ≡ true → before b c ≡ false → before b a ≡ false
  not_after a b c first second = by (before b a) refl
    where
      by : (t : Bool) → before b a ≡ t → before b a ≡ false
      by true t = absurd (true≢false (sym (order.chain b a c t first) ∙ second))
      by false t = t

module _ {K V : Type 0} (before : K → K → Bool) (order : IsOrder before) where
  first_two : (k n : K) (v w : V) (rest : List (K × V)) (t u : Bool) → before n k ≡ t → before k n ≡ u → k ≢ n
      → (if before n k then (n, w) ∷ (k, v) ∷ rest else ((k, v) ∷ (n, w) ∷ rest)) ≡ (if before k n then (k, v) ∷ (n, w) ∷ rest else ((n, w) ∷ (k, v) ∷ rest))
  first_two k n v w rest true true t u other = absurd (true≢false (sym u ∙ one_way before order n k t))
  first_two k n v w rest true false t u other = rw (t, u) refl
  first_two k n v w rest false true t u other = rw (t, u) refl
  first_two k n v w rest false false t u other = absurd (true≢false (sym (order.total n k (λ e. other (sym e)) t) ∙ u))

  pub put-put : (es : List (K × V)) (k n : K) (v w : V) → k ≢ n → put_by before (put_by before es (k, v)) (n, w) ≡ put_by before (put_by before es (n, w)) (k, v)
  put-put [] k n v w other = first_two k n v w [] (before n k) (before k n) refl refl other
  put-put (e ∷ es) k n v w other = by (put-put es k n v w other) (before k e.0) refl (before n e.0) refl
    where
      by : put_by before (put_by before es (k, v)) (n, w) ≡ put_by before (put_by before es (n, w)) (k, v) → (t : Bool) → before k e.0 ≡ t → (u : Bool) → before n e.0 ≡ u
          → put_by before (put_by before (e ∷ es) (k, v)) (n, w) ≡ put_by before (put_by before (e ∷ es) (n, w)) (k, v)
      by again true t true u = rw (t, u, t) (first_two k n v w (e ∷ es) (before n k) (before k n) refl refl other)
      by again true t false u = rw (t, u, not_after before order k n e.0 t u) (rw t refl)
      by again false t true u = rw (t, u, not_after before order n k e.0 u t) (rw t refl)
      by again false t false u = rw (t, u, t) (ap (λ l. e ∷ l) again)

-- ---- the order of rule keys

abbrev cmp : List ℕ → List ℕ → Ordering
cmp a b = slice_cmp nat_cmp a b

at_byte : (a b : ℕ) (before : Bool) (rest : Ordering) → before ≡ is_lt rest → (e t : Bool) → (a == b) ≡ e → nat_lt a b ≡ t → (if a == b then before else nat_lt a b) ≡ is_lt (ordering_then (nat_cmp a b) rest)
at_byte a b before rest is true true e t = absurd (let same : a ≡ b = eqb-true a b e in let below : a < b = ltb-true a b t in omega (arith, same, below))
at_byte a b before rest is true false e t = rw (e, t) is
at_byte a b before rest is false true e t = rw (e, t) refl
at_byte a b before rest is false false e t = rw (e, t) refl

pub comes_before-is : (a b : List ℕ) → comes_before a b ≡ is_lt (cmp a b)
comes_before-is [] [] = refl
comes_before-is [] (b ∷ bs) = refl
comes_before-is (a ∷ as') [] = refl
comes_before-is (a ∷ as') (b ∷ bs) = at_byte a b _ _ (comes_before-is as' bs) (a == b) (nat_lt a b) refl refl

less_from : (o : Ordering) → is_lt o ≡ true → o ≡ Less
less_from Less e = refl
less_from Equal e = absurd (true≢false (sym e))
less_from Greater e = absurd (true≢false (sym e))

nat_itself : (n : ℕ) → (n == n) ≡ true
nat_itself n = eq-eqb n n refl

before_itself : (a : List ℕ) → comes_before a a ≡ false
before_itself [] = refl
before_itself (x ∷ xs) = rw (nat_itself x) (before_itself xs)

turned : (a b : List ℕ) → a ≢ b → (o : Ordering) → cmp a b ≡ o → is_lt (cmp a b) ≡ false → comes_before b a ≡ true
turned a b other Less is not = absurd (true≢false (sym (ap is_lt is) ∙ not))
turned a b other Equal is not = absurd (other ((bytes_eq-Decides a b).0 (sym (is_eq-slice_cmp a b) ∙ ap is_eq is)))
turned a b other Greater is not = comes_before-is b a ∙ ap is_lt (nat_list_cmp_total.antisymm b a ∙ ap ordering_reverse is)

-- of three texts
pub between : (a b c : List ℕ) → comes_before a b ≡ true → comes_before b c ≡ true → comes_before a c ≡ true
between a b c first second =
    comes_before-is a c ∙ ap is_lt (nat_list_cmp_total.trans a b c (less_from (cmp a b) (sym (comes_before-is a b) ∙ first)) (less_from (cmp b c) (sym (comes_before-is b c) ∙ second)))

-- no two keys have one code
same_type : (s t : Option TabletType) → type_number s ≡ type_number t → s ≡ t
same_type None None e = refl
same_type None (Some Primary) e = absurd cc
same_type None (Some Replica) e = absurd cc
same_type None (Some Rdonly) e = absurd cc
same_type (Some Primary) None e = absurd cc
same_type (Some Primary) (Some Primary) e = refl
same_type (Some Primary) (Some Replica) e = absurd cc
same_type (Some Primary) (Some Rdonly) e = absurd cc
same_type (Some Replica) None e = absurd cc
same_type (Some Replica) (Some Primary) e = absurd cc
same_type (Some Replica) (Some Replica) e = refl
same_type (Some Replica) (Some Rdonly) e = absurd cc
same_type (Some Rdonly) None e = absurd cc
same_type (Some Rdonly) (Some Primary) e = absurd cc
same_type (Some Rdonly) (Some Replica) e = absurd cc
same_type (Some Rdonly) (Some Rdonly) e = refl

split_same : (as' bs u v : List ℕ) → length as' ≡ length bs → as' ++ u ≡ bs ++ v → (as' ≡ bs) × (u ≡ v)
split_same [] [] u v n e = (refl, e)
split_same [] (b ∷ bs) u v n e = absurd cc
split_same (a ∷ as') [] u v n e = absurd cc
split_same (a ∷ as') (b ∷ bs) u v n e =
    let head : a ≡ b = cc in
    let tail : as' ++ u ≡ bs ++ v = cc in
    let rest = split_same as' bs u v (let m : length as' ≡ length bs = cc in m) tail in
    (ap₂ (λ h t. h ∷ t) head rest.0, rest.1)

same_name : (k l : Option (List ℕ)) (t u : List ℕ) → keyspace_code k ++ t ≡ keyspace_code l ++ u → (k ≡ l) × (t ≡ u)
same_name None None t u e = (refl, cc)
same_name None (Some l) t u e = absurd cc
same_name (Some k) None t u e = absurd cc
same_name (Some k) (Some l) t u e =
    let lengths : length k ≡ length l = cc in
    let texts : k ++ t ≡ l ++ u = cc in
    let rest = split_same k l t u lengths texts in
    (ap (λ s. Some s) rest.0, rest.1)

abbrev parts : Option (List ℕ) → List ℕ → Option TabletType → RuleKey
parts k t s = record { keyspace = k; table = t; tablet_type = s }

of_parts : (k l : Option (List ℕ)) (t u : List ℕ) (s r : Option TabletType) → k ≡ l → t ≡ u → s ≡ r → parts k t s ≡ parts l u r
of_parts k l t u s r first second third = rw (first, second, third) refl

code_same : (a b : RuleKey) → key_code a ≡ key_code b → a ≡ b
code_same a b e =
    let type : type_number a.tablet_type ≡ type_number b.tablet_type = cc in
    let names : keyspace_code a.keyspace ++ a.table ≡ keyspace_code b.keyspace ++ b.table = cc in
    let name = same_name a.keyspace b.keyspace a.table b.table names in
    of_parts a.keyspace b.keyspace a.table b.table a.tablet_type b.tablet_type name.0 name.1 (same_type a.tablet_type b.tablet_type type)

-- the rules of a topology stand in an order
pub key_order : IsOrder key_before
key_order = record {
  itself = λ k. before_itself (key_code k);
  chain = λ i j k first second. between (key_code i) (key_code j) (key_code k) first second;
  total = λ i j other not. turned (key_code i) (key_code j) (λ e. other (code_same i j e)) (cmp (key_code i) (key_code j)) refl (sym (comes_before-is (key_code i) (key_code j)) ∙ not);
}
