-- A fold over entries doesn't depend on their order, where no key has two entries and the steps at two keys can be exchanged.
use Rattle.std.proofs.Common.{◌≡◌, ◌≢◌, ◌⊎◌, inl, inr, Bool, true, false, List, [], ◌∷◌, flat_map, fold, Option, None, Some, refl, sym, ap, subst, ◌∙◌}
use Rattle.std.proofs.lemmas.List.Sums.{fold-append}
use Rattle.std.proofs.lemmas.Map.Keys.{IsDistinct-head, IsDistinct-tail}
use Rattle.std.specs.List.{AllByRecursion, IsDistinct}
use Rattle.std.specs.Map.{keys_of, lookup, remove_entry}
use Rattle.mt_names.specs.Same.{DecidesEquality}
use Rattle.mt_names.proofs.EntryLemmas.{IsDistinct-remove_entry, apart, lookup-remove_entry_elsewhere, lookup-remove_entry_here, lookup_from_absent, same_itself, same_or_other, same_turned}
use Rattle.mt_laws.proofs.ListLemmas.{remove_entry-all}

-- ---- one entry after the other

-- a step at a key with the value that is found for it, and none where nothing is found
abbrev pub added : {K V S : Type 0} → (S → K × V → S) → K → Option V → S → S
added step key None s = s
added step key (Some v) s = step s (key, v)

module _ {K V S : Type 0} (same : K → K → Bool) (decides : DecidesEquality same) (step : S → K × V → S) where
  module _ (P : K × V → Type 0) (swap : (s : S) (x y : K × V) → P x → P y → same x.0 y.0 ≡ false → step (step s x) y ≡ step (step s y) x) where
    -- the step at a key can be done before that at another
    added-before : (e : K × V) (es : List (K × V)) (key : K) (s : S) → same key e.0 ≡ false → P e → AllByRecursion P es
        → added step key (lookup (same key) es) (step s e) ≡ step (added step key (lookup (same key) es) s) e
    added-before e [] key s other is all = refl
    added-before e (d ∷ es) key s other is all = by (added-before e es key s other is all.1) (same key d.0) refl
      where
        by : added step key (lookup (same key) es) (step s e) ≡ step (added step key (lookup (same key) es) s) e → (t : Bool) → same key d.0 ≡ t
            → added step key (lookup (same key) (d ∷ es)) (step s e) ≡ step (added step key (lookup (same key) (d ∷ es)) s) e
        by again true t =
            let e_is : key ≡ d.0 = (decides key d.0).0 t in
            let it : P (key, d.1) = subst (λ k. P (k, d.1)) (sym e_is) all.0 in
            rw t (swap s e (key, d.1) is it (same_turned same decides e.0 key ∙ other))
        by again false t = rw t again

    -- the step at a key done first
    pulled : (key : K) (es : List (K × V)) (s : S) → AllByRecursion P es → fold step s es ≡ fold step (added step key (lookup (same key) es) s) (remove_entry (same key) es)
    pulled key [] s all = refl
    pulled key (e ∷ es) s all = by (pulled key es (step s e) all.1) (same key e.0) refl
      where
        by : fold step (step s e) es ≡ fold step (added step key (lookup (same key) es) (step s e)) (remove_entry (same key) es) → (t : Bool) → same key e.0 ≡ t
            → fold step s (e ∷ es) ≡ fold step (added step key (lookup (same key) (e ∷ es)) s) (remove_entry (same key) (e ∷ es))
        by again true t = rw t (ap (λ k. fold step (step s (k, e.1)) es) (sym ((decides key e.0).0 t)))
        by again false t = rw t (again ∙ ap (λ r. fold step r (remove_entry (same key) es)) (added-before e es key s t all.0 all.1))

    -- where each key has the same step in both lists, or none, both lists lead to the same
    abbrev Alike : (xs ys : List (K × V)) → Type 0
    Alike xs ys = (key : K) (s : S) → added step key (lookup (same key) xs) s ≡ added step key (lookup (same key) ys) s

    -- what is left of both without the first key
    alike-rest : (x : K × V) (xs ys : List (K × V)) → IsDistinct same (keys_of (x ∷ xs)) → IsDistinct same (keys_of ys) → Alike (x ∷ xs) ys → Alike xs (remove_entry (same x.0) ys)
    alike-rest x xs ys distinct others alike key s = by (same_or_other same decides x.0 key)
      where
        by : (x.0 ≡ key) ⊎ (x.0 ≢ key) → added step key (lookup (same key) xs) s ≡ added step key (lookup (same key) (remove_entry (same x.0) ys)) s
        by (inl e) =
            subst (λ k. added step k (lookup (same k) xs) s ≡ added step k (lookup (same k) (remove_entry (same x.0) ys)) s) e
            (ap (λ o. added step x.0 o s) (lookup_from_absent same decides xs x.0 (IsDistinct-head same x.0 (keys_of xs) distinct)
            ∙ sym (lookup-remove_entry_here same decides ys x.0 others)))
        by (inr other) =
            let first : same key x.0 ≡ false = apart same decides key x.0 (λ h. other (sym h)) in
            let whole : added step key (lookup (same key) xs) s ≡ added step key (lookup (same key) ys) s = rw first at (alike key s) in
            whole ∙ ap (λ o. added step key o s) (sym (lookup-remove_entry_elsewhere same decides ys x.0 key other))

    -- steps that do nothing
    no_step : (ys : List (K × V)) (s : S) → IsDistinct same (keys_of ys) → Alike ys [] → fold step s ys ≡ s
    unfolding IsDistinct
    no_step [] s distinct alike = refl
    no_step (y ∷ ys) s distinct alike =
        let first : step s y ≡ s = rw (same_itself same decides y.0) at (alike y.0 s) in
        no_step ys (step s y) (IsDistinct-tail same y.0 (keys_of ys) distinct) (alike-rest y ys [] distinct tt alike) ∙ first

    pub fold-alike : (xs ys : List (K × V)) (s : S) → IsDistinct same (keys_of xs) → IsDistinct same (keys_of ys) → AllByRecursion P ys → Alike xs ys → fold step s xs ≡ fold step s ys
    fold-alike [] ys s distinct others all alike = sym (no_step ys s others (λ key r. sym (alike key r)))
    fold-alike (x ∷ xs) ys s distinct others all alike =
        let first : step s x ≡ added step x.0 (lookup (same x.0) ys) s = rw (same_itself same decides x.0) at (alike x.0 s) in
        fold-alike xs (remove_entry (same x.0) ys) (step s x) (IsDistinct-tail same x.0 (keys_of xs) distinct) (IsDistinct-remove_entry same decides (same x.0) ys others)
        (remove_entry-all P (same x.0) ys all) (alike-rest x xs ys distinct others alike)
        ∙ ap (λ r. fold step r (remove_entry (same x.0) ys)) first ∙ sym (pulled x.0 ys s all)

-- ---- what is found for the key of each entry

module _ {K V : Type 0} (same : K → K → Bool) (decides : DecidesEquality same) where
  still_found : (d : K × V) (es xs : List (K × V)) → AllByRecursion (λ k. same d.0 k ≡ false) (keys_of xs) → AllByRecursion (λ e. lookup (same e.0) es ≡ Some e.1) xs
      → AllByRecursion (λ e. lookup (same e.0) (d ∷ es) ≡ Some e.1) xs
  still_found d es [] other all = tt
  still_found d es (x ∷ xs) other all = (let f : same x.0 d.0 ≡ false = same_turned same decides x.0 d.0 ∙ other.0 in rw f all.0, still_found d es xs other.1 all.1)

  pub each_found : (es : List (K × V)) → IsDistinct same (keys_of es) → AllByRecursion (λ e. lookup (same e.0) es ≡ Some e.1) es
  each_found [] distinct = tt
  each_found (d ∷ es) distinct = (
    rw (same_itself same decides d.0) refl,
    still_found d es es (IsDistinct-head same d.0 (keys_of es) distinct) (each_found es (IsDistinct-tail same d.0 (keys_of es) distinct)),
  )

-- ---- several steps at each item

module _ {X Y S : Type 0} (step : S → Y → S) where
  pub fold-flat_map : (f : X → List Y) (s : S) (xs : List X) → fold step s (flat_map f xs) ≡ fold (λ s x. fold step s (f x)) s xs
  fold-flat_map f s [] = refl
  fold-flat_map f s (x ∷ xs) = fold-append step s (f x) (flat_map f xs) ∙ fold-flat_map f (fold step s (f x)) xs

module _ {Y S : Type 0} (step : S → Y → S) (swap : (s : S) (x y : Y) → step (step s x) y ≡ step (step s y) x) where
  one-before : (s : S) (x : Y) (ys : List Y) → fold step (step s x) ys ≡ step (fold step s ys) x
  one-before s x [] = refl
  one-before s x (y ∷ ys) = ap (λ r. fold step r ys) (swap s x y) ∙ one-before (step s y) x ys

  pub fold-swapped : (s : S) (xs ys : List Y) → fold step (fold step s xs) ys ≡ fold step (fold step s ys) xs
  fold-swapped s [] ys = refl
  fold-swapped s (x ∷ xs) ys = fold-swapped (step s x) xs ys ∙ ap (λ r. fold step r xs) (one-before s x ys)
