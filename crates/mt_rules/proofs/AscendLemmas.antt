-- Items that were sorted by their texts, which differ, are those that are put one after another by their texts.
use Rattle.std.proofs.Common.{◌≡◌, ◌⊎◌, inl, inr, ◌+◌, ℕ, suc, Bool, true, false, if◌then◌else◌, List, [], ◌∷◌, ◌++◌, map, fold, get_or, append-nil, All, refl, sym, ap, ap₂, subst, ◌∙◌, arith, is_eq, Ordering, Less, Equal, Greater}
use Rattle.std.proofs.lemmas.Bool.{true≢false}
use Rattle.std.proofs.lemmas.Cmp.{nat_list_cmp_total, nat_list_eq_equiv}
use Rattle.std.proofs.lemmas.List.Elements.{recursion_from_All, All-from_recursion}
use Rattle.std.proofs.lemmas.List.Sorted.{All-permutation, IsPermutation-append_right, IsPermutation-cons, IsPermutation-map, IsPermutation-middle, IsPermutation-refl, IsPermutation-sym, IsPermutation-trans, ranks_by, sorted_far}
use Rattle.std.proofs.lemmas.Map.Keys.{IsDistinct-IsPermutation}
use Rattle.std.proofs.lemmas.Map.Text.{is_eq-slice_cmp}
use Rattle.std.proofs.lemmas.Slice.Eq.{bytes_eq-Decides}
use Rattle.std.specs.Cmp.{IsStrictWeakOrder}
use Rattle.std.specs.Cmp.Lexicographic.{slice_cmp}
use Rattle.std.specs.List.{AllByRecursion, IsDistinct}
use Rattle.std.specs.List.Sorted.{IsPermutation, IsSortedBy}
use Rattle.std.specs.Ordering.{is_lt, nat_cmp, ordering_reverse}
use Rattle.std.specs.Prelude.{⊤}
use Rattle.mt_names.specs.Names.{same_text}
use Rattle.mt_names.proofs.SameLemmas.{same_text_decides}
use Rattle.mt_model.specs.Documents.{comes_before, put_by_text}
use Rattle.mt_rules.proofs.PutLemmas.{all-put, comes_before-is}

abbrev cmp : List ℕ → List ℕ → Ordering
cmp a b = slice_cmp nat_cmp a b

-- ---- the order

pub ranks : {X : Type 0} (text : X → List ℕ) → IsStrictWeakOrder (λ x y. is_lt (cmp (text x) (text y)))
ranks text = ranks_by nat_list_cmp_total text

one_way : (a b : List ℕ) → comes_before a b ≡ true → comes_before b a ≡ false
one_way a b is = comes_before-is b a ∙ (ranks (λ t. t)).one_way a b (sym (comes_before-is a b) ∙ is)

chain : (a b c : List ℕ) → comes_before a b ≡ false → comes_before b c ≡ false → comes_before a c ≡ false
chain a b c first second = comes_before-is a c ∙ (ranks (λ t. t)).chain a b c (sym (comes_before-is a b) ∙ first) (sym (comes_before-is b c) ∙ second)

-- one that is not after another and differs is before it
below : (a b : List ℕ) → comes_before b a ≡ false → same_text a b ≡ false → cmp a b ≡ Less
below a b behind other = by (cmp a b) refl
  where
    by : (o : Ordering) → cmp a b ≡ o → cmp a b ≡ Less
    by Less is = is
    by Equal is = absurd (true≢false (sym ((same_text_decides a b).1 ((bytes_eq-Decides a b).0 (sym (is_eq-slice_cmp a b) ∙ ap is_eq is))) ∙ other))
    by Greater is = absurd (true≢false (sym (ap is_lt (nat_list_cmp_total.antisymm b a ∙ ap ordering_reverse is)) ∙ sym (comes_before-is b a) ∙ behind))

-- no two are below one another
not_both : (a b : List ℕ) → cmp a b ≡ Less → cmp b a ≡ Less → ⊥
not_both a b first second = true≢false (sym (comes_before-is a b ∙ ap is_lt first) ∙ one_way b a (comes_before-is b a ∙ ap is_lt second))

module _ {A : Type 0} where
  -- ---- none before one whose text comes later

  abbrev pub Rises : List (List ℕ × A) → Type 0
  Rises [] = ⊤
  Rises (x ∷ xs) = AllByRecursion (λ y. comes_before y.0 x.0 ≡ false) xs × Rises xs

  behind : (x y : List ℕ × A) (zs : List (List ℕ × A)) → comes_before y.0 x.0 ≡ false → AllByRecursion (λ z. comes_before z.0 y.0 ≡ false) zs → AllByRecursion (λ z. comes_before z.0 x.0 ≡ false) zs
  behind x y [] is all = tt
  behind x y (z ∷ zs) is all = (chain z.0 y.0 x.0 all.0 is, behind x y zs is all.1)

  rises-put : (xs : List (List ℕ × A)) (x : List ℕ × A) → Rises xs → Rises (put_by_text xs x)
  rises-put [] x rises = (tt, tt)
  rises-put (y ∷ ys) x rises = by (rises-put ys x rises.1) (comes_before x.0 y.0) refl
    where
      by : Rises (put_by_text ys x) → (b : Bool) → comes_before x.0 y.0 ≡ b → Rises (if b then x ∷ y ∷ ys else (y ∷ put_by_text ys x))
      by later true is = ((one_way x.0 y.0 is, behind x y ys (one_way x.0 y.0 is) rises.0), rises)
      by later false is = (all-put (λ z. comes_before z.0 y.0 ≡ false) ys x is rises.0, later)

  rises-sort : (xs left : List (List ℕ × A)) → Rises xs → Rises (fold put_by_text xs left)
  rises-sort xs [] rises = rises
  rises-sort xs (x ∷ left) rises = rises-sort (put_by_text xs x) left (rises-put xs x rises)

  -- ---- the same items

  permutation-put : (xs : List (List ℕ × A)) (x : List ℕ × A) → IsPermutation (x ∷ xs) (put_by_text xs x)
  permutation-put [] x = IsPermutation-refl (x ∷ [])
  permutation-put (y ∷ ys) x = by (permutation-put ys x) (comes_before x.0 y.0)
    where
      by : IsPermutation (x ∷ ys) (put_by_text ys x) → (b : Bool) → IsPermutation (x ∷ y ∷ ys) (if b then x ∷ y ∷ ys else (y ∷ put_by_text ys x))
      by later true = IsPermutation-refl (x ∷ y ∷ ys)
      by later false = IsPermutation-trans (x ∷ y ∷ ys) (y ∷ x ∷ ys) (y ∷ put_by_text ys x) (IsPermutation-middle (x ∷ []) y ys) (IsPermutation-cons y (x ∷ ys) (put_by_text ys x) later)

  permutation-sort : (xs left : List (List ℕ × A)) → IsPermutation (left ++ xs) (fold put_by_text xs left)
  permutation-sort xs [] = IsPermutation-refl xs
  permutation-sort xs (x ∷ left) =
      let sorted = fold put_by_text (put_by_text xs x) left in
      let moved : IsPermutation (x ∷ (left ++ xs)) (left ++ x ∷ xs) = IsPermutation-sym (left ++ x ∷ xs) (x ∷ (left ++ xs)) (IsPermutation-middle left x xs) in
      let put : IsPermutation (left ++ x ∷ xs) (left ++ put_by_text xs x) = IsPermutation-append_right left (x ∷ xs) (put_by_text xs x) (permutation-put xs x) in
      IsPermutation-trans (x ∷ (left ++ xs)) (left ++ x ∷ xs) sorted moved (IsPermutation-trans (left ++ x ∷ xs) (left ++ put_by_text xs x) sorted put (permutation-sort (put_by_text xs x) left))

  -- ---- each below those after it

  abbrev Ascends : List (List ℕ × A) → Type 0
  Ascends [] = ⊤
  Ascends (x ∷ xs) = AllByRecursion (λ y. cmp x.0 y.0 ≡ Less) xs × Ascends xs

  below_all : (x : List ℕ × A) (ys : List (List ℕ × A)) → AllByRecursion (λ y. comes_before y.0 x.0 ≡ false) ys → AllByRecursion (λ t. same_text x.0 t ≡ false) (map (λ y. y.0) ys) → AllByRecursion (λ y. cmp x.0 y.0 ≡ Less) ys
  below_all x [] rises other = tt
  below_all x (y ∷ ys) rises other = (below x.0 y.0 rises.0 other.0, below_all x ys rises.1 other.1)

  ascends : (xs : List (List ℕ × A)) → Rises xs → IsDistinct same_text (map (λ x. x.0) xs) → Ascends xs
  unfolding IsDistinct
  ascends [] rises distinct = tt
  ascends (x ∷ xs) rises distinct = (below_all x xs rises.0 distinct.0, ascends xs rises.1 distinct.1)

  -- ---- such lists are known by what stands in them

  to_either : (P Q : List ℕ × A → Type 0) (xs : List (List ℕ × A)) → AllByRecursion Q xs → AllByRecursion (λ z. P z ⊎ Q z) xs
  to_either P Q [] all = tt
  to_either P Q (x ∷ xs) all = (inr all.0, to_either P Q xs all.1)

  meet : (x y : List ℕ × A) → (y ≡ x) ⊎ (cmp x.0 y.0 ≡ Less) → (x ≡ y) ⊎ (cmp y.0 x.0 ≡ Less) → x ≡ y
  meet x y (inl is) other = sym is
  meet x y (inr low) (inl is) = is
  meet x y (inr low) (inr high) = absurd (not_both x.0 y.0 low high)

  other_than : (P : List ℕ × A → Type 0) (x z : List ℕ × A) → cmp x.0 z.0 ≡ Less → (z ≡ x) ⊎ P z → P z
  other_than P x z low (inl is) = let same : cmp x.0 x.0 ≡ Less = ap (λ w. cmp x.0 w.0) (sym is) ∙ low in absurd (not_both x.0 x.0 same same)
  other_than P x z low (inr p) = p

  others : (P : List ℕ × A → Type 0) (x : List ℕ × A) (zs : List (List ℕ × A)) → AllByRecursion (λ z. cmp x.0 z.0 ≡ Less) zs → AllByRecursion (λ z. (z ≡ x) ⊎ P z) zs → AllByRecursion P zs
  others P x [] low all = tt
  others P x (z ∷ zs) low all = (other_than P x z low.0 all.0, others P x zs low.1 all.1)

  same_items : (xs ys : List (List ℕ × A)) → Ascends xs → Ascends ys → ((P : List ℕ × A → Type 0) → AllByRecursion P xs → AllByRecursion P ys) → ((P : List ℕ × A → Type 0) → AllByRecursion P ys → AllByRecursion P xs) → xs ≡ ys
  same_items [] [] up down to from = refl
  same_items [] (y ∷ ys) up down to from = absurd ((to (λ z. ⊥) tt).0)
  same_items (x ∷ xs) [] up down to from = absurd ((from (λ z. ⊥) tt).0)
  same_items (x ∷ xs) (y ∷ ys) up down to from =
      let first : x ≡ y =
      meet x y ((to (λ z. (z ≡ x) ⊎ (cmp x.0 z.0 ≡ Less)) (inl refl, to_either (λ z. z ≡ x) (λ z. cmp x.0 z.0 ≡ Less) xs up.0)).0)
      ((from (λ z. (z ≡ y) ⊎ (cmp y.0 z.0 ≡ Less)) (inl refl, to_either (λ z. z ≡ y) (λ z. cmp y.0 z.0 ≡ Less) ys down.0)).0) in
      let down_x : AllByRecursion (λ z. cmp x.0 z.0 ≡ Less) ys = subst (λ w. AllByRecursion (λ z. cmp w.0 z.0 ≡ Less) ys) (sym first) down.0 in
      let up_y : AllByRecursion (λ z. cmp y.0 z.0 ≡ Less) xs = subst (λ w. AllByRecursion (λ z. cmp w.0 z.0 ≡ Less) xs) first up.0 in
      ap₂ (λ z zs. z ∷ zs) first
      (same_items xs ys up.1 down.1 (λ P all. others P x ys down_x (to (λ z. (z ≡ x) ⊎ P z) (inl refl, to_either (λ z. z ≡ x) P xs all)).1)
      (λ P all. others P y xs up_y (from (λ z. (z ≡ y) ⊎ P z) (inl refl, to_either (λ z. z ≡ y) P ys all)).1))

  keeps : (P : List ℕ × A → Type 0) (xs ys : List (List ℕ × A)) → IsPermutation xs ys → AllByRecursion P xs → AllByRecursion P ys
  keeps P xs ys same all = recursion_from_All P ys (All-permutation P xs ys same (All-from_recursion P xs all))

  still_distinct : (xs ys : List (List ℕ × A)) → IsPermutation xs ys → IsDistinct same_text (map (λ x. x.0) xs) → IsDistinct same_text (map (λ x. x.0) ys)
  still_distinct xs ys same = IsDistinct-IsPermutation same_text nat_list_eq_equiv.symm (map (λ x. x.0) xs) (map (λ x. x.0) ys) (IsPermutation-map (λ x. x.0) xs ys same)

  pub sorted_is_put : (xs ys : List (List ℕ × A)) → IsPermutation xs ys → Rises ys → IsDistinct same_text (map (λ x. x.0) xs) → ys ≡ fold put_by_text [] xs
  sorted_is_put xs ys same rises distinct =
      let sorted = fold put_by_text [] xs in
      let made : IsPermutation xs sorted = subst (λ l. IsPermutation l sorted) (append-nil xs) (permutation-sort [] xs) in
      let across : IsPermutation ys sorted = IsPermutation-trans ys xs sorted (IsPermutation-sym xs ys same) made in
      same_items ys sorted (ascends ys rises (still_distinct xs ys same distinct)) (ascends sorted (rises-sort [] xs tt) (still_distinct xs sorted made distinct)) (λ P. keeps P ys sorted across)
      (λ P. keeps P sorted ys (IsPermutation-sym ys sorted across))

-- ---- what a sort answers

module _ {X A : Type 0} (item : X → List ℕ × A) where
  all-map : (P : List ℕ × A → Type 0) (xs : List X) → AllByRecursion (λ x. P (item x)) xs → AllByRecursion P (map item xs)
  all-map P [] all = tt
  all-map P (x ∷ xs) all = (all.0, all-map P xs all.1)

  rest_sorted : (x : X) (xs : List X) → IsSortedBy (λ y z. is_lt (cmp (item y).0 (item z).0)) (x ∷ xs) → IsSortedBy (λ y z. is_lt (cmp (item y).0 (item z).0)) xs
  rest_sorted x xs sorted = λ k d low high.
      let next : suc k + 1 ≡ suc (k + 1) = omega arith in
      subst (λ n. is_lt (cmp (item (get_or (x ∷ xs) n d)).0 (item (get_or xs k d)).0) ≡ false) next (sorted (suc k) d (omega arith) (omega arith))

  pub rises_from_sorted : (xs : List X) → IsSortedBy (λ y z. is_lt (cmp (item y).0 (item z).0)) xs → Rises (map item xs)
  rises_from_sorted [] sorted = tt
  rises_from_sorted (x ∷ xs) sorted =
      let later : All (λ y. comes_before (item y).0 (item x).0 ≡ false) xs =
      λ k d within. comes_before-is (item (get_or xs k d)).0 (item x).0 ∙ sorted_far (λ y z. is_lt (cmp (item y).0 (item z).0)) (ranks (λ y. (item y).0)) (x ∷ xs) sorted 0 (suc k) d (omega arith) (omega arith) in
      (all-map (λ y. comes_before y.0 (item x).0 ≡ false) xs (recursion_from_All (λ y. comes_before (item y).0 (item x).0 ≡ false) xs later), rises_from_sorted xs (rest_sorted x xs sorted))

-- ---- what stands under the texts, in another form

module _ {A B : Type 0} (f : A → B) where
  abbrev pub under : List ℕ × A → List ℕ × B
  under x = (x.0, f x.1)

  put-map : (xs : List (List ℕ × A)) (x : List ℕ × A) → map under (put_by_text xs x) ≡ put_by_text (map under xs) (under x)
  put-map [] x = refl
  put-map (y ∷ ys) x = by (put-map ys x) (comes_before x.0 y.0)
    where
      by : map under (put_by_text ys x) ≡ put_by_text (map under ys) (under x) → (b : Bool)
          → map under (if b then x ∷ y ∷ ys else (y ∷ put_by_text ys x)) ≡ (if b then under x ∷ under y ∷ map under ys else (under y ∷ put_by_text (map under ys) (under x)))
      by later true = refl
      by later false = ap (λ l. under y ∷ l) later

  pub sort-map : (xs left : List (List ℕ × A)) → map under (fold put_by_text xs left) ≡ fold put_by_text (map under xs) (map under left)
  sort-map xs [] = refl
  sort-map xs (x ∷ left) = sort-map (put_by_text xs x) left ∙ ap (λ l. fold put_by_text l (map under left)) (put-map xs x)

  pub seconds : (xs : List (List ℕ × A)) → map (λ x. x.1) (map under xs) ≡ map f (map (λ x. x.1) xs)
  seconds [] = refl
  seconds (x ∷ xs) = ap (λ l. f x.1 ∷ l) (seconds xs)
