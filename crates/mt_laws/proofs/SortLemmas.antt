-- Sorting by texts as a fold whose steps can be exchanged: texts that differ have one order, and what has the same text is the same.
use Rattle.std.proofs.Common.{◌≡◌, ℕ, ◌==◌, ◌<◌, nat_lt, if◌then◌else◌, Bool, true, false, List, [], ◌∷◌, map, fold, refl, sym, ap, ◌∙◌, arith, Ordering, Less, Equal, Greater}
use Rattle.std.proofs.lemmas.Bool.{true≢false, eqb-true, ltb-true}
use Rattle.std.proofs.lemmas.Cmp.{nat_list_cmp_total}
use Rattle.std.proofs.lemmas.List.Folds.{fold-map}
use Rattle.std.proofs.lemmas.Map.Text.{is_eq-slice_cmp}
use Rattle.std.proofs.lemmas.Slice.Eq.{bytes_eq-Decides}
use Rattle.std.specs.Cmp.Lexicographic.{slice_cmp}
use Rattle.std.specs.Ordering.{is_eq, is_lt, nat_cmp, ordering_reverse, ordering_then}
use Rattle.mt_model.specs.Documents.{comes_before, put_by_text, sorted_by_text}
use Rattle.mt_model.proofs.OrderLemmas.{between, comes_before-is}

abbrev cmp : List ℕ → List ℕ → Ordering
cmp a b = slice_cmp nat_cmp a b

module _ {A : Type 0} where
  -- ---- two items are put in either order

  -- the first text comes before the second
  put-ordered : (xs : List (List ℕ × A)) (x y : List ℕ × A) → comes_before x.0 y.0 ≡ true → comes_before y.0 x.0 ≡ false → put_by_text (put_by_text xs x) y ≡ put_by_text (put_by_text xs y) x
  put-ordered [] x y first second = rw (first, second) refl
  put-ordered (z ∷ zs) x y first second = by (put-ordered zs x y first second) (comes_before x.0 z.0) refl (comes_before y.0 z.0) refl
    where
      by : put_by_text (put_by_text zs x) y ≡ put_by_text (put_by_text zs y) x → (b : Bool) → comes_before x.0 z.0 ≡ b → (c : Bool) → comes_before y.0 z.0 ≡ c
          → put_by_text (put_by_text (z ∷ zs) x) y ≡ put_by_text (put_by_text (z ∷ zs) y) x
      by again true b true c = rw (b, c, first, second) refl
      by again true b false c = rw (b, c, second, b) refl
      by again false b true c = absurd (true≢false (sym (between x.0 y.0 z.0 first c) ∙ b))
      by again false b false c = rw (b, c, b) (ap (λ l. z ∷ l) again)

  pub put-swapped : (xs : List (List ℕ × A)) (x y : List ℕ × A) → (x.0 ≡ y.0 → x ≡ y) → put_by_text (put_by_text xs x) y ≡ put_by_text (put_by_text xs y) x
  put-swapped xs x y one = by (cmp x.0 y.0) refl
    where
      by : (o : Ordering) → cmp x.0 y.0 ≡ o → put_by_text (put_by_text xs x) y ≡ put_by_text (put_by_text xs y) x
      by Less is =
          put-ordered xs x y (comes_before-is x.0 y.0 ∙ ap is_lt is) (comes_before-is y.0 x.0 ∙ ap is_lt (nat_list_cmp_total.antisymm y.0 x.0 ∙ ap ordering_reverse is))
      by Equal is =
          let e : x ≡ y = one ((bytes_eq-Decides x.0 y.0).0 (sym (is_eq-slice_cmp x.0 y.0) ∙ ap is_eq is)) in
          ap (λ z. put_by_text (put_by_text xs z) y) e ∙ ap (λ z. put_by_text (put_by_text xs y) z) (sym e)
      by Greater is =
          sym (put-ordered xs y x (comes_before-is y.0 x.0 ∙ ap is_lt (nat_list_cmp_total.antisymm y.0 x.0 ∙ ap ordering_reverse is)) (comes_before-is x.0 y.0 ∙ ap is_lt is))

  -- ---- what is made of each item of a sorted list

  module _ {B : Type 0} (f : A → B) where
    abbrev mapped : List (List ℕ × A) → List (List ℕ × B)
    mapped xs = map (λ x. (x.0, f x.1)) xs

    put-mapped : (xs : List (List ℕ × A)) (x : List ℕ × A) → mapped (put_by_text xs x) ≡ put_by_text (mapped xs) (x.0, f x.1)
    put-mapped [] x = refl
    put-mapped (y ∷ ys) x = by (put-mapped ys x) (comes_before x.0 y.0)
      where
        by : mapped (put_by_text ys x) ≡ put_by_text (mapped ys) (x.0, f x.1) → (b : Bool)
            → mapped (if b then x ∷ y ∷ ys else (y ∷ put_by_text ys x)) ≡ (if b then (x.0, f x.1) ∷ mapped (y ∷ ys) else ((y.0, f y.1) ∷ put_by_text (mapped ys) (x.0, f x.1)))
        by again true = refl
        by again false = ap (λ l. (y.0, f y.1) ∷ l) again

    fold-mapped : (text : A → List ℕ) (xs : List (List ℕ × A)) (items : List A)
        → mapped (fold put_by_text xs (map (λ item. (text item, item)) items)) ≡ fold (λ s item. put_by_text s (text item, f item)) (mapped xs) items
    fold-mapped text xs [] = refl
    fold-mapped text xs (item ∷ items) =
        fold-mapped text (put_by_text xs (text item, item)) items ∙ ap (λ s. fold (λ s i. put_by_text s (text i, f i)) s items) (put-mapped xs (text item, item))

    seconds-mapped : (xs : List (List ℕ × A)) → map f (map (λ x. x.1) xs) ≡ map (λ x. x.1) (mapped xs)
    seconds-mapped [] = refl
    seconds-mapped (x ∷ xs) = ap (λ l. f x.1 ∷ l) (seconds-mapped xs)

    pub map-sorted : (text : A → List ℕ) (items : List A) → map f (sorted_by_text text items) ≡ map (λ x. x.1) (fold (λ s item. put_by_text s (text item, f item)) [] items)
    map-sorted text items =
        seconds-mapped (fold put_by_text [] (map (λ item. (text item, item)) items)) ∙ ap (map (λ x. x.1)) (fold-mapped text [] items)

  -- the sorted list itself
  pub sorted-is : (text : A → List ℕ) (items : List A) → sorted_by_text text items ≡ map (λ x. x.1) (fold (λ s item. put_by_text s (text item, item)) [] items)
  sorted-is text items = ap (map (λ x. x.1)) (fold-map put_by_text (λ item. (text item, item)) [] items)
