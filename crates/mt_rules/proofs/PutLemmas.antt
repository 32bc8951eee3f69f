-- Items that are put among others by their texts: how they stand in an object, and what holds of them.
use Rattle.std.proofs.Common.{◌≡◌, ◌≢◌, ◌==◌, ◌<◌, suc, length, nat_lt, ℕ, cond, if◌then◌else◌, Bool, true, false, List, [], ◌∷◌, ◌++◌, map, Option, None, Some, String, Global, append-nil, refl, sym, ap, ◌∙◌, arith, is_eq, Ordering, Less, Equal, Greater}
use Rattle.std.proofs.lemmas.Bool.{true≢false, eqb-true, ltb-true}
use Rattle.std.proofs.lemmas.Map.Text.{is_eq-slice_cmp}
use Rattle.std.proofs.lemmas.Slice.Eq.{bytes_eq-Decides}
use Rattle.std.specs.Bool.{Decides}
use Rattle.std.specs.Cmp.Lexicographic.{slice_cmp}
use Rattle.std.specs.List.{AllByRecursion, IsDistinct}
use Rattle.std.specs.Map.{lookup}
use Rattle.std.specs.Option.{option_or}
use Rattle.std.specs.Ordering.{is_lt, nat_cmp, match_ordering, ordering_then}
use Rattle.serde_json.specs.Data.{Data, member, put, item}
use Rattle.serde_json.specs.View.{view, items_of, items_view, members_view}
use Rattle.serde_json.specs.declared.value.Value.{Value}
use Rattle.mt_model.specs.Documents.{comes_before, put_by_text}
use Rattle.mt_rules.specs.Values.{IsApart, members_by, values_in}

-- ---- the order of texts is that of serde_json's objects

at_byte : (a b : ℕ) (before : Bool) (rest : Ordering) → before ≡ is_lt rest → (e t : Bool) → (a == b) ≡ e → nat_lt a b ≡ t → (if a == b then before else nat_lt a b) ≡ is_lt (ordering_then (nat_cmp a b) rest)
at_byte a b before rest is true true e t = absurd (let same : a ≡ b = eqb-true a b e in let below : a < b = ltb-true a b t in omega (arith, same, below))
at_byte a b before rest is true false e t = rw (e, t) is
at_byte a b before rest is false true e t = rw (e, t) refl
at_byte a b before rest is false false e t = rw (e, t) refl

pub comes_before-is : (a b : List ℕ) → comes_before a b ≡ is_lt (slice_cmp nat_cmp a b)
comes_before-is [] [] = refl
comes_before-is [] (b ∷ bs) = refl
comes_before-is (a ∷ as') [] = refl
comes_before-is (a ∷ as') (b ∷ bs) = at_byte a b _ _ (comes_before-is as' bs) (a == b) (nat_lt a b) refl refl

module _ {A : Type 0} (value : A → Data) where
  -- ---- one item more

  put-at : (o : Ordering) (text : List ℕ) (a : A) (y : List ℕ × A) (ys : List (List ℕ × A)) → slice_cmp nat_cmp text y.0 ≡ o → text ≢ y.0
      → put text (value a) (members_by value ys) ≡ members_by value (put_by_text ys (text, a))
      → match_ordering o (member text (value a) (members_by value (y ∷ ys))) (member y.0 (value a) (members_by value ys)) (member y.0 (value y.1) (put text (value a) (members_by value ys)))
      ≡ members_by value (put_by_text (y ∷ ys) (text, a))
  put-at Less text a y ys is apart later = rw (comes_before-is text y.0, is) refl
  put-at Equal text a y ys is apart later = absurd (apart ((bytes_eq-Decides text y.0).0 (sym (is_eq-slice_cmp text y.0) ∙ ap is_eq is)))
  put-at Greater text a y ys is apart later = rw (comes_before-is text y.0, is) (ap (member y.0 (value y.1)) later)

  pub put-members : (text : List ℕ) (a : A) (xs : List (List ℕ × A)) → IsApart text xs → put text (value a) (members_by value xs) ≡ members_by value (put_by_text xs (text, a))
  put-members text a [] apart = refl
  put-members text a (y ∷ ys) apart = put-at (slice_cmp nat_cmp text y.0) text a y ys refl apart.0 (put-members text a ys apart.1)

  pub values_in-members_by : (xs : List (List ℕ × A)) → values_in (members_by value xs) ≡ items_of (map value (map (λ x. x.1) xs))
  values_in-members_by [] = refl
  values_in-members_by (x ∷ xs) = ap (item (value x.1)) (values_in-members_by xs)

-- what holds of each, holds of each after one is put
pub all-put : {A : Type 0} (P : List ℕ × A → Type 0) (xs : List (List ℕ × A)) (x : List ℕ × A) → P x → AllByRecursion P xs → AllByRecursion P (put_by_text xs x)
all-put P [] x p all = (p, tt)
all-put P (y ∷ ys) x p all = by (all-put P ys x p all.1) (comes_before x.0 y.0)
  where
    by : AllByRecursion P (put_by_text ys x) → (b : Bool) → AllByRecursion P (if b then x ∷ y ∷ ys else (y ∷ put_by_text ys x))
    by later true = (p, all)
    by later false = (all.0, later)

pub of_seconds : {A : Type 0} (P : A → Type 0) (xs : List (List ℕ × A)) → AllByRecursion (λ x. P x.1) xs → AllByRecursion P (map (λ x. x.1) xs)
of_seconds P [] all = tt
of_seconds P (x ∷ xs) all = (all.0, of_seconds P xs all.1)

-- of no items each is apart
pub none_apart : {A B : Type 0} (R : A → B → Type 0) (xs : List A) → AllByRecursion (λ x. AllByRecursion (R x) []) xs
none_apart R [] = tt
none_apart R (x ∷ xs) = (tt, none_apart R xs)

-- one more
pub length-put : {A : Type 0} (xs : List (List ℕ × A)) (x : List ℕ × A) → length (put_by_text xs x) ≡ suc (length xs)
length-put [] x = refl
length-put (y ∷ ys) x = by (length-put ys x) (comes_before x.0 y.0)
  where
    by : length (put_by_text ys x) ≡ suc (length ys) → (b : Bool) → length (if b then x ∷ y ∷ ys else (y ∷ put_by_text ys x)) ≡ suc (suc (length ys))
    by later true = refl
    by later false = ap suc later

-- ---- their keys

module _ {A K : Type 0} (key : A → K) where
  pub all-keys-put : (P : K → Type 0) (xs : List (List ℕ × A)) (x : List ℕ × A) → P (key x.1) → AllByRecursion P (map (λ y. key y.1) xs) → AllByRecursion P (map (λ y. key y.1) (put_by_text xs x))
  all-keys-put P [] x p all = (p, tt)
  all-keys-put P (y ∷ ys) x p all = by (all-keys-put P ys x p all.1) (comes_before x.0 y.0)
    where
      by : AllByRecursion P (map (λ z. key z.1) (put_by_text ys x)) → (b : Bool) → AllByRecursion P (map (λ z. key z.1) (if b then x ∷ y ∷ ys else (y ∷ put_by_text ys x)))
      by later true = (p, all)
      by later false = (all.0, later)

-- where they differ, they differ after one is put whose key is another
module _ {A K : Type 0} (same : K → K → Bool) (flipped : (a b : K) → same a b ≡ same b a) (key : A → K) where
  pub distinct-put : (xs : List (List ℕ × A)) (x : List ℕ × A) → AllByRecursion (λ k. same (key x.1) k ≡ false) (map (λ y. key y.1) xs) → IsDistinct same (map (λ y. key y.1) xs) → IsDistinct same (map (λ y. key y.1) (put_by_text xs x))
  unfolding IsDistinct
  distinct-put [] x other distinct = (tt, tt)
  distinct-put (y ∷ ys) x other distinct = by (distinct-put ys x other.1 distinct.1) (comes_before x.0 y.0)
    where
      by : IsDistinct same (map (λ z. key z.1) (put_by_text ys x)) → (b : Bool) → IsDistinct same (map (λ z. key z.1) (if b then x ∷ y ∷ ys else (y ∷ put_by_text ys x)))
      by later true = (other, distinct)
      by later false = (all-keys-put key (λ k. same (key y.1) k ≡ false) ys x (flipped (key y.1) (key x.1) ∙ other.0) distinct.0, later)

-- ---- what is found at a key

pub lookup-none : {K V : Type 0} (same : K → K → Bool) (k : K) (xs : List (List ℕ × (K × V))) → AllByRecursion (λ l. same k l ≡ false) (map (λ y. y.1.0) xs) → lookup (same k) (map (λ y. y.1) xs) ≡ None
lookup-none same k [] other = refl
lookup-none same k (y ∷ ys) other = rw other.0 (lookup-none same k ys other.1)

module _ {K V : Type 0} (same : K → K → Bool) (decides : (a b : K) → Decides (same a b) (a ≡ b)) where
  pub lookup-put : (k : K) (xs : List (List ℕ × (K × V))) (x : List ℕ × (K × V)) → AllByRecursion (λ l. same x.1.0 l ≡ false) (map (λ y. y.1.0) xs)
      → lookup (same k) (map (λ y. y.1) (put_by_text xs x)) ≡ cond (same k x.1.0) (Some x.1.1) (lookup (same k) (map (λ y. y.1) xs))
  lookup-put k [] x other = refl
  lookup-put k (y ∷ ys) x other = by (lookup-put k ys x other.1) (comes_before x.0 y.0)
    where
      turned : (s u : Bool) (r : Option V) → (s ≡ true → u ≡ true → ⊥) → cond u (Some y.1.1) (cond s (Some x.1.1) r) ≡ cond s (Some x.1.1) (cond u (Some y.1.1) r)
      turned true true r clash = absurd (clash refl refl)
      turned true false r clash = refl
      turned false true r clash = refl
      turned false false r clash = refl

      clash : same k x.1.0 ≡ true → same k y.1.0 ≡ true → ⊥
      clash s u = true≢false (sym ((decides x.1.0 y.1.0).1 (sym ((decides k x.1.0).0 s) ∙ (decides k y.1.0).0 u)) ∙ other.0)

      by : lookup (same k) (map (λ z. z.1) (put_by_text ys x)) ≡ cond (same k x.1.0) (Some x.1.1) (lookup (same k) (map (λ z. z.1) ys)) → (b : Bool)
          → lookup (same k) (map (λ z. z.1) (if b then x ∷ y ∷ ys else (y ∷ put_by_text ys x))) ≡ cond (same k x.1.0) (Some x.1.1) (cond (same k y.1.0) (Some y.1.1) (lookup (same k) (map (λ z. z.1) ys)))
      by later true = refl
      by later false = ap (cond (same k y.1.0) (Some y.1.1)) later ∙ turned (same k x.1.0) (same k y.1.0) (lookup (same k) (map (λ z. z.1) ys)) clash

pub or_none : {A : Type 0} (r : Option A) → option_or r None ≡ r
or_none None = refl
or_none (Some x) = refl

-- ---- the values alone

values_in-members_view : (es : List (String Global × Value)) → values_in (members_view es) ≡ items_view (map (λ e. e.1) es)
values_in-members_view [] = refl
values_in-members_view (e ∷ es) = ap (item (view e.1)) (values_in-members_view es)

pub listed : (es : List (String Global × Value)) (items left : List Value) → map (λ e. e.1) es ≡ items ++ left → left ≡ [] → items_view items ≡ values_in (members_view es)
listed es items left all none = sym (values_in-members_view es ∙ ap items_view (all ∙ ap (λ l. items ++ l) none ∙ append-nil items))
