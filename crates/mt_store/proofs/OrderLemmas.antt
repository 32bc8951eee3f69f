-- Rows in the order of their keys: parts of them, and one row more or less.
use Rattle.std.proofs.Common.{◌≡◌, ℕ, ◌<◌, ◌≤◌, Bool, true, false, cond, eqb, nat_lt, List, [], ◌∷◌, ◌++◌, Some, None, refl, sym, ap, ◌∙◌, arith}
use Rattle.std.proofs.lemmas.Bool.{lt-ltb, ltb-true, ne_eqb, eqb-true}
use Rattle.std.specs.List.{AllByRecursion}
use Rattle.std.specs.List.Sorted.{IsStrictlySortedBy}
use Rattle.std.specs.Map.{keys_of, lookup}
use Rattle.std.specs.Ordering.{is_lt, nat_cmp}
use Rattle.std.specs.declared.cmp.Ordering.TheVariants.{Less, Equal, Greater}
use Rattle.mt_model.specs.Rows.{RowValue}
use Rattle.mt_store.specs.Pages.{AreAbove, AreBelow, AreInOrder, Rows}

-- ---- the order of keys

pub is_lt-nat_cmp : (a b : ℕ) → is_lt (nat_cmp a b) ≡ nat_lt a b
is_lt-nat_cmp a b = by (nat_lt a b) (eqb a b)
  where
    by : (less same : Bool) → is_lt (cond less Less (cond same Equal Greater)) ≡ less
    by true same = refl
    by false true = refl
    by false false = refl

pub less-lt : (a b : ℕ) → nat_cmp a b ≡ Less → a < b
less-lt a b e = ltb-true a b (sym (is_lt-nat_cmp a b) ∙ ap is_lt e)

pub lt-less : (a b : ℕ) → a < b → nat_cmp a b ≡ Less
lt-less a b h = rw (lt-ltb a b h) refl

pub above-from : (key : ℕ) (rows : Rows) → AllByRecursion (λ k. nat_cmp key k ≡ Less) (keys_of rows) → AreAbove key rows
above-from key [] all = tt
above-from key (row ∷ rows) all = (less-lt key row.0 all.0, above-from key rows all.1)

pub above-to : (key : ℕ) (rows : Rows) → AreAbove key rows → AllByRecursion (λ k. nat_cmp key k ≡ Less) (keys_of rows)
above-to key [] all = tt
above-to key (row ∷ rows) all = (lt-less key row.0 all.0, above-to key rows all.1)

-- ---- parts

pub all-append : {X : Type 0} (P : X → Type 0) (xs ys : List X) → AllByRecursion P xs → AllByRecursion P ys → AllByRecursion P (xs ++ ys)
all-append P [] ys a b = b
all-append P (x ∷ xs) ys a b = (a.0, all-append P xs ys a.1 b)

pub all-front : {X : Type 0} (P : X → Type 0) (xs ys : List X) → AllByRecursion P (xs ++ ys) → AllByRecursion P xs
all-front P [] ys a = tt
all-front P (x ∷ xs) ys a = (a.0, all-front P xs ys a.1)

pub all-back : {X : Type 0} (P : X → Type 0) (xs ys : List X) → AllByRecursion P (xs ++ ys) → AllByRecursion P ys
all-back P [] ys a = a
all-back P (x ∷ xs) ys a = all-back P xs ys a.1

pub all-more : (key more : ℕ) (rows : Rows) → key ≤ more → AreAbove more rows → AreAbove key rows
all-more key more [] le a = tt
all-more key more (row ∷ rows) le a = let h : more < row.0 = a.0 in (omega arith, all-more key more rows le a.1)

pub all-less : (key less : ℕ) (rows : Rows) → less ≤ key → AreBelow less rows → AreBelow key rows
all-less key less [] le a = tt
all-less key less (row ∷ rows) le a = let h : row.0 < less = a.0 in (omega arith, all-less key less rows le a.1)

pub in-order-back : (front back : Rows) → AreInOrder (front ++ back) → AreInOrder back
unfolding IsStrictlySortedBy
in-order-back [] back o = o
in-order-back (row ∷ front) back o = in-order-back front back o.1

pub first-above : (row : ℕ × RowValue) (rows : Rows) → AreInOrder (row ∷ rows) → AreAbove row.0 rows
unfolding IsStrictlySortedBy
first-above row rows o = above-from row.0 rows o.0

pub in-order-tail : (row : ℕ × RowValue) (rows : Rows) → AreInOrder (row ∷ rows) → AreInOrder rows
unfolding IsStrictlySortedBy
in-order-tail row rows o = o.1

pub in-order-cons : (row : ℕ × RowValue) (rows : Rows) → AreAbove row.0 rows → AreInOrder rows → AreInOrder (row ∷ rows)
unfolding IsStrictlySortedBy
in-order-cons row rows a o = (above-to row.0 rows a, o)

pub in-order-none : AreInOrder []
unfolding IsStrictlySortedBy
in-order-none = tt

pub in-order-front : (front back : Rows) → AreInOrder (front ++ back) → AreInOrder front
in-order-front [] back o = in-order-none
in-order-front (row ∷ front) back o =
    in-order-cons row front (all-front (λ r. row.0 < r.0) front back (first-above row (front ++ back) o)) (in-order-front front back (in-order-tail row (front ++ back) o))

-- rows before one lie below its key, and those behind above
pub below-split : (front back : Rows) (row : ℕ × RowValue) → AreInOrder (front ++ row ∷ back) → AreBelow row.0 front
below-split [] back row o = tt
below-split (r ∷ front) back row o =
    let above : AreAbove r.0 (front ++ row ∷ back) = first-above r (front ++ row ∷ back) o in
    let here : AreAbove r.0 (row ∷ back) = all-back (λ x. r.0 < x.0) front (row ∷ back) above in
    (here.0, below-split front back row (in-order-tail r (front ++ row ∷ back) o))

pub above-split : (front back : Rows) (row : ℕ × RowValue) → AreInOrder (front ++ row ∷ back) → AreAbove row.0 back
above-split front back row o = first-above row back (in-order-back front (row ∷ back) o)

-- ---- one row more, or less

pub in-order-put : (front back : Rows) (row : ℕ × RowValue) → AreInOrder (front ++ back) → AreBelow row.0 front → AreAbove row.0 back → AreInOrder (front ++ row ∷ back)
in-order-put [] back row o below above = in-order-cons row back above o
in-order-put (r ∷ front) back row o below above =
    let rest : AreAbove r.0 (front ++ back) = first-above r (front ++ back) o in
    in-order-cons r (front ++ row ∷ back) (all-append (λ x. r.0 < x.0) front (row ∷ back) (all-front (λ x. r.0 < x.0) front back rest) (below.0, all-back (λ x. r.0 < x.0) front back rest))
    (in-order-put front back row (in-order-tail r (front ++ back) o) below.1 above)

pub in-order-take : (front back : Rows) (row : ℕ × RowValue) → AreInOrder (front ++ row ∷ back) → AreInOrder (front ++ back)
in-order-take [] back row o = in-order-tail row back o
in-order-take (r ∷ front) back row o =
    let rest : AreAbove r.0 (front ++ row ∷ back) = first-above r (front ++ row ∷ back) o in
    in-order-cons r (front ++ back) (all-append (λ x. r.0 < x.0) front back (all-front (λ x. r.0 < x.0) front (row ∷ back) rest) (all-back (λ x. r.0 < x.0) front (row ∷ back) rest).1)
    (in-order-take front back row (in-order-tail r (front ++ row ∷ back) o))

-- what is found of a key that lies below all of some rows, or above them
pub lookup-above : (key : ℕ) (rows : Rows) → AreAbove key rows → lookup (eqb key) rows ≡ None
lookup-above key [] a = refl
lookup-above key (row ∷ rows) a = let h : key < row.0 = a.0 in rw (ne_eqb key row.0 (omega arith)) (lookup-above key rows a.1)

pub lookup-below : (key : ℕ) (front back : Rows) → AreBelow key front → lookup (eqb key) (front ++ back) ≡ lookup (eqb key) back
lookup-below key [] back a = refl
lookup-below key (row ∷ front) back a = let h : row.0 < key = a.0 in rw (ne_eqb key row.0 (omega arith)) (lookup-below key front back a.1)

-- with a row more, that of its key is found, and of other keys what was
pub lookup-put : (q : ℕ) (front back : Rows) (row : ℕ × RowValue) → AreBelow row.0 front → lookup (eqb q) (front ++ row ∷ back) ≡ cond (eqb q row.0) (Some row.1) (lookup (eqb q) (front ++ back))
lookup-put q [] back row below = refl
lookup-put q (r ∷ front) back row below = by (lookup-put q front back row below.1) (eqb q r.0) refl
  where
    by : lookup (eqb q) (front ++ row ∷ back) ≡ cond (eqb q row.0) (Some row.1) (lookup (eqb q) (front ++ back))
        → (b : Bool) → eqb q r.0 ≡ b → lookup (eqb q) (r ∷ front ++ row ∷ back) ≡ cond (eqb q row.0) (Some row.1) (lookup (eqb q) (r ∷ front ++ back))
    by again true same =
        let h : r.0 < row.0 = below.0 in
        let is : q ≡ r.0 = eqb-true q r.0 same in
        rw (same, ne_eqb q row.0 (omega (arith, is))) refl
    by again false apart = rw apart again
