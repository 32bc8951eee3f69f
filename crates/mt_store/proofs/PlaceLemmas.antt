-- Where the row of a key stands among pages.
use Rattle.std.proofs.Common.{◌≡◌, ℕ, suc, zero, ◌+◌, ◌-◌, ◌<◌, ◌≤◌, Bool, true, false, List, [], ◌∷◌, ◌++◌, length, take, drop, slice_get, slice_index_or, Some, None, Result, Ok, Err, ◌⊎◌, inl, inr, refl, sym, ap, ◌∙◌, arith, leb, nat_lt, eqb}
use Rattle.std.proofs.lemmas.Bool.{leb-true, true≢false, eqb-true, eqb-false, ltb-true, ltb-false}
use Rattle.std.proofs.lemmas.Bool.Decides.{leb_tells}
use Rattle.std.proofs.lemmas.Option.{slice_get_within}
use Rattle.std.specs.List.{AllByRecursion, AllWithin, HoldsAt}
use Rattle.std.specs.List.Sorted.{IsBinarySearchResult, IsNonDecreasingBy, IsPartitionPoint, IsSearchInRange}
use Rattle.std.specs.Ordering.{nat_cmp, ordering_index}
use Rattle.std.specs.declared.cmp.Ordering.TheVariants.{Less, Equal, Greater}
use Rattle.mt_model.specs.Rows.{RowValue}
use Rattle.mt_store.specs.Pages.{AreAbove, AreBelow, AreInOrder, ArePages, FitsAt, IsPage, IsPageFor, Rows, SeeksIn, StandsAt, first_key, page_at, rows_in}
use Rattle.mt_store.proofs.OrderLemmas.{all-append, all-back, all-less, all-more, less-lt, first-above, in-order-back, in-order-front, in-order-tail}

abbrev pub Sizes : List Rows → Type 0
Sizes pages = AllByRecursion IsPage pages

-- what lies above all rows of some pages lies above the first key of each
first-of : (key : ℕ) (pages : List Rows) → Sizes pages → AreAbove key (rows_in pages) → (i : ℕ) (d : Rows) → i < length pages → key < first_key (slice_index_or pages i d)
first-of key [] sizes above i d within = absurd (omega arith)
first-of key ([] ∷ pages) sizes above zero d within = absurd (let h : 0 < 0 = sizes.0.0 in omega arith)
first-of key ((row ∷ rows) ∷ pages) sizes above zero d within = above.0
first-of key (page ∷ pages) sizes above (suc i) d within =
    first-of key pages sizes.1 (all-back (λ r. key < r.0) page (rows_in pages) above) i d (omega arith)

-- the rows of a page lie below the first key of each page behind it
below-next : (page : Rows) (pages : List Rows) → Sizes pages → AreInOrder (page ++ rows_in pages) → (i : ℕ) (d : Rows) → i < length pages → AreBelow (first_key (slice_index_or pages i d)) page
below-next [] pages sizes o i d within = tt
below-next (row ∷ page) pages sizes o i d within =
    (first-of row.0 pages sizes (all-back (λ r. row.0 < r.0) page (rows_in pages) (first-above row (page ++ rows_in pages) o)) i d within, below-next page pages sizes (in-order-tail row (page ++ rows_in pages) o) i d within)

-- the first keys rise
pub rises : (pages : List Rows) → Sizes pages → AreInOrder (rows_in pages) → IsNonDecreasingBy first_key pages
rises [] sizes o i j d le within = absurd (omega arith)
rises (page ∷ pages) sizes o zero zero d le within = omega arith
rises ([] ∷ pages) sizes o zero (suc j) d le within = absurd (let h : 0 < 0 = sizes.0.0 in omega arith)
rises ((row ∷ page) ∷ pages) sizes o zero (suc j) d le within =
    let below = below-next (row ∷ page) pages sizes.1 o j d (omega arith) in
    let h : row.0 < first_key (slice_index_or pages j d) = below.0 in
    omega arith
rises (page ∷ pages) sizes o (suc i) zero d le within = absurd (omega arith)
rises (page ∷ pages) sizes o (suc i) (suc j) d le within = rises pages sizes.1 (in-order-back page (rows_in pages) o) i j d (omega arith) (omega arith)

-- the rows before a page that begins no later than a key lie below it
before-page : (key : ℕ) (pages : List Rows) → Sizes pages → AreInOrder (rows_in pages) → (n : ℕ) (d : Rows) → n < length pages → first_key (slice_index_or pages n d) ≤ key → AreBelow key (rows_in (take n pages))
before-page key pages sizes o zero d within begins = tt
before-page key [] sizes o (suc n) d within begins = absurd (omega arith)
before-page key (page ∷ pages) sizes o (suc n) d within begins =
    all-append (λ r. r.0 < key) page (rows_in (take n pages))
    (all-less key (first_key (slice_index_or pages n d)) page begins (below-next page pages sizes.1 o n d (omega arith)))
    (before-page key pages sizes.1 (in-order-back page (rows_in pages) o) n d (omega arith) begins)

-- the rows of pages of which the first begins above a key lie above it
behind-page : (key : ℕ) (pages : List Rows) → Sizes pages → AreInOrder (rows_in pages) → (n : ℕ) → ((d : Rows) → n < length pages → key < first_key (slice_index_or pages n d)) → AreAbove key (rows_in (drop n pages))
behind-page key [] sizes o zero begins = tt
behind-page key [] sizes o (suc n) begins = tt
behind-page key ([] ∷ pages) sizes o zero begins = absurd (let h : 0 < 0 = sizes.0.0 in omega arith)
behind-page key ((row ∷ rows) ∷ pages) sizes o zero begins =
    let h : key < row.0 = begins [] (omega arith) in
    (h, all-more key row.0 (rows ++ rows_in pages) (omega arith) (first-above row (rows ++ rows_in pages) o))
behind-page key (page ∷ pages) sizes o (suc n) begins =
    behind-page key pages sizes.1 (in-order-back page (rows_in pages) o) n (λ d within. begins d (omega arith))

-- the page that a partition by the first keys gives
pub page-for : (key : ℕ) (pages : List Rows) → ArePages pages → (n : ℕ) → n ≤ length pages
    → IsPartitionPoint (λ y. leb (first_key y) key ≡ true) (λ y. leb (first_key y) key ≡ false) pages n → IsPageFor pages key (n - 1)
page-for key pages are n within point = by n within point
  where
    later : (m : ℕ) → ((k : ℕ) (d : Rows) → m ≤ k → k < length pages → leb (first_key (slice_index_or pages k d)) key ≡ false) → AreAbove key (rows_in (drop m pages))
    later m none = behind-page key pages are.sizes are.ordered m (λ d in_range. above d (none m d (omega arith) in_range))
      where
        above : (d : Rows) → leb (first_key (slice_index_or pages m d)) key ≡ false → key < first_key (slice_index_or pages m d)
        above d fails = by (leb_tells (first_key (slice_index_or pages m d)) key)
          where
            by : ((leb (first_key (slice_index_or pages m d)) key ≡ true) × (first_key (slice_index_or pages m d) ≤ key)) ⊎ ((leb (first_key (slice_index_or pages m d)) key ≡ false) × (key < first_key (slice_index_or pages m d))) → key < first_key (slice_index_or pages m d)
            by (inl t) = absurd (true≢false (sym t.0 ∙ fails))
            by (inr f) = f.1

    by : (n : ℕ) → n ≤ length pages → IsPartitionPoint (λ y. leb (first_key y) key ≡ true) (λ y. leb (first_key y) key ≡ false) pages n → IsPageFor pages key (n - 1)
    by zero within point = record { within = omega arith; before = tt; behind = later 1 (λ k d from. point.1 k d (omega arith)) }
    by (suc m) within point =
        let is : suc m - 1 ≡ m = omega arith in
        let plus : m + 1 ≡ suc m = omega arith in
        rw is (record {
          within = omega arith;
          before = before-page key pages are.sizes are.ordered m [] (omega arith) (leb-true (first_key (slice_index_or pages m [])) key (point.0 m [] (omega arith) (omega arith)));
          behind = rw plus (later (suc m) (λ k d from. point.1 k d from));
        })

-- ---- a spot

nat_cmp-equal : (a b : ℕ) → nat_cmp a b ≡ Equal → a ≡ b
nat_cmp-equal a b e = by (nat_lt a b) (eqb a b) refl refl
  where
    by : (l s : Bool) → nat_lt a b ≡ l → eqb a b ≡ s → a ≡ b
    by true s l same = absurd (let h = rw l at e in cc)
    by false true l same = eqb-true a b same
    by false false l same = absurd (let h = rw (l, same) at e in cc)

nat_cmp-less : (a b : ℕ) → nat_cmp a b ≡ Less → a < b
nat_cmp-less a b e = less-lt a b e

nat_cmp-greater : (a b : ℕ) → nat_cmp a b ≡ Greater → b < a
nat_cmp-greater a b e = by (nat_lt a b) (eqb a b) refl refl
  where
    by : (l s : Bool) → nat_lt a b ≡ l → eqb a b ≡ s → b < a
    by true s l same = absurd (let h = rw l at e in cc)
    by false true l same = absurd (let h = rw (l, same) at e in cc)
    by false false l same = tells a b l same
      where
        tells : (a b : ℕ) → nat_lt a b ≡ false → eqb a b ≡ false → b < a
        tells a b l same = omega (arith, ltb-false a b l, eqb-false a b same)

-- the first so many rows of a page, and the others, by what a search tells
take-below : (key : ℕ) (page : Rows) (i : ℕ) → i ≤ length page → AllWithin (λ row. nat_cmp row.0 key ≡ Less) page 0 i → AreBelow key (take i page)
take-below key [] zero within less = tt
take-below key [] (suc i) within less = absurd (omega arith)
take-below key (row ∷ page) zero within less = tt
take-below key (row ∷ page) (suc i) within less =
    (nat_cmp-less row.0 key (less 0 row (omega arith) (omega arith)), take-below key page i (omega arith) (λ k d low high. less (suc k) d (omega arith) (omega arith)))

drop-above : (key : ℕ) (page : Rows) (i : ℕ) → AllWithin (λ row. nat_cmp row.0 key ≡ Greater) page i (length page) → AreAbove key (drop i page)
drop-above key [] zero more = tt
drop-above key [] (suc i) more = tt
drop-above key (row ∷ page) zero more =
    (nat_cmp-greater row.0 key (more 0 row (omega arith) (omega arith)), drop-above key page zero (λ k d low high. more (suc k) d (omega arith) (omega arith)))
drop-above key (row ∷ page) (suc i) more = drop-above key page i (λ k d low high. more (suc k) d (omega arith) (omega arith))

index-cmp : (a b key : ℕ) → a ≤ b → ordering_index (nat_cmp a key) ≤ ordering_index (nat_cmp b key)
index-cmp a b key le = by (nat_lt a key) (eqb a key) (nat_lt b key) (eqb b key) refl refl refl refl
  where
    by : (al ae bl bs : Bool) → nat_lt a key ≡ al → eqb a key ≡ ae → nat_lt b key ≡ bl → eqb b key ≡ bs → ordering_index (nat_cmp a key) ≤ ordering_index (nat_cmp b key)
    by true ae bl bs p q r s = rw p (omega arith)
    by false true true bs p q r s = absurd (let h = eqb-true a key q in let g = ltb-true b key r in omega arith)
    by false true false true p q r s = rw (p, q, r, s) (omega arith)
    by false true false false p q r s = rw (p, q, r, s) (omega arith)
    by false false true bs p q r s = absurd (let h = ltb-false a key p in let g = ltb-true b key r in omega arith)
    by false false false true p q r s = absurd (let h = ltb-false a key p in let g = eqb-true b key s in let n = eqb-false a key q in omega arith)
    by false false false false p q r s = rw (p, q, r, s) (omega arith)

-- the keys of a page rise
key-above : (key : ℕ) (rows : Rows) → AreAbove key rows → (j : ℕ) (d : ℕ × RowValue) → j < length rows → key < (slice_index_or rows j d).0
key-above key [] above j d within = absurd (omega arith)
key-above key (row ∷ rows) above zero d within = above.0
key-above key (row ∷ rows) above (suc j) d within = key-above key rows above.1 j d (omega arith)

pub page-rises : (key : ℕ) (page : Rows) → AreInOrder page → IsNonDecreasingBy (λ row. ordering_index (nat_cmp row.0 key)) page
page-rises key [] o i j d le within = absurd (omega arith)
page-rises key (row ∷ page) o zero zero d le within = index-cmp row.0 row.0 key (omega arith)
page-rises key (row ∷ page) o zero (suc j) d le within =
    let h : row.0 < (slice_index_or page j d).0 = key-above row.0 page (first-above row page o) j d (omega arith) in
    index-cmp row.0 (slice_index_or page j d).0 key (omega arith)
page-rises key (row ∷ page) o (suc i) zero d le within = absurd (omega arith)
page-rises key (row ∷ page) o (suc i) (suc j) d le within = page-rises key page (in-order-tail row page o) i j d (omega arith) (omega arith)

-- a page among others
pub page-in-order : (pages : List Rows) (place : ℕ) (page : Rows) → AreInOrder (rows_in pages) → slice_get pages place ≡ Some page → AreInOrder page
page-in-order [] place page o e = absurd cc
page-in-order (p ∷ pages) zero page o e = let same : p ≡ page = cc in rw (← same) (in-order-front p (rows_in pages) o)
page-in-order (p ∷ pages) (suc i) page o e = page-in-order pages i page (in-order-back p (rows_in pages) o) e

pub found-from : (pages : List Rows) (place : ℕ) (page : Rows) → (place < length pages) × ((d : Rows) → page ≡ slice_index_or pages place d) → slice_get pages place ≡ Some page
found-from [] place page e = absurd (let h = e.0 in omega arith)
found-from (p ∷ pages) zero page e = ap Some (sym (e.1 page))
found-from (p ∷ pages) (suc i) page e = let h = e.0 in found-from pages i page (omega arith, λ d. e.1 d)

pub page_at-found : (pages : List Rows) (place : ℕ) (page : Rows) → slice_get pages place ≡ Some page → page_at pages place ≡ page
page_at-found [] place page e = absurd cc
page_at-found (p ∷ pages) zero page e = cc
page_at-found (p ∷ pages) (suc i) page e = page_at-found pages i page e

pub place-found : (pages : List Rows) (place : ℕ) (page : Rows) → slice_get pages place ≡ Some page → place < length pages
place-found pages place page e = slice_get_within pages place page e

row-at : (rows : Rows) (i : ℕ) → i < length rows → (row : ℕ × RowValue) × (slice_get rows i ≡ Some row)
row-at [] i within = absurd (omega arith)
row-at (r ∷ rows) zero within = (r, refl)
row-at (r ∷ rows) (suc i) within = row-at rows i (omega arith)

slice_index-found : (rows : Rows) (i : ℕ) (row d : ℕ × RowValue) → slice_get rows i ≡ Some row → slice_index_or rows i d ≡ row
slice_index-found [] i row d e = absurd cc
slice_index-found (r ∷ rows) zero row d e = cc
slice_index-found (r ∷ rows) (suc i) row d e = slice_index-found rows i row d e

-- what a search in a page tells
found-in : (page : Rows) (key at : ℕ) → at < length page → HoldsAt (λ row. nat_cmp row.0 key ≡ Equal) page at → SeeksIn page key (Ok at)
found-in page key at within holds =
    let row = row-at page at within in
    let same : row.0.0 ≡ key = nat_cmp-equal row.0.0 key (ap (λ (r : ℕ × RowValue). nat_cmp r.0 key) (sym (slice_index-found page at row.0 row.0 row.1)) ∙ holds row.0) in
    (within, (row.0.1, row.1 ∙ ap (λ k. Some (k, row.0.1)) same))

missed-in : (page : Rows) (key at : ℕ) → AreInOrder page → at ≤ length page
    → (IsNonDecreasingBy (λ row. ordering_index (nat_cmp row.0 key)) page → IsPartitionPoint (λ row. nat_cmp row.0 key ≡ Less) (λ row. nat_cmp row.0 key ≡ Greater) page at) → SeeksIn page key (Err at)
missed-in page key at o within point =
    let parts = point (page-rises key page o) in
    (within, take-below key page at within parts.0, drop-above key page at parts.1)

pub searched-in : (page : Rows) (key : ℕ) (r : Result ℕ ℕ) → AreInOrder page → IsSearchInRange r (length page) → IsBinarySearchResult (λ row. nat_cmp row.0 key) page r → SeeksIn page key r
searched-in page key (Ok at) o within found = found-in page key at within found
searched-in page key (Err at) o within missed = missed-in page key at o within missed

pub stands-at : (pages : List Rows) (key place at : ℕ) (page : Rows) → slice_get pages place ≡ Some page → SeeksIn page key (Ok at) → StandsAt pages key (record { page = place; at = at })
stands-at pages key place at page found seeks =
    let is = page_at-found pages place page found in
    record { page = place-found pages place page found; at = rw is seeks.0; value = seeks.1.0; row = rw is seeks.1.1 }

pub fits-at : (pages : List Rows) (key place at : ℕ) (page : Rows) → IsPageFor pages key place → slice_get pages place ≡ Some page → SeeksIn page key (Err at)
    → FitsAt pages key (record { page = place; at = at })
fits-at pages key place at page for found seeks =
    let is = page_at-found pages place page found in
    record {
      page = for.within;
      at = rw is seeks.0;
      before = rw is (all-append (λ r. r.0 < key) (rows_in (take place pages)) (take at page) for.before seeks.1);
      behind = rw is (all-append (λ r. key < r.0) (drop at page) (rows_in (drop (place + 1) pages)) seeks.2 for.behind);
    }

-- behind all pages
pub fits-behind : (pages : List Rows) (key place : ℕ) → IsPageFor pages key place → slice_get pages place ≡ None → FitsAt pages key (record { page = place; at = 0 })
fits-behind pages key place for none =
    let is : page_at pages place ≡ [] = by pages place none in
    record {
      page = for.within;
      at = omega arith;
      before = all-append (λ r. r.0 < key) (rows_in (take place pages)) [] for.before tt;
      behind = rw is for.behind;
    }
  where
    by : (pages : List Rows) (place : ℕ) → slice_get pages place ≡ None → page_at pages place ≡ []
    by [] place e = refl
    by (p ∷ pages) zero e = absurd cc
    by (p ∷ pages) (suc i) e = by pages i e
