-- Pages with one row more, with another value, or with one row less.
use Rattle.std.proofs.Common.{◌≡◌, ℕ, suc, zero, ◌+◌, ◌<◌, ◌≤◌, Bool, true, false, cond, eqb, List, [], ◌∷◌, ◌++◌, length, take, drop, slice_get, slice_set, Some, None, Result, Ok, Err, if◌then◌else◌, is_ok, refl, sym, ap, subst, ◌∙◌, arith}
use Rattle.std.proofs.lemmas.Bool.{eqb-true}
use Rattle.std.proofs.lemmas.List.{append_assoc, append-nil, take_all}
use Rattle.std.specs.Bool.{⊤}
use Rattle.std.specs.List.{insert}
use Rattle.std.specs.Map.{lookup}
use Rattle.std.specs.declared.alloc.AllocError.{AllocError}
use Rattle.mt_model.specs.Rows.{RowValue}
use Rattle.mt_store.specs.Pages.{AreAbove, AreBelow, AreInOrder, ArePages, FitsAt, IsPage, IsWithRow, PutsRow, Rows, page_at, rows_before, rows_from, rows_in}
use Rattle.mt_store.specs.declared.pages.Spot.{Spot}
use Rattle.mt_store.proofs.OrderLemmas.{above-split, below-split, in-order-put, in-order-take, lookup-above, lookup-below, lookup-put}
use Rattle.mt_store.proofs.PagesLemmas.{has-at, regroup, rows-append, rows-cut, rows-row, rows-set, rows-spot, rows_ahead, rows_behind, set-same, size-at, sizes-append, sizes-drop, sizes-set, sizes-take}

-- ---- a row more

put-between : (pages new : List Rows) (key : ℕ) (value : RowValue) (front back : Rows) → rows_in pages ≡ front ++ back → rows_in new ≡ front ++ (key, value) ∷ back
    → AreBelow key front → AreAbove key back → AreInOrder (rows_in pages) → AreInOrder (rows_in new) × IsWithRow pages key (Some value) new
put-between pages new key value front back old is below above o = (
  subst AreInOrder (sym is) (in-order-put front back (key, value) (subst AreInOrder old o) below above),
  λ q. ap (lookup (eqb q)) is ∙ lookup-put q front back (key, value) below ∙ ap (λ rows. cond (eqb q key) (Some value) (lookup (eqb q) rows)) (sym old),
)

size-put : (page : Rows) (at : ℕ) (row : ℕ × RowValue) → length page < 64 → IsPage (insert page at row)
size-put page at row room =
    let n : length (insert page at row) ≡ suc (length page) = longer page at in
    rw n (omega arith, omega arith)
  where
    longer : (page : Rows) (at : ℕ) → length (insert page at row) ≡ suc (length page)
    longer [] zero = refl
    longer [] (suc at) = refl
    longer (r ∷ page) zero = refl
    longer (r ∷ page) (suc at) = ap suc (longer page at)

module _ (pages : List Rows) (key : ℕ) (value : RowValue) (are : ArePages pages) where
  -- in a page that has room
  put-page : (spot : Spot) → FitsAt pages key spot → spot.page < length pages → length (page_at pages spot.page) < 64
      → (let new : List Rows = slice_set pages spot.page (insert (page_at pages spot.page) spot.at (key, value)) in ArePages new × IsWithRow pages key (Some value) new)
  put-page spot fits within room =
      let page : Rows = page_at pages spot.page in
      let put : Rows = insert page spot.at (key, value) in
      let is = rows-set pages spot.page put within ∙ regroup (rows_in (take spot.page pages)) (take spot.at page) ((key, value) ∷ drop spot.at page) (rows_in (drop (spot.page + 1) pages)) in
      let both = put-between pages (slice_set pages spot.page put) key value (rows_before pages spot) (rows_from pages spot) (rows-spot pages spot (omega arith)) is fits.before fits.behind are.ordered in
      (record { sizes = sizes-set pages spot.page put are.sizes (size-put page spot.at (key, value) room); ordered = both.0 }, both.1)

  -- in a page of its own
  put-alone : (place : ℕ) → AreBelow key (rows_in (take place pages)) → AreAbove key (rows_in (drop place pages))
      → (let new : List Rows = insert pages place ((key, value) ∷ []) in ArePages new × IsWithRow pages key (Some value) new)
  put-alone place below above =
      let front : List Rows = take place pages in
      let back : List Rows = ((key, value) ∷ []) ∷ drop place pages in
      let both = put-between pages (front ++ back) key value (rows_in front) (rows_in (drop place pages)) (rows-cut pages place) (rows-append front back) below above are.ordered in
      (record { sizes = sizes-append front back (sizes-take pages place are.sizes) ((omega arith, omega arith), sizes-drop pages place are.sizes); ordered = both.0 }, both.1)

  -- by what memory answers
  pub put-told : (spot : Spot) → FitsAt pages key spot → spot.page < length pages → length (page_at pages spot.page) < 64
      → (page : Rows) (r : Result ⊤ AllocError) → page ≡ (if is_ok r then insert (page_at pages spot.page) spot.at (key, value) else page_at pages spot.page)
      → ArePages (slice_set pages spot.page page) × PutsRow pages key value r (slice_set pages spot.page page)
  put-told spot fits within room page (Ok done) is = rw is (put-page spot fits within room)
  put-told spot fits within room page (Err fault) is = let same = set-same pages spot.page within in rw (is, same) (are, refl)

  pub open-told : (place : ℕ) → AreBelow key (rows_in (take place pages)) → AreAbove key (rows_in (drop place pages))
      → (new : List Rows) (r : Result ⊤ AllocError) → new ≡ (if is_ok r then insert pages place ((key, value) ∷ []) else pages) → ArePages new × PutsRow pages key value r new
  open-told place below above new (Ok done) is = rw is (put-alone place below above)
  open-told place below above new (Err fault) is = rw is (are, refl)

  pub opened : (place : ℕ) → AreBelow key (rows_in (take place pages)) → AreAbove key (rows_in (drop place pages))
      → (new : List Rows) (done : Bool) → new ≡ (if done then insert pages place ((key, value) ∷ []) else pages) → ArePages new
  opened place below above new true is = rw is (put-alone place below above).0
  opened place below above new false is = rw is are

-- where a row fits behind a page, all rows up to the page's end are below it
pub below-page : (pages : List Rows) (key : ℕ) (spot : Spot) → FitsAt pages key spot → spot.page < length pages → length (page_at pages spot.page) ≤ spot.at → AreBelow key (rows_in (take (spot.page + 1) pages))
below-page pages key spot fits within end = subst (AreBelow key) is fits.before
  where
    whole : take spot.at (page_at pages spot.page) ≡ page_at pages spot.page
    whole = take_all spot.at (page_at pages spot.page) end

    one : (ps : List Rows) (n : ℕ) → n < length ps → rows_in (take (n + 1) ps) ≡ rows_in (take n ps) ++ page_at ps n
    one [] n w = absurd (omega arith)
    one (p ∷ ps) zero w = append-nil p
    one (p ∷ ps) (suc n) w = let next : suc n + 1 ≡ suc (n + 1) = omega arith in rw next (ap (λ rows. p ++ rows) (one ps n (omega arith)) ∙ sym (append_assoc p (rows_in (take n ps)) (page_at ps n)))

    is : rows_in (take spot.page pages) ++ take spot.at (page_at pages spot.page) ≡ rows_in (take (spot.page + 1) pages)
    is = ap (λ rows. rows_in (take spot.page pages) ++ rows) whole ∙ sym (one pages spot.page within)

-- put into pages with the rows of others
pub put-behind : (old mid new : List Rows) (key : ℕ) (value : RowValue) (r : Result ⊤ AllocError) → rows_in mid ≡ rows_in old → PutsRow mid key value r new → PutsRow old key value r new
put-behind old mid new key value (Ok done) same puts = λ q. puts q ∙ ap (λ rows. cond (eqb q key) (Some value) (lookup (eqb q) rows)) same
put-behind old mid new key value (Err fault) same puts = puts ∙ same

-- ---- another value

swap-between : (old new : List Rows) (key : ℕ) (value before : RowValue) (front back : Rows) → rows_in old ≡ front ++ (key, before) ∷ back → rows_in new ≡ front ++ (key, value) ∷ back
    → AreInOrder (rows_in old) → AreInOrder (rows_in new) × IsWithRow old key (Some value) new
swap-between old new key value before front back was is o = (
  subst AreInOrder (sym is) (in-order-put front back (key, value) (in-order-take front back (key, before) ordered) below above),
  λ q. ap (lookup (eqb q)) is ∙ lookup-put q front back (key, value) below ∙ by q (eqb q key) refl ∙ ap (λ rows. cond (eqb q key) (Some value) (lookup (eqb q) rows)) (sym was),
)
  where
    ordered : AreInOrder (front ++ (key, before) ∷ back)
    ordered = subst AreInOrder was o

    below : AreBelow key front
    below = below-split front back (key, before) ordered

    above : AreAbove key back
    above = above-split front back (key, before) ordered

    by : (q : ℕ) (b : Bool) → eqb q key ≡ b → cond (eqb q key) (Some value) (lookup (eqb q) (front ++ back)) ≡ cond (eqb q key) (Some value) (lookup (eqb q) (front ++ (key, before) ∷ back))
    by q true same = rw same refl
    by q false apart = rw apart (sym (lookup-put q front back (key, before) below ∙ ap (λ b. cond b (Some before) (lookup (eqb q) (front ++ back))) apart))

pub swap-told : (pages : List Rows) → ArePages pages → (spot : Spot) (key : ℕ) (value before : RowValue) → spot.page < length pages → slice_get (page_at pages spot.page) spot.at ≡ Some (key, before)
    → (let new : List Rows = slice_set pages spot.page (slice_set (page_at pages spot.page) spot.at (key, value)) in ArePages new × IsWithRow pages key (Some value) new)
swap-told pages are spot key value before within stands =
    let page : Rows = page_at pages spot.page in
    let swapped : Rows = slice_set page spot.at (key, value) in
    let has = has-at page spot.at (key, before) stands in
    let front : Rows = rows_in (take spot.page pages) in
    let back : Rows = rows_in (drop (spot.page + 1) pages) in
    let is = rows-set pages spot.page swapped within ∙ ap (λ rows. front ++ (rows ++ back)) (has.set (key, value)) ∙ regroup front (take spot.at page) ((key, value) ∷ drop (spot.at + 1) page) back in
    let both = swap-between pages (slice_set pages spot.page swapped) key value before (rows_ahead pages spot) (rows_behind pages spot) (rows-row pages spot (key, before) within stands) is are.ordered in
    let kept = has.kept (key, value) in
    let size = size-at pages are spot.page within in
    (record { sizes = sizes-set pages spot.page swapped are.sizes (rw kept size); ordered = both.0 }, both.1)

-- ---- a row less

take-between : (pages new : List Rows) (row : ℕ × RowValue) (front back : Rows) → rows_in pages ≡ front ++ row ∷ back → rows_in new ≡ front ++ back
    → AreInOrder (rows_in pages) → AreInOrder (rows_in new) × IsWithRow pages row.0 None new
take-between pages new row front back old is o =
    (subst AreInOrder (sym is) (in-order-take front back row ordered), λ q. ap (lookup (eqb q)) is ∙ by q (eqb q row.0) refl ∙ ap (λ rows. cond (eqb q row.0) None (lookup (eqb q) rows)) (sym old))
  where
    ordered : AreInOrder (front ++ row ∷ back)
    ordered = subst AreInOrder old o

    by : (q : ℕ) (b : Bool) → eqb q row.0 ≡ b → lookup (eqb q) (front ++ back) ≡ cond (eqb q row.0) None (lookup (eqb q) (front ++ row ∷ back))
    by q true same =
        let at : q ≡ row.0 = eqb-true q row.0 same in
        rw (same, at) (lookup-below row.0 front back (below-split front back row ordered) ∙ lookup-above row.0 back (above-split front back row ordered))
    by q false apart =
        let put = lookup-put q front back row (below-split front back row ordered) in
        rw apart (sym (rw apart at put))

-- a row taken out of its page, which goes with its last row
module _ (pages : List Rows) (are : ArePages pages) (spot : Spot) (row : ℕ × RowValue) (within : spot.page < length pages) (stands : slice_get (page_at pages spot.page) spot.at ≡ Some row)
    (page : Rows) (is : page ≡ take spot.at (page_at pages spot.page) ++ drop (spot.at + 1) (page_at pages spot.page)) where
  abbrev old : Rows
  old = page_at pages spot.page

  abbrev front : Rows
  front = rows_in (take spot.page pages)

  abbrev back : Rows
  back = rows_in (drop (spot.page + 1) pages)

  without : (new : List Rows) → rows_in new ≡ front ++ (page ++ back) → AreInOrder (rows_in new) × IsWithRow pages row.0 None new
  without new rows =
      take-between pages new row (rows_ahead pages spot) (rows_behind pages spot) (rows-row pages spot row within stands)
      (rows ∙ ap (λ rows. front ++ (rows ++ back)) is ∙ regroup front (take spot.at old) (drop (spot.at + 1) old) back) are.ordered

  pub take-stays : 0 < length page → (let new : List Rows = slice_set pages spot.page page in ArePages new × IsWithRow pages row.0 None new)
  take-stays some =
      let both = without (slice_set pages spot.page page) (rows-set pages spot.page page within) in
      let less : length page < length old = subst (λ rows. length rows < length old) (sym is) (has-at old spot.at row stands).less in
      let most : length old ≤ 64 = (size-at pages are spot.page within).1 in
      (record { sizes = sizes-set pages spot.page page are.sizes (some, omega (arith, less, most)); ordered = both.0 }, both.1)

  pub take-goes : length page ≡ 0 → (let new : List Rows = take spot.page pages ++ drop (spot.page + 1) pages in ArePages new × IsWithRow pages row.0 None new)
  take-goes none =
      let first : List Rows = take spot.page pages in
      let rest : List Rows = drop (spot.page + 1) pages in
      let both = without (first ++ rest) (rows-append first rest ∙ ap (λ rows. front ++ (rows ++ back)) (sym (none-of page none))) in
      (record { sizes = sizes-append first rest (sizes-take pages spot.page are.sizes) (sizes-drop pages (spot.page + 1) are.sizes); ordered = both.0 }, both.1)
    where
      none-of : (p : Rows) → length p ≡ 0 → p ≡ []
      none-of [] e = refl
      none-of (r ∷ p) e = absurd (omega (arith, e))
