-- What is found of the rows, by where a row stands or would, and what an edit there makes of them.
use Rattle.std.proofs.Common.{◌≡◌, ℕ, suc, zero, ◌+◌, ◌<◌, ◌≤◌, Bool, true, false, cond, eqb, nat_lt, List, [], ◌∷◌, ◌++◌, length, drop, slice_get, Option, Some, None, Result, Ok, Err, is_ok, refl, sym, ap, subst, ◌∙◌, arith}
use Rattle.std.proofs.lemmas.Bool.{eqb-true, eq-eqb, le-ltb, lt-ltb}
use Rattle.std.proofs.lemmas.List.{append_assoc, drop_all}
use Rattle.std.specs.Bool.{⊤}
use Rattle.std.specs.List.{AllByRecursion, find}
use Rattle.std.specs.Map.{lookup}
use Rattle.std.specs.declared.alloc.AllocError.{AllocError}
use Rattle.mt_model.specs.Rows.{Row, RowValue}
use Rattle.mt_store.specs.Pages.{AreAbove, AreBelow, AreInOrder, FitsAt, IsWithRow, PutsRow, ReplacesRow, Rows, SetsRow, StandsAt, TakesRow, first_row, is_above, page_at, row_of, rows_before, rows_from, rows_in}
use Rattle.mt_store.specs.declared.pages.Spot.{Spot}
use Rattle.mt_store.proofs.OrderLemmas.{above-split, all-append, below-split, lookup-above, lookup-below, lookup-put}
use Rattle.mt_store.proofs.PagesLemmas.{rows-row, rows-spot, rows_ahead, rows_behind}
use Rattle.mt_store.proofs.PlaceLemmas.{Sizes}

-- ---- the row of a key

pub row-stands : (pages : List Rows) → AreInOrder (rows_in pages) → (spot : Spot) (row : ℕ × RowValue) → spot.page < length pages → slice_get (page_at pages spot.page) spot.at ≡ Some row → row_of pages row.0 ≡ Some row.1
row-stands pages o spot row within stands =
    let ahead : Rows = rows_ahead pages spot in
    let behind : Rows = rows_behind pages spot in
    let whole = rows-row pages spot row within stands in
    ap (lookup (eqb row.0)) whole ∙ lookup-put row.0 ahead behind row (below-split ahead behind row (subst AreInOrder whole o)) ∙ ap (λ b. cond b (Some row.1) (lookup (eqb row.0) (ahead ++ behind))) (eq-eqb row.0 row.0 refl)

pub row-fits : (pages : List Rows) (key : ℕ) (spot : Spot) → FitsAt pages key spot → row_of pages key ≡ None
row-fits pages key spot fits =
    ap (lookup (eqb key)) (rows-spot pages spot fits.page) ∙ lookup-below key (rows_before pages spot) (rows_from pages spot) fits.before ∙ lookup-above key (rows_from pages spot) fits.behind

-- what is read there is the row of the key
pub same-row : (pages : List Rows) (key : ℕ) (spot : Spot) (row : ℕ × RowValue) → AreInOrder (rows_in pages) → StandsAt pages key spot → slice_get (page_at pages spot.page) spot.at ≡ Some row → Some row.1 ≡ row_of pages key
same-row pages key spot row o stands is =
    let both : Some row ≡ Some (key, stands.value) = sym is ∙ stands.row in
    let same : row ≡ (key, stands.value) = cc in
    rw same (sym (row-stands pages o spot (key, stands.value) stands.page stands.row))

-- ---- the first row from a spot on

pub first-of-pages : (pages : List Rows) → Sizes pages → (place : ℕ) (page : Rows) → slice_get pages place ≡ Some page → first_row (rows_in (drop place pages)) ≡ first_row page
first-of-pages [] sizes place page e = absurd cc
first-of-pages ([] ∷ pages) sizes zero page e = absurd (let h : 0 < 0 = sizes.0.0 in omega arith)
first-of-pages ((row ∷ p) ∷ pages) sizes zero page e = let same : row ∷ p ≡ page = cc in ap first_row same
first-of-pages (p ∷ pages) sizes (suc place) page e = first-of-pages pages sizes.1 place page e

pub none-of-pages : (pages : List Rows) (place : ℕ) → slice_get pages place ≡ None → first_row (rows_in (drop place pages)) ≡ None
none-of-pages [] zero e = refl
none-of-pages [] (suc place) e = refl
none-of-pages (p ∷ pages) zero e = absurd cc
none-of-pages (p ∷ pages) (suc place) e = none-of-pages pages place e

-- in a page, or behind it
pub first-in-page : (page back : Rows) (at : ℕ) → at < length page → first_row (drop at page ++ back) ≡ slice_get page at
first-in-page [] back at within = absurd (omega arith)
first-in-page (row ∷ page) back zero within = refl
first-in-page (row ∷ page) back (suc at) within = first-in-page page back at (omega arith)

pub first-behind-page : (page back : Rows) (at : ℕ) → length page ≤ at → first_row (drop at page ++ back) ≡ first_row back
first-behind-page page back at end = let none : drop at page ≡ [] = drop_all at page end in rw none refl

-- ---- the first row above a key

find-behind : (key : ℕ) (front back : Rows) → AllByRecursion (λ row. row.0 ≤ key) front → AreAbove key back → find (λ row. nat_lt key row.0) (front ++ back) ≡ first_row back
find-behind key [] [] low over = refl
find-behind key [] (row ∷ back) low over = rw (lt-ltb key row.0 over.0) refl
find-behind key (row ∷ front) back low over = let h : row.0 ≤ key = low.0 in rw (le-ltb key row.0 h) (find-behind key front back low.1 over)

low-from : (key : ℕ) (rows : Rows) → AreBelow key rows → AllByRecursion (λ row. row.0 ≤ key) rows
low-from key [] below = tt
low-from key (row ∷ rows) below = (let h : row.0 < key = below.0 in omega arith, low-from key rows below.1)

pub find-all : (rows : Rows) → find (λ row. is_above None row.0) rows ≡ first_row rows
find-all [] = refl
find-all (row ∷ rows) = refl

pub find-fits : (pages : List Rows) (key : ℕ) (spot : Spot) → FitsAt pages key spot → find (λ row. nat_lt key row.0) (rows_in pages) ≡ first_row (rows_from pages spot)
find-fits pages key spot fits =
    ap (find (λ row. nat_lt key row.0)) (rows-spot pages spot fits.page) ∙ find-behind key (rows_before pages spot) (rows_from pages spot) (low-from key (rows_before pages spot) fits.before) fits.behind

pub find-stands : (pages : List Rows) → AreInOrder (rows_in pages) → (key : ℕ) (spot : Spot) (value : RowValue) → spot.page < length pages → slice_get (page_at pages spot.page) spot.at ≡ Some (key, value)
    → find (λ row. nat_lt key row.0) (rows_in pages) ≡ first_row (rows_from pages (record { page = spot.page; at = spot.at + 1 }))
find-stands pages o key spot value within stands =
    let ahead : Rows = rows_ahead pages spot in
    let behind : Rows = rows_behind pages spot in
    let whole = rows-row pages spot (key, value) within stands in
    let ordered = subst AreInOrder whole o in
    let low = low-from key ahead (below-split ahead behind (key, value) ordered) in
    ap (find (λ row. nat_lt key row.0)) (whole ∙ sym (append_assoc ahead ((key, value) ∷ []) behind))
    ∙ find-behind key (ahead ++ (key, value) ∷ []) behind (all-append (λ row. row.0 ≤ key) ahead ((key, value) ∷ []) low (omega arith, tt)) (above-split ahead behind (key, value) ordered)

-- ---- an edit, by where the row of the key stands or would

key-of : (rows : Rows) (i a : ℕ) (v : RowValue) (b : ℕ) (w : RowValue) → slice_get rows i ≡ Some (a, v) → slice_get rows i ≡ Some (b, w) → a ≡ b
key-of rows i a v b w e f = ap (λ (o : Option (ℕ × RowValue)). key-or o) (sym e ∙ f)
  where
    key-or : Option (ℕ × RowValue) → ℕ
    key-or None = 0
    key-or (Some row) = row.0

pub replaced-row : (pages : List Rows) (key : ℕ) (spot : Spot) (value before : RowValue) (new : List Rows) → AreInOrder (rows_in pages) → StandsAt pages key spot → ReplacesRow pages spot value before new
    → (Some before ≡ row_of pages key) × IsWithRow pages key (Some value) new
replaced-row pages key spot value before new o stands did =
    let at : ℕ = did.0 in
    let there : slice_get (page_at pages spot.page) spot.at ≡ Some (at, before) = did.1 in
    let same : at ≡ key = key-of (page_at pages spot.page) spot.at at before key stands.value there stands.row in
    (same-row pages key spot (did.0, before) o stands did.1, subst (λ k. IsWithRow pages k (Some value) new) same did.2)

pub taken-row : (pages : List Rows) (key : ℕ) (spot : Spot) (row : ℕ × RowValue) (new : List Rows) → AreInOrder (rows_in pages) → StandsAt pages key spot → TakesRow pages spot row new
    → (Some row.1 ≡ row_of pages key) × IsWithRow pages key None new
taken-row pages key spot row new o stands did =
    let both : Some row ≡ Some (key, stands.value) = sym did.0 ∙ stands.row in
    let same : row.0 ≡ key = cc in
    (same-row pages key spot row o stands did.0, subst (λ k. IsWithRow pages k None new) same did.1)

pub no-row : (pages : List Rows) (key : ℕ) → None ≡ row_of pages key → IsWithRow pages key None pages
no-row pages key none q = by (eqb q key) refl
  where
    by : (b : Bool) → eqb q key ≡ b → row_of pages q ≡ cond (eqb q key) None (row_of pages q)
    by true same = let at : q ≡ key = eqb-true q key same in rw (same, at) (sym none)
    by false apart = rw apart refl

pub put-done : (pages : List Rows) (key : ℕ) (value : RowValue) (r : Result ⊤ AllocError) (new : List Rows) → PutsRow pages key value r new → is_ok r ≡ true → IsWithRow pages key (Some value) new
put-done pages key value (Ok done) new puts ok = puts
put-done pages key value (Err fault) new puts ok = absurd cc

pub put-refused : (pages : List Rows) (key : ℕ) (value : RowValue) (r : Result ⊤ AllocError) (new : List Rows) → PutsRow pages key value r new → is_ok r ≡ false → rows_in new ≡ rows_in pages
put-refused pages key value (Ok done) new puts ok = absurd cc
put-refused pages key value (Err fault) new puts ok = puts

pub set-done : (pages : List Rows) (key : ℕ) (value : RowValue) (r : Result Row AllocError) (before : Row) (new : List Rows) → SetsRow pages key value r new → r ≡ Ok before → (before ≡ row_of pages key) × IsWithRow pages key (Some value) new
set-done pages key value (Ok row) before new sets is = let same : row ≡ before = cc in rw (← same) sets
set-done pages key value (Err fault) before new sets is = absurd cc

pub set-refused : (pages : List Rows) (key : ℕ) (value : RowValue) (r : Result Row AllocError) (new : List Rows) → SetsRow pages key value r new → is_ok r ≡ false → rows_in new ≡ rows_in pages
set-refused pages key value (Ok row) new sets ok = absurd cc
set-refused pages key value (Err fault) new sets ok = sets
