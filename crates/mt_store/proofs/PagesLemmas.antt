-- Lists of pages: their rows, taken apart where a page or a row stands, and their sizes.
use Rattle.std.proofs.Common.{◌≡◌, ℕ, suc, zero, ◌+◌, ◌<◌, ◌≤◌, List, [], ◌∷◌, ◌++◌, length, take, drop, slice_get, slice_set, slice_index_or, Some, refl, sym, ap, ◌∙◌, arith}
use Rattle.std.proofs.lemmas.List.{append_assoc, take-append-drop, take-set-le, drop-set-lt}
use Rattle.mt_model.specs.Rows.{RowValue}
use Rattle.mt_store.specs.Pages.{ArePages, IsPage, Rows, page_at, rows_before, rows_from, rows_in}
use Rattle.mt_store.specs.declared.pages.Spot.{Spot}
use Rattle.mt_store.proofs.OrderLemmas.{all-append}
use Rattle.mt_store.proofs.PlaceLemmas.{Sizes}

-- ---- the rows of some pages

pub rows-append : (xs ys : List Rows) → rows_in (xs ++ ys) ≡ rows_in xs ++ rows_in ys
rows-append [] ys = refl
rows-append (x ∷ xs) ys = ap (λ rows. x ++ rows) (rows-append xs ys) ∙ sym (append_assoc x (rows_in xs) (rows_in ys))

pub rows-cut : (pages : List Rows) (place : ℕ) → rows_in pages ≡ rows_in (take place pages) ++ rows_in (drop place pages)
rows-cut pages place = sym (ap rows_in (take-append-drop place pages)) ∙ rows-append (take place pages) (drop place pages)

-- front ++ (a ++ b) ++ back, regrouped
pub regroup : (front a b back : Rows) → front ++ ((a ++ b) ++ back) ≡ (front ++ a) ++ (b ++ back)
regroup front a b back = ap (λ rows. front ++ rows) (append_assoc a b back) ∙ sym (append_assoc front a (b ++ back))

-- with another page at a place
pub rows-set : (pages : List Rows) (place : ℕ) (page : Rows) → place < length pages → rows_in (slice_set pages place page) ≡ rows_in (take place pages) ++ (page ++ rows_in (drop (place + 1) pages))
rows-set [] place page within = absurd (omega arith)
rows-set (p ∷ pages) zero page within = refl
rows-set (p ∷ pages) (suc i) page within =
    let next : suc i + 1 ≡ suc (i + 1) = omega arith in
    rw next (ap (λ rows. p ++ rows) (rows-set pages i page (omega arith)) ∙ sym (append_assoc p (rows_in (take i pages)) (page ++ rows_in (drop (i + 1) pages))))

pub set-same : (pages : List Rows) (place : ℕ) → place < length pages → slice_set pages place (page_at pages place) ≡ pages
set-same [] place within = absurd (omega arith)
set-same (p ∷ pages) zero within = refl
set-same (p ∷ pages) (suc i) within = ap (λ ps. p ∷ ps) (set-same pages i (omega arith))

-- the page at a place among the others
pub rows-page : (pages : List Rows) (place : ℕ) → place < length pages → rows_in pages ≡ rows_in (take place pages) ++ (page_at pages place ++ rows_in (drop (place + 1) pages))
rows-page pages place within = ap rows_in (sym (set-same pages place within)) ∙ rows-set pages place (page_at pages place) within

-- before a spot, and from it on
pub rows-spot : (pages : List Rows) (spot : Spot) → spot.page ≤ length pages → rows_in pages ≡ rows_before pages spot ++ rows_from pages spot
rows-spot pages spot within = by pages spot.page spot.at within
  where
    by : (ps : List Rows) (n at : ℕ) → n ≤ length ps → rows_in ps ≡ (rows_in (take n ps) ++ take at (page_at ps n)) ++ (drop at (page_at ps n) ++ rows_in (drop (n + 1) ps))
    by [] zero zero within = refl
    by [] zero (suc at) within = refl
    by [] (suc n) at within = absurd (omega arith)
    by (p ∷ ps) zero at within = ap (λ rows. rows ++ rows_in ps) (sym (take-append-drop at p)) ∙ append_assoc (take at p) (drop at p) (rows_in ps)
    by (p ∷ ps) (suc n) at within =
        let next : suc n + 1 ≡ suc (n + 1) = omega arith in
        rw next (ap (λ rows. p ++ rows) (by ps n at (omega arith)) ∙ sym (append_assoc p (rows_in (take n ps) ++ take at (page_at ps n)) (drop at (page_at ps n) ++ rows_in (drop (n + 1) ps)))
        ∙ ap (λ rows. rows ++ (drop at (page_at ps n) ++ rows_in (drop (n + 1) ps))) (sym (append_assoc p (rows_in (take n ps)) (take at (page_at ps n)))))

-- ---- a row among others

-- a page where a row stands at a place, with another one there, and without one
pub record HasAt (rows : Rows) (at : ℕ) (row : ℕ × RowValue) : Type 0 where
  pub whole : rows ≡ take at rows ++ row ∷ drop (at + 1) rows
  pub set : (other : ℕ × RowValue) → slice_set rows at other ≡ take at rows ++ other ∷ drop (at + 1) rows
  pub kept : (other : ℕ × RowValue) → length (slice_set rows at other) ≡ length rows
  pub less : length (take at rows ++ drop (at + 1) rows) < length rows

pub has-at : (rows : Rows) (at : ℕ) (row : ℕ × RowValue) → slice_get rows at ≡ Some row → HasAt rows at row
has-at [] at row e = absurd cc
has-at (r ∷ rows) zero row e = let same : r ≡ row = cc in record { whole = ap (λ x. x ∷ rows) same; set = λ other. refl; kept = λ other. refl; less = omega arith }
has-at (r ∷ rows) (suc at) row e =
    let again = has-at rows at row e in
    let next : suc at + 1 ≡ suc (at + 1) = omega arith in
    let less = again.less in
    record {
      whole = rw next (ap (λ rs. r ∷ rs) again.whole);
      set = λ other. rw next (ap (λ rs. r ∷ rs) (again.set other));
      kept = λ other. ap suc (again.kept other);
      less = rw next (omega (arith, less));
    }

module _ (pages : List Rows) (spot : Spot) where
  -- the rows before the one at a spot, and those behind it
  abbrev pub rows_ahead : Rows
  rows_ahead = rows_in (take spot.page pages) ++ take spot.at (page_at pages spot.page)

  abbrev pub rows_behind : Rows
  rows_behind = drop (spot.at + 1) (page_at pages spot.page) ++ rows_in (drop (spot.page + 1) pages)

  pub rows-row : (row : ℕ × RowValue) → spot.page < length pages → slice_get (page_at pages spot.page) spot.at ≡ Some row → rows_in pages ≡ rows_ahead ++ row ∷ rows_behind
  rows-row row within stands =
      let page : Rows = page_at pages spot.page in
      let front : Rows = rows_in (take spot.page pages) in
      let back : Rows = rows_in (drop (spot.page + 1) pages) in
      rows-page pages spot.page within ∙ ap (λ rows. front ++ (rows ++ back)) (has-at page spot.at row stands).whole ∙ regroup front (take spot.at page) (row ∷ drop (spot.at + 1) page) back

-- ---- sizes

pub sizes-take : (pages : List Rows) (n : ℕ) → Sizes pages → Sizes (take n pages)
sizes-take [] zero s = tt
sizes-take [] (suc n) s = tt
sizes-take (p ∷ pages) zero s = tt
sizes-take (p ∷ pages) (suc n) s = (s.0, sizes-take pages n s.1)

pub sizes-drop : (pages : List Rows) (n : ℕ) → Sizes pages → Sizes (drop n pages)
sizes-drop [] zero s = tt
sizes-drop [] (suc n) s = tt
sizes-drop (p ∷ pages) zero s = s
sizes-drop (p ∷ pages) (suc n) s = sizes-drop pages n s.1

pub sizes-set : (pages : List Rows) (n : ℕ) (page : Rows) → Sizes pages → IsPage page → Sizes (slice_set pages n page)
sizes-set [] n page s is = tt
sizes-set (p ∷ pages) zero page s is = (is, s.1)
sizes-set (p ∷ pages) (suc n) page s is = (s.0, sizes-set pages n page s.1 is)

pub sizes-append : (xs ys : List Rows) → Sizes xs → Sizes ys → Sizes (xs ++ ys)
sizes-append xs ys a b = all-append IsPage xs ys a b

pub size-at : (pages : List Rows) → ArePages pages → (n : ℕ) → n < length pages → IsPage (page_at pages n)
size-at pages are n within = by pages n are.sizes within
  where
    by : (ps : List Rows) (i : ℕ) → Sizes ps → i < length ps → IsPage (page_at ps i)
    by [] i s within = absurd (omega arith)
    by (p ∷ ps) zero s within = s.0
    by (p ∷ ps) (suc i) s within = by ps i s.1 (omega arith)

pub most-rows : (pages : List Rows) → ArePages pages → (place : ℕ) → place < length pages → length (page_at pages place) ≤ 64
most-rows pages are place within = (size-at pages are place within).1

pub full-page : (pages : List Rows) → ArePages pages → (place : ℕ) → place < length pages → 64 ≤ length (page_at pages place) → length (page_at pages place) ≡ 64
full-page pages are place within high = let most = most-rows pages are place within in omega (arith, most)

-- ---- what a look at a place gives

pub at-found : (pages : List Rows) (place : ℕ) (page : Rows) → place < length pages → page ≡ slice_index_or pages place page → page ≡ page_at pages place
at-found [] place page within e = absurd (omega arith)
at-found (p ∷ pages) zero page within e = e
at-found (p ∷ pages) (suc i) page within e = at-found pages i page (omega arith) e

-- the pages around one that is set
pub set-around : (pages : List Rows) (place : ℕ) (page : Rows) → take place (slice_set pages place page) ++ drop (place + 1) (slice_set pages place page) ≡ take place pages ++ drop (place + 1) pages
set-around pages place page = rw (take-set-le place pages place page (omega arith), drop-set-lt (place + 1) pages place page (omega arith)) refl
