-- The rows of a table in pages: what is true of all pages, where a row stands or would stand, and what becomes of the rows.
use Rattle.std.specs.Prelude.{◌≡◌, ℕ, ◌+◌, ◌-◌, ◌<◌, ◌≤◌, ◌==◌, ◌⊎◌, Bool, true, List, [], ◌∷◌, ◌++◌, drop, take, length, slice_get, slice_index_or, if◌then◌else◌, nat_eq, nat_le, nat_lt, Option, Some, None, Result, Ok, Err, ⊤}
use Rattle.std.specs.List.{AllByRecursion, insert}
use Rattle.std.specs.List.Sorted.{IsStrictlySortedBy}
use Rattle.std.specs.Map.{keys_of, lookup}
use Rattle.std.specs.Ordering.{nat_cmp}
use Rattle.std.specs.declared.alloc.AllocError.{AllocError}
use Rattle.mt_model.specs.Rows.{Row, RowValue}
use Rattle.mt_store.specs.declared.pages.Spot.{Spot}

-- rows with their keys
abbrev pub Rows : Type 0
Rows = List (ℕ × RowValue)

-- the rows of all pages, one page behind the other
abbrev pub rows_in : List Rows → Rows
rows_in [] = []
rows_in (page ∷ pages) = page ++ rows_in pages

-- ---- what is true of all pages

-- each key is below those behind it
abbrev pub AreInOrder : Rows → Type 0
AreInOrder rows = IsStrictlySortedBy nat_cmp (keys_of rows)

-- a page is never empty, and has at most 64 rows
abbrev pub IsPage : Rows → Type 0
IsPage page = (0 < length page) × (length page ≤ 64)

pub record ArePages (pages : List Rows) : Type 0 where
  pub sizes : AllByRecursion IsPage pages
  pub ordered : AreInOrder (rows_in pages)

-- ---- what is read

-- the row of a key, or none
abbrev pub row_of : List Rows → ℕ → Row
row_of pages key = lookup (nat_eq key) (rows_in pages)

-- the first of some rows
abbrev pub first_row : Rows → Option (ℕ × RowValue)
first_row rows = slice_get rows 0

-- whether a key lies above another one, if one is given
abbrev pub is_above : Option ℕ → ℕ → Bool
is_above None key = true
is_above (Some last) key = nat_lt last key

-- ---- where a row stands, or would

-- the page at a place; behind all pages there is no row
abbrev pub page_at : List Rows → ℕ → Rows
page_at pages place = slice_index_or pages place []

-- the rows before a spot, and those from it on
abbrev pub rows_before : List Rows → Spot → Rows
rows_before pages spot = rows_in (take spot.page pages) ++ take spot.at (page_at pages spot.page)

abbrev pub rows_from : List Rows → Spot → Rows
rows_from pages spot = drop spot.at (page_at pages spot.page) ++ rows_in (drop (spot.page + 1) pages)

-- rows whose keys are all below a key, or all above it
abbrev pub AreBelow : ℕ → Rows → Type 0
AreBelow key rows = AllByRecursion (λ row. row.0 < key) rows

abbrev pub AreAbove : ℕ → Rows → Type 0
AreAbove key rows = AllByRecursion (λ row. key < row.0) rows

-- the row of a key stands at a spot
pub record StandsAt (pages : List Rows) (key : ℕ) (spot : Spot) : Type 0 where
  pub page : spot.page < length pages
  pub at : spot.at < length (page_at pages spot.page)
  pub value : RowValue
  pub row : slice_get (page_at pages spot.page) spot.at ≡ Some (key, value)

-- a key has no row, and would have it at a spot
pub record FitsAt (pages : List Rows) (key : ℕ) (spot : Spot) : Type 0 where
  pub page : spot.page ≤ length pages
  pub at : spot.at ≤ length (page_at pages spot.page)
  pub before : AreBelow key (rows_before pages spot)
  pub behind : AreAbove key (rows_from pages spot)

abbrev pub Seeks : List Rows → ℕ → Result Spot Spot → Type 0
Seeks pages key (Ok spot) = StandsAt pages key spot
Seeks pages key (Err spot) = FitsAt pages key spot

-- the first key of a page; of none it is 0
abbrev pub first_key : Rows → ℕ
first_key [] = 0
first_key (row ∷ rows) = row.0

-- no page before a place has a key, and none behind it
pub record IsPageFor (pages : List Rows) (key place : ℕ) : Type 0 where
  pub within : place ≤ length pages
  pub before : AreBelow key (rows_in (take place pages))
  pub behind : AreAbove key (rows_in (drop (place + 1) pages))

-- where a page has the row of a key, or else would have it
abbrev pub SeeksIn : Rows → ℕ → Result ℕ ℕ → Type 0
SeeksIn page key (Ok at) = (at < length page) × ((value : RowValue) × (slice_get page at ≡ Some (key, value)))
SeeksIn page key (Err at) = (at ≤ length page) × AreBelow key (take at page) × AreAbove key (drop at page)

-- ---- what becomes of the rows

-- a key has this row, or none, and each other key has what it had
abbrev pub IsWithRow : List Rows → ℕ → Row → List Rows → Type 0
IsWithRow old key row new = (other : ℕ) → row_of new other ≡ (if other == key then row else row_of old other)

-- a row is put; if there is no memory all rows stay, in whatever pages
abbrev pub PutsRow : List Rows → ℕ → RowValue → Result ⊤ AllocError → List Rows → Type 0
PutsRow old key value (Ok done) new = IsWithRow old key (Some value) new
PutsRow old key value (Err fault) new = rows_in new ≡ rows_in old

-- the same where a row may stand, which is the answer
abbrev pub SetsRow : List Rows → ℕ → RowValue → Result Row AllocError → List Rows → Type 0
SetsRow old key value (Ok before) new = (before ≡ row_of old key) × IsWithRow old key (Some value) new
SetsRow old key value (Err fault) new = rows_in new ≡ rows_in old

-- the row that stands at a spot gets another value
abbrev pub ReplacesRow : List Rows → Spot → RowValue → RowValue → List Rows → Type 0
ReplacesRow old spot value before new = (key : ℕ) × (slice_get (page_at old spot.page) spot.at ≡ Some (key, before)) × IsWithRow old key (Some value) new

-- the row that stands at a spot is taken away
abbrev pub TakesRow : List Rows → Spot → ℕ × RowValue → List Rows → Type 0
TakesRow old spot row new = (slice_get (page_at old spot.page) spot.at ≡ Some row) × IsWithRow old row.0 None new

-- ---- what becomes of the pages

-- a spot before the rows of a page of 32 and more, or behind those of one of 64
abbrev pub IsBeside : List Rows → Spot → Type 0
IsBeside pages spot = ((spot.at ≡ 0) × (32 ≤ length (page_at pages spot.page))) ⊎ ((spot.at ≡ 64) × (length (page_at pages spot.page) ≡ 64))

-- the pages stay as they are, and a row has one of its own among them
abbrev pub IsWithPage : List Rows → ℕ × RowValue → List Rows → Type 0
IsWithPage old row new = (place : ℕ) × (new ≡ insert old place (row ∷ []))

-- a page in two halves
abbrev pub halved : List Rows → ℕ → List Rows
halved pages place = take place pages ++ take 32 (page_at pages place) ∷ drop 32 (page_at pages place) ∷ drop (place + 1) pages

-- a spot of such a page in one of the halves
abbrev pub in_half : Spot → Spot
in_half spot = if nat_le spot.at 32 then spot else record { page = spot.page + 1; at = spot.at - 32 }
