-- Several rows put one after another: what becomes of the rows and of the log.
use Rattle.std.specs.Prelude.{◌≡◌, ℕ, List, [], ◌∷◌, ◌++◌, fold}
use Rattle.mt_model.specs.declared.rows.RowChange.{RowChange}
use Rattle.mt_model.specs.Rows.{Row}
use Rattle.mt_store.specs.Log.{LogState}
use Rattle.mt_primary.specs.Primary.{PrimaryState, is_denied_at, made_at, row_at}
use Rattle.mt_primary.specs.Writes.{RowPut, row_after_put}

-- the rows of a primary, by their tables and keys
abbrev pub RowsByKey : Type 0
RowsByKey = List ℕ → ℕ → Row

-- the rows after one put
abbrev pub rows_after_put : RowsByKey → RowPut → RowsByKey
rows_after_put rows put table key = row_after_put table key (rows table key) put

-- the entries of puts, in their order, each with the row that stood before it
abbrev pub changes_by : RowsByKey → List RowPut → List RowChange
changes_by rows [] = []
changes_by rows (put ∷ puts) =
    record { table = put.table; key = put.key; before = rows put.table put.key; after = put.after } ∷ changes_by (rows_after_put rows put) puts

-- a log with entries more
abbrev pub with_entries : LogState → List RowChange → LogState
with_entries log changes = record log { entries = log.entries ++ changes }

-- each row is what the puts leave of it, the log has one entry more for each put, and all else is as it was
pub record PutsMade (old : PrimaryState) (puts : List RowPut) (new : PrimaryState) : Type 0 where
  pub rows : (table : List ℕ) (key : ℕ) → row_at new table key ≡ fold (row_after_put table key) (row_at old table key) puts
  pub log : new.log ≡ with_entries old.log (changes_by (row_at old) puts)
  pub made : (table : List ℕ) → made_at new table ≡ made_at old table
  pub denied : (table : List ℕ) → is_denied_at new table ≡ is_denied_at old table
