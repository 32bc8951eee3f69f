-- A primary: its tables with their rows, its own denied list, and its log. What is found in it, and what holds of every one.
use Rattle.std.specs.Prelude.{◌≡◌, ℕ, ◌+◌, ◌≤◌, Bool, false, List, [], Option, None, Some, is_some, nat_eq, position}
use Rattle.std.specs.List.{IsDistinct, find}
use Rattle.std.specs.List.Sorted.{IsStrictlySortedBy}
use Rattle.std.specs.Map.{keys_of, lookup}
use Rattle.std.specs.Option.{option_map, option_map_or}
use Rattle.std.specs.Ordering.{nat_cmp}
use Rattle.mt_names.specs.Names.{same_text}
use Rattle.mt_model.specs.declared.rows.RowChange.{RowChange}
use Rattle.mt_model.specs.Rows.{Row, RowValue, is_change_of}
use Rattle.mt_store.specs.Log.{LogState, empty_log, entries_past, entry_in, log_end}

-- a table: the position of the log at which it was made, whether the primary's own list has it, and its rows by their keys
pub record TableState : Type 0 where
  pub made : ℕ
  pub denied : Bool
  pub rows : List (ℕ × RowValue)

pub record PrimaryState : Type 0 where
  pub tables : List (List ℕ × TableState)
  pub log : LogState

abbrev pub empty_primary : PrimaryState
empty_primary = record { tables = []; log = empty_log }

-- the position behind the last entry of its log
abbrev pub end_of : PrimaryState → ℕ
end_of p = log_end p.log

-- a table without rows, which is not denied
abbrev pub new_table : ℕ → TableState
new_table position = record { made = position; denied = false; rows = [] }

-- ---- what is found

abbrev pub table_at : PrimaryState → List ℕ → Option TableState
table_at p name = lookup (same_text name) p.tables

abbrev pub has_table : PrimaryState → List ℕ → Bool
has_table p name = is_some (table_at p name)

-- the place of a table among the others, in the order in which they were made
abbrev pub place_at : PrimaryState → List ℕ → Option ℕ
place_at p name = position (same_text name) (keys_of p.tables)

-- the position at which a table was made
abbrev pub made_at : PrimaryState → List ℕ → Option ℕ
made_at p name = option_map (λ table. table.made) (table_at p name)

-- whether the primary's own list has a table; one that isn't there is not on it
abbrev pub is_denied_at : PrimaryState → List ℕ → Bool
is_denied_at p name = option_map_or (λ table. table.denied) (table_at p name) false

-- the row of a key in a table
abbrev pub row_in : TableState → ℕ → Row
row_in table key = lookup (nat_eq key) table.rows

-- the row of a table and a key; a table that isn't there has none
abbrev pub row_at : PrimaryState → List ℕ → ℕ → Row
row_at p name key = option_map_or (λ table. row_in table key) (table_at p name) None

-- a row as of a position, with the entries from there on taken back: what stood before the first of them that is of this row; if there is
-- none, the row that stands
abbrev pub row_at_position : PrimaryState → ℕ → List ℕ → ℕ → Row
row_at_position p position table key = option_map_or (λ change. change.before) (find (is_change_of table key) (entries_past p.log position)) (row_at p table key)

-- ---- what holds of every primary

abbrev pub IsInKeyOrder : TableState → Type 0
IsInKeyOrder table = IsStrictlySortedBy nat_cmp (keys_of table.rows)

pub record IsPrimary (p : PrimaryState) : Type 0 where
  -- each table has one place, and its rows are in the order of their keys
  pub distinct : IsDistinct same_text (keys_of p.tables)
  pub ordered : (name : List ℕ) (table : TableState) → table_at p name ≡ Some table → IsInKeyOrder table
  -- it was made at a position of this log
  pub made : (name : List ℕ) (made : ℕ) → made_at p name ≡ Some made → made ≤ end_of p
  -- each kept entry since then leads to the row as of the next position
  pub leads : (name : List ℕ) (made i : ℕ) (change : RowChange) → made_at p name ≡ Some made → made ≤ i → p.log.purged ≤ i → entry_in p.log i ≡ Some change → change.table ≡ name
      → row_at_position p (i + 1) name change.key ≡ change.after
