-- What a read of a row answers, and what a stream reads: the log from a position on, and a table's rows in the order of their keys.
use Rattle.std.specs.Prelude.{ℕ, Bool, false, List, if◌then◌else◌, Option, None, Result, Ok, Err}
use Rattle.std.specs.List.{filter, find}
use Rattle.std.specs.Option.{option_map_or}
use Rattle.mt_names.specs.declared.types.TabletType.{TabletType}
use Rattle.mt_names.specs.declared.types.TabletType.TheVariants as of_type
use Rattle.mt_model.specs.declared.faults.PrimaryFault.{PrimaryFault}
use Rattle.mt_model.specs.declared.faults.PrimaryFault.TheVariants.{NoTable, Denied}
use Rattle.mt_model.specs.declared.rows.RowChange.{RowChange}
use Rattle.mt_model.specs.Rows.{Row, RowValue}
use Rattle.mt_store.specs.Log.{entries_past, read_entry}
pub use Rattle.mt_store.specs.Pages.{is_above}
use Rattle.mt_primary.specs.Primary.{PrimaryState, TableState, has_table, is_denied_at, row_at, row_in, table_at}

-- ---- a row

-- what of the own list concerns a read: it refuses those of type primary, and no others
abbrev pub refuses_type : Bool → TabletType → Bool
refuses_type is_denied of_type.Primary = is_denied
refuses_type is_denied other = false

-- the row of a table and a key for a tablet type, or the first test that refuses it: the table, the own list
abbrev pub read_row : PrimaryState → List ℕ → ℕ → TabletType → Result Row PrimaryFault
read_row p name key tablet_type =
    if has_table p name then (if refuses_type (is_denied_at p name) tablet_type then Err Denied else Ok (row_at p name key))
    else Err NoTable

-- the row of a key for a tablet type in a table that is there, or Denied
abbrev pub read_row_in : TableState → ℕ → TabletType → Result Row PrimaryFault
read_row_in table key tablet_type = if refuses_type table.denied tablet_type then Err Denied else Ok (row_in table key)

-- ---- the log

-- the entry at a position, if the log has one there; below the first kept one Purged
abbrev pub entry_at : PrimaryState → ℕ → Result (Option RowChange) PrimaryFault
entry_at p position = read_entry p.log position

-- the entries from a position on, which is none below the first kept one
abbrev pub entries_from : PrimaryState → ℕ → List RowChange
entries_from p position = entries_past p.log position

-- ---- the rows of a table, one after the other

-- the rows of a table, or those above a key
abbrev pub rows_above : TableState → Option ℕ → List (ℕ × RowValue)
rows_above table last = filter (λ row. is_above last row.0) table.rows

-- the first row of a table, or the first above a key
abbrev pub next_row_in : TableState → Option ℕ → Option (ℕ × RowValue)
next_row_in table last = find (λ row. is_above last row.0) table.rows

-- of a table by its name; one that isn't there has none
abbrev pub next_row : PrimaryState → List ℕ → Option ℕ → Option (ℕ × RowValue)
next_row p name last = option_map_or (λ table. next_row_in table last) (table_at p name) None
