-- What a change of one table is, and what becomes of the log with it.
use Rattle.std.specs.Prelude.{◌≡◌, ◌≢◌, ℕ, List, Result, Ok, Err}
use Rattle.mt_names.specs.Results.{◌>>=◌}
use Rattle.mt_model.specs.declared.faults.PrimaryFault.{PrimaryFault}
use Rattle.mt_model.specs.declared.faults.PrimaryFault.TheVariants.{Memory}
use Rattle.mt_model.specs.declared.rows.Op.{Op}
use Rattle.mt_model.specs.Rows.{Row, op_key, op_row}
use Rattle.mt_store.specs.Log.{LogState, log_end, with_entry}
use Rattle.mt_primary.specs.Primary.{TableState, IsInKeyOrder, row_in}
use Rattle.mt_primary.specs.Writes.{unless_full}

-- one row is set or taken away
pub record IsRowPut (old : TableState) (key : ℕ) (row : Row) (new : TableState) : Type 0 where
  pub here : row_in new key ≡ row
  pub others : (other : ℕ) → other ≢ key → row_in new other ≡ row_in old other
  pub made : new.made ≡ old.made
  pub denied : new.denied ≡ old.denied
  pub ordered : IsInKeyOrder new

-- an edit of one row: a client's operation, which the row that stands there may refuse, or a row that is set under a key, or
-- taken away if there is none, whatever stands there
pub data RowEdit : Type 0 where
  Write : Op → RowEdit
  Put : ℕ → Row → RowEdit

-- the key of the row that is edited
abbrev pub edit_key : RowEdit → ℕ
edit_key (Write op) = op_key op
edit_key (Put key after) = key

-- the row that an edit makes of a row, or why it is refused
abbrev pub edited_row : RowEdit → Row → Result Row PrimaryFault
edited_row (Write op) row = op_row op row
edited_row (Put key after) row = Ok after

-- a table and the log, before or after
pub record LoggedTable : Type 0 where
  pub table : TableState
  pub log : LogState

-- the row that an edit leaves, or the first test that refuses it
abbrev pub changed_row : LoggedTable → RowEdit → Result Row PrimaryFault
changed_row old edit = edited_row edit (row_in old.table (edit_key edit)) >>= unless_full old.log

-- one row is what the edit makes of it, and the log has one entry more
pub record IsRowChanged (old : LoggedTable) (name : List ℕ) (edit : RowEdit) (answer : ℕ) (new : LoggedTable) : Type 0 where
  pub row : changed_row old edit ≡ Ok (row_in new.table (edit_key edit))
  pub put : IsRowPut old.table (edit_key edit) (row_in new.table (edit_key edit)) new.table
  pub log : new.log ≡ with_entry old.log (record { table = name; key = edit_key edit; before = row_in old.table (edit_key edit); after = row_in new.table (edit_key edit) })
  pub position : answer ≡ log_end new.log

abbrev pub ChangesRow : LoggedTable → List ℕ → RowEdit → Result ℕ PrimaryFault → LoggedTable → Type 0
ChangesRow old name edit (Ok position) new = IsRowChanged old name edit position new
ChangesRow old name edit (Err Memory) new = ((row : Row) × (changed_row old edit ≡ Ok row)) × (new ≡ old)
ChangesRow old name edit (Err fault) new = (changed_row old edit ≡ Err fault) × (new ≡ old)
