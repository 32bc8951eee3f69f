-- Rows: what an operation makes of one, and what a log tells of them.
use Rattle.std.specs.Prelude.{ℕ, ◌+◌, ◌&&◌, Bool, List, ◌++◌, length, fold, drop, if◌then◌else◌, nat_lt, ◌==◌, Option, None, Some, Result, Ok, Err}
use Rattle.arrayvec.specs.ArrayVec.{ArrayVec}
use Rattle.mt_names.specs.Names.{same_text}
use Rattle.mt_model.specs.declared.faults.PrimaryFault.{PrimaryFault}
use Rattle.mt_model.specs.declared.faults.PrimaryFault.TheVariants.{RowExists, NoRow, TooLong}
use Rattle.mt_model.specs.declared.rows.Op.{Op}
use Rattle.mt_model.specs.declared.rows.Op.TheVariants.{Insert, Update, Append, Delete}
use Rattle.mt_model.specs.declared.rows.RowChange.{RowChange}
use Rattle.mt_model.specs.Limits.{longest_value}

-- the bytes of a row's value (this profile's own)
abbrev pub RowValue : Type 0
RowValue = ArrayVec ℕ

-- a row, or none (this profile's own)
abbrev pub Row : Type 0
Row = Option RowValue

-- the key of the row that an operation is about (this profile's own)
abbrev pub op_key : Op → ℕ
op_key (Insert key value) = key
op_key (Update key value) = key
op_key (Append key value) = key
op_key (Delete key) = key

-- one value behind another, if both fit (this profile's own)
abbrev pub appended : RowValue → RowValue → Result Row PrimaryFault
appended old more =
    if nat_lt longest_value (length old.items + length more.items) then Err TooLong
    else Ok (Some (record { items = old.items ++ more.items }))

-- the row that an operation makes of a row, or why it is refused (this profile's own)
abbrev pub op_row : Op → Row → Result Row PrimaryFault
op_row (Insert key value) None = Ok (Some value)
op_row (Insert key value) (Some old) = Err RowExists
op_row (Update key value) None = Err NoRow
op_row (Update key value) (Some old) = Ok (Some value)
op_row (Append key value) None = Err NoRow
op_row (Append key value) (Some old) = appended old value
op_row (Delete key) None = Err NoRow
op_row (Delete key) (Some old) = Ok None

-- whether a change is of this row (this profile's own)
abbrev pub is_change_of : List ℕ → ℕ → RowChange → Bool
is_change_of table key change = same_text table change.table && (key == change.key)

-- the row after one change more (this profile's own; in Vitess a row event has the row before and after)
abbrev pub row_with : List ℕ → ℕ → Row → RowChange → Row
row_with table key row change = if is_change_of table key change then change.after else row

-- the row that a log leaves, which begins with none (this profile's own)
abbrev pub row_after : List RowChange → List ℕ → ℕ → Row
row_after changes table key = fold (row_with table key) None changes

-- the row of a table that was made at a position of the log (this profile's own)
abbrev pub row_since : List RowChange → ℕ → List ℕ → ℕ → Row
row_since log made table key = row_after (drop made log) table key
