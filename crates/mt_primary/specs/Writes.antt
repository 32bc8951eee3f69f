-- What the calls that change a primary do, by their answers.
use Rattle.std.specs.Prelude.{◌≡◌, ℕ, ◌&&◌, ◌==◌, true, false, List, [], ◌∷◌, ◌++◌, if◌then◌else◌, Result, Ok, Err, ⊤}
use Rattle.std.specs.Map.{keys_of, remove_entry}
use Rattle.mt_names.specs.Names.{same_text}
use Rattle.mt_names.specs.Results.{◌>>=◌}
use Rattle.mt_model.specs.declared.faults.PrimaryFault.{PrimaryFault}
use Rattle.mt_model.specs.declared.faults.PrimaryFault.TheVariants.{Memory, NoTable, Denied, LogFull}
use Rattle.mt_model.specs.declared.rows.Op.{Op}
use Rattle.mt_model.specs.declared.rows.RowChange.{RowChange}
use Rattle.mt_model.specs.Rows.{Row, op_key, op_row}
use Rattle.mt_store.specs.Log.{LogState, has_room, with_entry, without_below}
use Rattle.mt_primary.specs.Primary.{PrimaryState, end_of, has_table, is_denied_at, made_at, new_table, row_at}

-- ---- a table made, and one dropped

-- the table stands behind the others, without a row and not denied
abbrev pub with_new_table : PrimaryState → List ℕ → PrimaryState
with_new_table p name = record p { tables = p.tables ++ (name, new_table (end_of p)) ∷ [] }

abbrev pub Creates : PrimaryState → List ℕ → Result ⊤ PrimaryFault → PrimaryState → Type 0
Creates old name (Ok done) new = new ≡ with_new_table old name
Creates old name (Err fault) new = (fault ≡ Memory) × (new ≡ old)

-- the table is gone, with its rows and its denial, and the others stay in their order; one that isn't there leaves all as it is
abbrev pub without_table : PrimaryState → List ℕ → PrimaryState
without_table p name = record p { tables = remove_entry (same_text name) p.tables }

-- ---- a row put

-- a row to put, whatever stands there: its table, its key, and the row, or none to take it away
pub record RowPut : Type 0 where
  pub table : List ℕ
  pub key : ℕ
  pub after : Row

-- what a change puts; the row before it counts for nothing
abbrev pub put_of : RowChange → RowPut
put_of change = record { table = change.table; key = change.key; after = change.after }

-- the entry of a put in the log, with the row that stood here before it
abbrev pub change_by : PrimaryState → RowPut → RowChange
change_by p put = record { table = put.table; key = put.key; before = row_at p put.table put.key; after = put.after }

-- the row of a table and a key after one put more
abbrev pub row_after_put : List ℕ → ℕ → Row → RowPut → Row
row_after_put table key row put = if same_text table put.table && (key == put.key) then put.after else row

-- one row is set or taken away, the log has one entry more, and all else is as it was
pub record IsPut (old : PrimaryState) (put : RowPut) (new : PrimaryState) : Type 0 where
  pub row : row_at new put.table put.key ≡ put.after
  pub others : (other : List ℕ) (key : ℕ) → ¬ ((other ≡ put.table) × (key ≡ put.key)) → row_at new other key ≡ row_at old other key
  -- the tables stay in their order, with the positions at which they were made and their denials
  pub tables : keys_of new.tables ≡ keys_of old.tables
  pub made : (other : List ℕ) → made_at new other ≡ made_at old other
  pub denied : (other : List ℕ) → is_denied_at new other ≡ is_denied_at old other
  pub log : new.log ≡ with_entry old.log (change_by old put)

-- a put is refused where the log is full, and only there; Memory is told where it has room
abbrev pub Puts : PrimaryState → RowPut → Result ⊤ PrimaryFault → PrimaryState → Type 0
Puts old put (Ok done) new = (has_room old.log ≡ true) × IsPut old put new
Puts old put (Err Memory) new = (has_room old.log ≡ true) × (new ≡ old)
Puts old put (Err fault) new = (fault ≡ LogFull) × (has_room old.log ≡ false) × (new ≡ old)

-- ---- a write

-- a row that the log has room for
abbrev pub unless_full : LogState → Row → Result Row PrimaryFault
unless_full log row = if has_room log then Ok row else Err LogFull

-- the row that a write leaves, or the first test that refuses it: the table, the own list, the row, the log's room
abbrev pub written_row : PrimaryState → List ℕ → Op → Result Row PrimaryFault
written_row p name op =
    if has_table p name then (if is_denied_at p name then Err Denied else op_row op (row_at p name (op_key op)) >>= unless_full p.log)
    else Err NoTable

-- what the operation makes of the row is put, and the answer is the position behind its entry
pub record IsWritten (old : PrimaryState) (name : List ℕ) (op : Op) (answer : ℕ) (new : PrimaryState) : Type 0 where
  pub row : written_row old name op ≡ Ok (row_at new name (op_key op))
  pub put : IsPut old (record { table = name; key = op_key op; after = row_at new name (op_key op) }) new
  pub position : answer ≡ end_of new

-- Memory is told of a write that no test refuses
abbrev pub Writes : PrimaryState → List ℕ → Op → Result ℕ PrimaryFault → PrimaryState → Type 0
Writes old name op (Ok position) new = IsWritten old name op position new
Writes old name op (Err Memory) new = ((row : Row) × (written_row old name op ≡ Ok row)) × (new ≡ old)
Writes old name op (Err fault) new = (written_row old name op ≡ Err fault) × (new ≡ old)

-- ---- a log purged

-- the whole segments of the log that lie below a position are gone
abbrev pub with_purge : PrimaryState → ℕ → PrimaryState
with_purge p position = record p { log = without_below p.log position }
