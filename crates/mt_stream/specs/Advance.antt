-- What an advance of a stream does, by its answer.
use Rattle.std.specs.Prelude.{◌≡◌, ◌⊎◌, ℕ, ◌+◌, ◌-◌, Bool, true, false, not, ◌&&◌, ◌||◌, ◌==◌, nat_lt, if◌then◌else◌, List, [], ◌∷◌, ◌++◌, filter, flat_map, length, map, min, take, slice_get, Option, None, Some, Result, Ok, Err}
use Rattle.std.specs.List.{list_any}
use Rattle.std.specs.Option.{option_map_or}
use Rattle.mt_model.specs.declared.rows.RowChange.{RowChange}
use Rattle.mt_model.specs.Limits.{longest_log}
use Rattle.mt_model.specs.Rows.{RowValue}
use Rattle.mt_names.specs.Shards.{KeyRange, holds}
use Rattle.mt_plain.specs.Events.{StreamState, running, stopped, frozen}
use Rattle.mt_plain.specs.Plain.{Copied}
use Rattle.mt_plain.specs.Slots.{copied_after, readable}
use Rattle.mt_plain.specs.Writes.{in_range, is_applied}
use Rattle.mt_store.specs.Log.{has_room}
use Rattle.mt_primary.specs.Primary.{PrimaryState, end_of, table_at}
use Rattle.mt_primary.specs.Writes.{RowPut, put_of}
use Rattle.mt_stream.specs.declared.fault.StreamFault.{StreamFault}
use Rattle.mt_stream.specs.declared.fault.StreamFault.TheVariants.{Memory, Stale, Stopped, Frozen, LogFull}
use Rattle.mt_stream.specs.declared.stream.Advanced.{Advanced}
use Rattle.mt_stream.specs.Puts.{PutsMade}
use Rattle.mt_stream.specs.Streams.{StreamValue, past}

-- ---- what there is to do

-- whether a change is written at the sink: its key stands in the range, its row is of one of the tables, and lies in the copied range
abbrev pub is_written : KeyRange → (tables : List (List ℕ)) → Copied → RowChange → Bool
is_written keys tables copied change = holds keys change.key && is_applied tables copied change.table change.key

-- the same, of a stream
abbrev pub applies : StreamValue → RowChange → Bool
applies s = is_written s.range s.tables s.copied

-- how many entries a primary's log can take
abbrev pub room_in : PrimaryState → ℕ
room_in p = longest_log - end_of p

-- the rows of a table with their keys, in the order of the keys; a table that isn't there has none
abbrev pub rows_of : PrimaryState → List ℕ → List (ℕ × RowValue)
rows_of p table = option_map_or (λ t. t.rows) (table_at p table) []

-- a row copied: it is put as it stands
abbrev pub row_copied : List ℕ → ℕ × RowValue → RowPut
row_copied table row = record { table = table; key = row.0; after = Some row.1 }

-- the rows of one table that are left to copy: those in the key range and outside of the copied range
abbrev pub left_in : PrimaryState → KeyRange → (tables : List (List ℕ)) → Copied → List ℕ → List RowPut
left_in source keys tables copied table = map (row_copied table) (filter (λ row. holds keys row.0 && not (in_range tables copied table row.0)) (rows_of source table))

-- the rows of all tables that are left to copy, in the order of the tables named and then of keys
abbrev pub rows_left : PrimaryState → KeyRange → (tables : List (List ℕ)) → Copied → List RowPut
rows_left source keys tables copied = flat_map (left_in source keys tables copied) tables

-- the rows that an advance may copy: none as long as an entry stands past the position
abbrev pub to_copy : StreamValue → PrimaryState → List RowChange → List RowPut
to_copy s source [] = rows_left source s.range s.tables s.copied
to_copy s source (e ∷ es) = []

-- where rows stand: their tables and keys
abbrev pub places : List RowPut → List (List ℕ × ℕ)
places puts = map (λ put. (put.table, put.key)) puts

-- ---- how much of it is done

-- how many entries are read: up to the limit, as far as the sink's log has room
abbrev pub most_events : StreamValue → (source sink : PrimaryState) → (at_most : ℕ) → ℕ
most_events s source sink at_most = readable (applies s) (room_in sink) (take at_most (past s source))

-- how many rows are copied: up to the limit, as far as the sink's log has room
abbrev pub most_rows : StreamValue → (source sink : PrimaryState) → (at_most : ℕ) → ℕ
most_rows s source sink at_most = min (room_in sink) (min at_most (length (to_copy s source (past s source))))

-- whether there is anything to write
abbrev pub writes_any : StreamValue → (source : PrimaryState) → (at_most : ℕ) → Bool
writes_any s source at_most =
    list_any (applies s) (take at_most (past s source)) || nat_lt 0 (min at_most (length (to_copy s source (past s source))))

-- whether it may have been cut to these counts, because memory was refused: not at its first change, and where the next thing to do
-- is a change
abbrev pub may_be_cut : StreamValue → (source sink : PrimaryState) → (at_most events rows : ℕ) → Bool
may_be_cut s source sink at_most events rows =
    (rows == 0) && nat_lt events (most_events s source sink at_most)
    && list_any (applies s) (take events (past s source)) && option_map_or (applies s) (slice_get (past s source) events) false
    || (events == 0) && nat_lt 0 rows && nat_lt rows (most_rows s source sink at_most)

-- the counts of an advance: as much as can be done, or cut
abbrev pub HasCounts : StreamValue → (source sink : PrimaryState) → (at_most events rows : ℕ) → Type 0
HasCounts s source sink at_most events rows =
    ((events ≡ most_events s source sink at_most) × (rows ≡ most_rows s source sink at_most)) ⊎ (may_be_cut s source sink at_most events rows ≡ true)

-- ---- what it does

-- the stream behind it: the position by the entries read, the range by the rows copied
abbrev pub stream_after : StreamValue → PrimaryState → (at_most events rows : ℕ) → StreamValue
stream_after s source at_most events rows = record s {
  copied = copied_after s.copied (past s source) (places (to_copy s source (past s source))) rows at_most;
  position = s.position + events;
}

-- what it puts at the sink: the entries applied, or the rows copied
abbrev pub puts_of : StreamValue → PrimaryState → (events rows : ℕ) → List RowPut
puts_of s source events rows =
    map put_of (filter (applies s) (take events (past s source))) ++ take rows (to_copy s source (past s source))

-- entries are read and rows are copied, to these counts
pub record IsAdvanced (old : StreamValue) (source sink : PrimaryState) (at_most : ℕ) (answer : Advanced) (new : StreamValue) (new_sink : PrimaryState) : Type 0 where
  pub counts : HasCounts old source sink at_most answer.events answer.rows
  pub stream : new ≡ stream_after old source at_most answer.events answer.rows
  pub puts : PutsMade sink (puts_of old source answer.events answer.rows) new_sink

-- ---- what refuses it

-- a stream that doesn't run
abbrev pub refused_by : StreamState → Option StreamFault → Option StreamFault
refused_by running next = next
refused_by stopped next = Some Stopped
refused_by frozen next = Some Frozen

-- what refuses an advance before anything is read
abbrev pub refusal_before : StreamValue → (at : ℕ) → Option StreamFault
refusal_before s at = refused_by s.state (if at == s.position then None else Some (Stale s.position))

-- the first test that refuses an advance: the state, the position, the room for a first change
abbrev pub refusal_of : StreamValue → (source sink : PrimaryState) → (at at_most : ℕ) → Option StreamFault
refusal_of s source sink at at_most =
    refused_by s.state
    (if at == s.position then (if writes_any s source at_most && not (has_room sink.log) then Some LogFull else None)
    else Some (Stale s.position))

-- Memory is told where no test refuses it and there is something to write; what is refused leaves stream and sink as they were
abbrev pub Advances : StreamValue → (source sink : PrimaryState) → (at at_most : ℕ) → Result Advanced StreamFault → StreamValue → PrimaryState → Type 0
Advances old source sink at at_most (Ok answer) new new_sink = (refusal_of old source sink at at_most ≡ None) × IsAdvanced old source sink at_most answer new new_sink
Advances old source sink at at_most (Err Memory) new new_sink =
    (refusal_of old source sink at at_most ≡ None) × (writes_any old source at_most ≡ true) × (new ≡ old) × (new_sink ≡ sink)
Advances old source sink at at_most (Err fault) new new_sink = (refusal_of old source sink at at_most ≡ Some fault) × (new ≡ old) × (new_sink ≡ sink)
