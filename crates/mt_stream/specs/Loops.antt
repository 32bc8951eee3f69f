-- What the two loops of an advance do, and their steps: entries that are read, and rows that are copied.
use Rattle.std.specs.Prelude.{◌≡◌, ◌⊎◌, ℕ, ◌<◌, ◌≤◌, ◌-◌, ◌==◌, Bool, true, false, not, ◌&&◌, nat_lt, if◌then◌else◌, ⊤, List, [], ◌∷◌, filter, length, map, min, take, slice_get, slice_index_or, Option, None, Some, Result, Ok, Err}
use Rattle.std.specs.List.{find, list_any}
use Rattle.std.specs.Option.{option_map_or}
use Rattle.mt_model.specs.declared.rows.RowChange.{RowChange}
use Rattle.mt_model.specs.Rows.{RowValue}
use Rattle.mt_names.specs.Shards.{KeyRange, holds}
use Rattle.mt_plain.specs.Plain.{Copied, up_to}
use Rattle.mt_plain.specs.Slots.{copied_after, readable}
use Rattle.mt_primary.specs.Primary.{PrimaryState}
use Rattle.mt_primary.specs.Reads.{is_above}
use Rattle.mt_primary.specs.Writes.{IsPut, RowPut, put_of}
use Rattle.mt_store.specs.Log.{has_room}
use Rattle.mt_stream.specs.declared.copying.LeftRow.{LeftRow}
use Rattle.mt_stream.specs.declared.fault.StreamFault.{StreamFault}
use Rattle.mt_stream.specs.declared.fault.StreamFault.TheVariants.{Memory, LogFull}
use Rattle.mt_stream.specs.declared.stream.CopiedRange.{CopiedRange}
use Rattle.mt_stream.specs.declared.stream.CopiedRange.TheVariants.{NotBegun, UpTo, Ended}
use Rattle.mt_stream.specs.Advance.{is_written, places, room_in, rows_left, rows_of}
use Rattle.mt_stream.specs.Puts.{PutsMade}

-- ---- one change

-- why a put is refused: where the log has room it is memory
abbrev pub put_fault : PrimaryState → StreamFault
put_fault sink = if has_room sink.log then Memory else LogFull

-- a row is put, or the sink stays
abbrev pub PutsRow : PrimaryState → RowPut → Result ⊤ StreamFault → PrimaryState → Type 0
PutsRow old put (Ok done) new = (has_room old.log ≡ true) × IsPut old put new
PutsRow old put (Err fault) new = (fault ≡ put_fault old) × (new ≡ old)

-- a row is put if a test holds; else the sink stays
abbrev pub PutsIf : Bool → PrimaryState → RowPut → PrimaryState → Type 0
PutsIf true old put new = (has_room old.log ≡ true) × IsPut old put new
PutsIf false old put new = new ≡ old

-- an entry is written if it is to be, and the answer says whether it was
abbrev pub FollowsEntry : KeyRange → List (List ℕ) → Copied → RowChange → PrimaryState → Result Bool StreamFault → PrimaryState → Type 0
FollowsEntry keys tables copied change old (Ok written) new = (written ≡ is_written keys tables copied change) × PutsIf written old (put_of change) new
FollowsEntry keys tables copied change old (Err fault) new = (is_written keys tables copied change ≡ true) × (fault ≡ put_fault old) × (new ≡ old)

-- ---- entries

-- whether reading may have been cut here: behind a change, and before one
abbrev pub is_cut_before : KeyRange → List (List ℕ) → Copied → List RowChange → PrimaryState → (at_most events : ℕ) → Bool
is_cut_before keys tables copied entries sink at_most events =
    nat_lt events (readable (is_written keys tables copied) (room_in sink) (take at_most entries))
    && list_any (is_written keys tables copied) (take events entries) && option_map_or (is_written keys tables copied) (slice_get entries events) false

-- so many entries are read, and those that are to be are written
pub record AreRead (keys : KeyRange) (tables : List (List ℕ)) (copied : Copied) (entries : List RowChange) (sink : PrimaryState) (at_most events : ℕ) (new_sink : PrimaryState) : Type 0 where
  pub counts : (events ≡ readable (is_written keys tables copied) (room_in sink) (take at_most entries)) ⊎ (is_cut_before keys tables copied entries sink at_most events ≡ true)
  pub within : events ≤ length entries
  pub room : (list_any (is_written keys tables copied) (take at_most entries) && not (has_room sink.log)) ≡ false
  pub puts : PutsMade sink (map put_of (filter (is_written keys tables copied) (take events entries))) new_sink

-- entries are read, or the first change is refused
abbrev pub ReadsEntries : KeyRange → List (List ℕ) → Copied → List RowChange → PrimaryState → ℕ → Result ℕ StreamFault → PrimaryState → Type 0
ReadsEntries keys tables copied entries sink at_most (Ok events) new_sink = AreRead keys tables copied entries sink at_most events new_sink
ReadsEntries keys tables copied entries sink at_most (Err fault) new_sink =
    (fault ≡ put_fault sink) × (list_any (is_written keys tables copied) (take at_most entries) ≡ true) × (new_sink ≡ sink)

-- ---- rows

-- where the rows left begin: the place of a table, and the key that was copied last in it
abbrev pub first_behind : List (List ℕ) → CopiedRange → ℕ × Option ℕ
first_behind tables NotBegun = (0, None)
first_behind tables (UpTo place key) = (place, Some key)
first_behind tables Ended = (length tables, None)

-- the table of a row that is left
abbrev pub table_left : List (List ℕ) → LeftRow → List ℕ
table_left tables row = slice_index_or tables row.place []

-- behind which key the keys from a first one on come that come behind another one
abbrev pub behind_start : (first : ℕ) → Option ℕ → Option ℕ
behind_start first None = if first == 0 then None else Some (first - 1)
behind_start first (Some last) = if nat_lt last first then Some (first - 1) else Some last

-- the first row of a table in the key range that comes behind a key
abbrev pub next_in : PrimaryState → KeyRange → List ℕ → Option ℕ → Option (ℕ × RowValue)
next_in p keys table behind = find (λ row. holds keys row.0 && is_above behind row.0) (rows_of p table)

-- what is put of a row that is left
abbrev pub put_left : List (List ℕ) → LeftRow → RowPut
put_left tables row = record { table = table_left tables row; key = row.key; after = Some row.value.now }

-- the first of the rows left, with the place of its table, behind which the other rows left come
abbrev pub IsFirstLeft : PrimaryState → KeyRange → List (List ℕ) → Copied → Option LeftRow → Type 0
IsFirstLeft source keys tables copied None = rows_left source keys tables copied ≡ []
IsFirstLeft source keys tables copied (Some row) =
    (row.place < length tables) × (rows_left source keys tables copied ≡ put_left tables row ∷ rows_left source keys tables (up_to (table_left tables row) row.key))

-- so many rows are copied, and the range reaches as far
pub record AreCopied (keys : KeyRange) (tables : List (List ℕ)) (copied : Copied) (source sink : PrimaryState) (at_most rows : ℕ) (new_copied : Copied) (new_sink : PrimaryState) : Type 0 where
  pub counts : (rows ≡ min (room_in sink) (min at_most (length (rows_left source keys tables copied))))
      ⊎ ((nat_lt 0 rows && nat_lt rows (min (room_in sink) (min at_most (length (rows_left source keys tables copied))))) ≡ true)
  pub room : (nat_lt 0 (min at_most (length (rows_left source keys tables copied))) && not (has_room sink.log)) ≡ false
  pub range : new_copied ≡ copied_after {E = RowChange} copied [] (places (rows_left source keys tables copied)) rows at_most
  pub puts : PutsMade sink (take rows (rows_left source keys tables copied)) new_sink

-- rows are copied, or the first one is refused
abbrev pub CopiesRows : KeyRange → List (List ℕ) → Copied → (source sink : PrimaryState) → ℕ → Result ℕ StreamFault → Copied → PrimaryState → Type 0
CopiesRows keys tables copied source sink at_most (Ok rows) new_copied new_sink = AreCopied keys tables copied source sink at_most rows new_copied new_sink
CopiesRows keys tables copied source sink at_most (Err fault) new_copied new_sink =
    (fault ≡ put_fault sink) × (nat_lt 0 (min at_most (length (rows_left source keys tables copied))) ≡ true) × (new_copied ≡ copied) × (new_sink ≡ sink)
