-- Which primaries stand for the rows and logs of a state (this profile's own).
use Rattle.std.specs.Prelude.{◌≡◌, ◌≢◌, ℕ, ◌≤◌, Bool, true, false, ◌&&◌, if◌then◌else◌, List, [], ◌∷◌, ◌++◌, drop, filter, length, map, None, Some}
use Rattle.mt_names.specs.Shards.{holds}
use Rattle.mt_store.specs.Log.{LogState}
use Rattle.mt_model.specs.declared.rows.RowChange.{RowChange}
use Rattle.mt_model.specs.Rows.{Row}
use Rattle.mt_plain.specs.Answers.{range_at}
use Rattle.mt_plain.specs.Plain.{Lane, Live, LogEntry, Plain, Write, among, in_lane, lane_at, live_at, moves, number_of, owner, shard_at}
use Rattle.mt_plain.specs.Serve.{has_table}
use Rattle.mt_plain.specs.Events.{StreamName, Slot, frozen}
use Rattle.mt_plain.specs.Slots.{log_of, read_shard, read_side, slot_of}
use Rattle.mt_plain.specs.Writes.{lane_writes, row_after_writes, row_of}
use Rattle.mt_primary.specs.Primary.{PrimaryState, empty_primary, row_at}
use Rattle.mt_stream.specs.Streams.{StreamValue}

-- the primaries of shards, by the keyspaces' names and the shards' places
abbrev pub Primaries : Type 0
Primaries = (keyspace : List ℕ) → (shard : ℕ) → PrimaryState

-- every primary is empty
abbrev pub no_primaries : Primaries
no_primaries keyspace shard = empty_primary

-- an entry of a primary's log, as the state has it
abbrev pub entry_at : (keyspace : List ℕ) → (shard : ℕ) → RowChange → LogEntry
entry_at keyspace shard change = record { keyspace = keyspace; shard = shard; table = change.table; key = change.key }

-- an entry of a moved table as the acknowledged write that it is; the client table is numbered as the table at the source
abbrev pub write_of : Plain → Live → RowChange → Write
write_of p w change = record { table = number_of p w.source change.table; key = change.key; after = change.after }

-- whether an entry is about a table that a workflow moves and a key in the shard of a lane
abbrev pub is_moved : Live → Lane → RowChange → Bool
is_moved w lane change = in_lane w lane change.key && moves w change.table

-- the shard of the owner's primary that has the rows of a lane: the source has one, the target that of the lane
abbrev pub owner_shard : Live → Lane → ℕ
owner_shard w lane = if w.switched.primary then lane.shard else 0

-- the rows that stood before each of a list of writes, which come behind others
abbrev pub rows_before : (earlier : List Write) → List Write → List Row
rows_before earlier [] = []
rows_before earlier (write ∷ writes) = row_after_writes earlier write.table write.key ∷ rows_before (earlier ++ write ∷ []) writes

-- the last entries of a lane in a log, those about its workflow's tables and a key in its shard, are the acknowledged writes to them that
-- were not fed, one for one and in order, with the rows before and after; entries of other lanes may stand between them
pub record IsPending (p : Plain) (w : Live) (lane : Lane) (log : List RowChange) : Type 0 where
  pub before : List RowChange
  pub left : List RowChange
  pub entries : filter (is_moved w lane) log ≡ before ++ left
  pub writes : map (write_of p w) left ≡ drop lane.fed (lane_writes p w lane)
  pub rows : map (λ change. change.before) left ≡ drop lane.fed (rows_before [] (lane_writes p w lane))

-- a log is, from its first kept entry on, the end of a list of entries of its shard, and is as long
pub record KeepsEndOf (entries : List LogEntry) (keyspace : List ℕ) (shard : ℕ) (log : LogState) : Type 0 where
  pub kept : log.purged ≤ length entries
  pub last : map (entry_at keyspace shard) log.entries ≡ drop log.purged entries

-- no stream that reads a shard's log and isn't frozen stands below a position
abbrev pub StandAbove : Plain → List ℕ → (shard position : ℕ) → Type 0
StandAbove p keyspace shard position = (name : List ℕ) (w : Live) → live_at p name ≡ Some w → (n : ℕ) (lane : Lane) → lane_at w n ≡ Some lane
    → (stream : StreamName) (slot : Slot) → slot_of w lane stream ≡ Some slot
    → slot.state ≢ frozen → read_side w stream ≡ keyspace → read_shard lane stream ≡ shard → position ≤ slot.position

-- each primary keeps what such streams have still to read
abbrev pub KeepsUnread : Plain → Primaries → Type 0
KeepsUnread p at = (keyspace : List ℕ) (shard : ℕ) → StandAbove p keyspace shard (at keyspace shard).log.purged

-- the primaries stand for the rows and logs of a state: each log has, entry by entry, what the state's log has of its shard, but for what
-- is purged; each table that is there has its rows at the shards of their keys, and no others; for each lane of a live workflow the owner
-- of its tables has the lane's writes that were not fed in a log: the source one log for all lanes, the target each lane its own; and
-- nothing is purged that a stream has still to read
pub record RowsStand (p : Plain) (at : Primaries) : Type 0 where
  pub log : (keyspace : List ℕ) (shard : ℕ) → KeepsEndOf (log_of p keyspace shard) keyspace shard (at keyspace shard).log
  pub rows : (keyspace table : List ℕ) → has_table p keyspace table ≡ true → (key : ℕ) → row_at (at keyspace (shard_at p keyspace key)) table key ≡ row_of p keyspace table key
  pub apart : (keyspace table : List ℕ) → has_table p keyspace table ≡ true → (key shard : ℕ) → shard_at p keyspace key ≢ shard → row_at (at keyspace shard) table key ≡ None
  pub pending : (name : List ℕ) (w : Live) → live_at p name ≡ Some w → (shard : ℕ) (lane : Lane) → lane_at w shard ≡ Some lane
      → IsPending p w lane (at (owner w) (owner_shard w lane)).log.entries
  pub unread : KeepsUnread p at

-- all primaries but that of one shard are as they were
abbrev pub OthersStay : (keyspace : List ℕ) → (shard : ℕ) → (old new : Primaries) → Type 0
OthersStay keyspace shard old new = (other : List ℕ) (n : ℕ) → (keyspace ≡ other → shard ≡ n → ⊥) → new other n ≡ old other n

-- all primaries but those of one keyspace's shards are as they were
abbrev pub OtherKeyspacesStay : (keyspace : List ℕ) → (old new : Primaries) → Type 0
OtherKeyspacesStay keyspace old new = (other : List ℕ) → keyspace ≢ other → (n : ℕ) → new other n ≡ old other n

-- of a primary the log stays, and the rows of all tables but those named
pub record OtherTablesStay (tables : List (List ℕ)) (old new : PrimaryState) : Type 0 where
  pub log : new.log ≡ old.log
  pub rows : (table : List ℕ) → among tables table ≡ false → (key : ℕ) → row_at new table key ≡ row_at old table key

-- a stream of a lane: it has its workflow's tables, the key range of its shard, its copied range, and the position and the state of its slot
abbrev pub stream_of : Live → Lane → Slot → StreamValue
stream_of w lane slot = record { tables = w.tables; range = range_at w.cuts lane.shard; copied = lane.copied; position = slot.position; state = slot.state }

-- the key range of a lane has just the keys of its shard, as where a workflow's bounds ascend
abbrev pub HoldsItsKeys : Live → Lane → Type 0
HoldsItsKeys w lane = (key : ℕ) → holds (range_at w.cuts lane.shard) key ≡ in_lane w lane key

-- a stream is that of a live workflow's lane
pub record IsStreamOf (p : Plain) (name : List ℕ) (shard : ℕ) (stream : StreamName) (value : StreamValue) : Type 0 where
  pub live : Live
  pub lane : Lane
  pub slot : Slot
  pub found : live_at p name ≡ Some live
  pub laned : lane_at live shard ≡ Some lane
  pub there : slot_of live lane stream ≡ Some slot
  pub is : value ≡ stream_of live lane slot
