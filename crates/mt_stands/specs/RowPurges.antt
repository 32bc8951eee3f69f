-- Logs that are purged below the positions of the streams that read them (this profile's own).
use Rattle.std.specs.Prelude.{◌≡◌, ◌≢◌, ℕ, ◌≤◌, List, [], Some, drop, filter, map}
use Rattle.mt_store.specs.Log.{LogState, entries_past}
use Rattle.mt_plain.specs.Events.{StreamName, Slot, frozen}
use Rattle.mt_plain.specs.Plain.{Lane, Live, Plain, owner}
use Rattle.mt_plain.specs.Slots.{read_side, slot_of}
use Rattle.mt_plain.specs.Writes.{lane_writes}
use Rattle.mt_primary.specs.Primary.{PrimaryState, end_of}
use Rattle.mt_primary.specs.Writes.{with_purge}
use Rattle.mt_stands.specs.Rows.{Primaries, StandAbove, is_moved, rows_before, write_of}

-- a log is purged below a position, which is none of an entry that is still to be read
pub record IsPurgedTo (p : Plain) (keyspace : List ℕ) (shard : ℕ) (old new : PrimaryState) : Type 0 where
  pub position : ℕ
  pub within : position ≤ end_of old
  pub above : StandAbove p keyspace shard position
  pub is : new ≡ with_purge old position

-- each log is purged so far, or not at all
abbrev pub ArePurged : Plain → Primaries → Primaries → Type 0
ArePurged p old new = (keyspace : List ℕ) (shard : ℕ) → IsPurgedTo p keyspace shard (old keyspace shard) (new keyspace shard)

-- each lane of a live workflow has a stream that reads the owner, and isn't frozen
pub record IsRead (w : Live) (lane : Lane) : Type 0 where
  pub stream : StreamName
  pub slot : Slot
  pub there : slot_of w lane stream ≡ Some slot
  pub moves_on : slot.state ≢ frozen
  pub reads : read_side w stream ≡ owner w

-- the entries of a lane past a position of a log are, one for one and in order, the writes to it that were not fed, with the rows before
-- and after
pub record AreUnfed (p : Plain) (w : Live) (lane : Lane) (position : ℕ) (log : LogState) : Type 0 where
  pub writes : map (write_of p w) (filter (is_moved w lane) (entries_past log position)) ≡ drop lane.fed (lane_writes p w lane)
  pub rows : map (λ change. change.before) (filter (is_moved w lane) (entries_past log position)) ≡ drop lane.fed (rows_before [] (lane_writes p w lane))
