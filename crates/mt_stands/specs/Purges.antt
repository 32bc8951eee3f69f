-- How far logs are purged: below what the streams that read them have still to read (this profile's own; in Vitess a primary's binary logs
-- are purged file by file).
use Rattle.std.specs.Prelude.{◌≡◌, ℕ, ◌+◌, ◌-◌, ◌%◌, ◌==◌, ◌≤◌, ◌<◌, Bool, true, false, ◌&&◌, if◌then◌else◌, List, [], ◌∷◌, fold, length, map, min, Option, None, Some, suc}
use Rattle.mt_names.specs.Names.{same_text}
use Rattle.mt_plain.specs.Events.{Answer, done, refused, StreamState, forward, back, frozen}
use Rattle.mt_primary.specs.Primary.{PrimaryState, end_of}
use Rattle.mt_primary.specs.Writes.{with_purge}
use Rattle.mt_stream.specs.Streams.{StreamValue}
use Rattle.mt_workflow.specs.Workflows.{WorkflowState, slot_of}
use Rattle.mt_steps.specs.Shards as lanes
use Rattle.mt_primary.specs.Primaries.{count_of, has_primaries, primary_of, shards_of, with_primary}
use Rattle.mt_stands.specs.Base.{BaseState, Workflows}

-- whether a stream in a state is in use: it runs, or it is stopped; one that is frozen never reads again
abbrev pub is_in_use : StreamState → Bool
is_in_use frozen = false
is_in_use other = true

-- a position, or that of a stream that reads the log of some side's shard, if it is less, and that is the log of a shard of a keyspace, and
-- the stream is in use
abbrev pub least_with : (keyspace : List ℕ) → (shard : ℕ) → (side : List ℕ) → (read : ℕ) → Option StreamValue → ℕ → ℕ
least_with keyspace shard side read None least = least
least_with keyspace shard side read (Some stream) least =
    if same_text keyspace side && (read == shard) && is_in_use stream.state then min least stream.position else least

-- a position, or that of a stream of a lane of a workflow, if it is less: the one reads the source's log, which is one for all lanes, the
-- other that of the lane's shard
abbrev pub least_at : (keyspace : List ℕ) → (shard : ℕ) → WorkflowState → ℕ → (lane : ℕ) → ℕ
least_at keyspace shard w least lane =
    least_with keyspace shard w.target lane (slot_of w lane back) (least_with keyspace shard w.source 0 (slot_of w lane forward) least)

-- a position, or that of a stream of a workflow, if it is less
abbrev pub least_of : (keyspace : List ℕ) → (shard : ℕ) → ℕ → WorkflowState → ℕ
least_of keyspace shard least w = fold (least_at keyspace shard w) least (lanes.shards_of w)

-- the first entry of the log of a keyspace's shard that is needed: the least position of the streams that read it and are in use, and the
-- log's end if there is none
abbrev pub first_needed : Workflows → (keyspace : List ℕ) → (shard end : ℕ) → ℕ
first_needed workflows keyspace shard end = fold (λ least entry. least_of keyspace shard least entry.1) end workflows

-- a primary without the whole segments of its log that aren't needed
abbrev pub without_unneeded : Workflows → (keyspace : List ℕ) → (shard : ℕ) → PrimaryState → PrimaryState
without_unneeded workflows keyspace shard primary = with_purge primary (first_needed workflows keyspace shard (end_of primary))

-- those of a keyspace from a shard on so
abbrev pub purged_from : Workflows → (keyspace : List ℕ) → (shard : ℕ) → List PrimaryState → List PrimaryState
purged_from workflows keyspace shard [] = []
purged_from workflows keyspace shard (primary ∷ primaries) =
    without_unneeded workflows keyspace shard primary ∷ purged_from workflows keyspace (suc shard) primaries

-- all primaries so
abbrev pub with_purges : BaseState → BaseState
with_purges base = record base {
  primaries = map (λ entry. (entry.0, record { cuts = entry.1.cuts; each = purged_from base.workflows entry.0 0 entry.1.each })) base.primaries;
}

-- that of a shard of one keyspace so
abbrev pub with_purge_of : (keyspace : List ℕ) → (shard : ℕ) → BaseState → BaseState
with_purge_of keyspace shard base = record base {
  primaries = with_primary base.primaries keyspace shard (without_unneeded base.workflows keyspace shard (primary_of base.primaries keyspace shard));
}

-- behind an event that is taken all logs are purged
abbrev pub PurgesAll : Answer → (old new : BaseState) → Type 0
PurgesAll (refused refusal) old new = new ≡ old
PurgesAll other old new = new ≡ with_purges old

-- whether the kept entries of a log make whole segments
abbrev pub has_whole_segments : PrimaryState → Bool
has_whole_segments primary = (end_of primary - primary.log.purged) % 256 == 0

-- behind a client's write that is done the log of its shard is purged, as often as a segment gets whole
abbrev pub PurgesOne : (keyspace : List ℕ) → (shard : ℕ) → Answer → (old new : BaseState) → Type 0
PurgesOne keyspace shard done old new =
    new ≡ (if has_whole_segments (primary_of old.primaries keyspace shard) then with_purge_of keyspace shard old else old)
PurgesOne keyspace shard other old new = new ≡ old

-- ---- what is true of it

-- each log keeps less than a segment of what isn't needed
abbrev pub IsPurged : BaseState → Type 0
IsPurged base = (keyspace : List ℕ) (shard : ℕ)
    → first_needed base.workflows keyspace shard (end_of (primary_of base.primaries keyspace shard)) < (primary_of base.primaries keyspace shard).log.purged + 256

-- each log is purged below a position of which nothing before is needed, and all else stays
pub record PurgesBase (old new : BaseState) : Type 0 where
  pub topology : new.topology ≡ old.topology
  pub workflows : new.workflows ≡ old.workflows
  pub there : (keyspace : List ℕ) → has_primaries new.primaries keyspace ≡ has_primaries old.primaries keyspace
  pub count : length new.primaries ≡ length old.primaries
  pub cuts : (keyspace : List ℕ) → (shards_of new.primaries keyspace).cuts ≡ (shards_of old.primaries keyspace).cuts
  pub shards : (keyspace : List ℕ) → count_of new.primaries keyspace ≡ count_of old.primaries keyspace
  pub logs : (keyspace : List ℕ) (shard : ℕ)
      → (position : ℕ) × (position ≤ first_needed old.workflows keyspace shard (end_of (primary_of old.primaries keyspace shard)))
      × (primary_of new.primaries keyspace shard ≡ with_purge (primary_of old.primaries keyspace shard) position)
