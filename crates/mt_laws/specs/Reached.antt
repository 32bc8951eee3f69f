-- What holds in each state that a run reaches: of its live workflows, and of their ways.
use Rattle.std.specs.Prelude.{◌≡◌, ◌≢◌, ℕ, ◌<◌, true, false, List, None, if◌then◌else◌}
use Rattle.std.specs.List.{IsDistinct}
use Rattle.mt_names.specs.Shards.{shard_count}
use Rattle.mt_names.specs.Names.{same_text}
use Rattle.mt_model.specs.Topology.{TopologyState, is_present}
use Rattle.mt_plain.specs.Events.{StreamName, Way}
use Rattle.mt_plain.specs.Plain.{Lane, Live, behind_last, changes_primary, moves, next_step, owner, stands_done, write_journal}
use Rattle.mt_plain.specs.Refuse.{new_owner, old_owner}
use Rattle.mt_plain.specs.Slots.{is_fresh, read_side, running_at, slot_of}
use Rattle.mt_laws.specs.Parts.{HasSides}

-- where a live workflow stands on the topology as if none were live: both its sides are keyspaces, and not the same one; it names no
-- table twice; and the source has each of its tables, the target none of them
pub record IsInPlace (u : TopologyState) (w : Live) : Type 0 where
  pub sides : HasSides u w
  pub tables : IsDistinct same_text w.tables
  pub at_source : (table : List ℕ) → moves w table ≡ true → is_present u.keyspaces w.source table ≡ true
  pub at_target : (table : List ℕ) → moves w table ≡ true → is_present u.keyspaces w.target table ≡ false

-- an open way of a live workflow: its plan has the shards of the target; it has a step left; the switched types are those from before it until its
-- journal stands done, and those after it from then on; only a way that changes primary has a journal
pub record IsOnCourse (w : Live) (way : Way) : Type 0 where
  pub shards : way.shards ≡ shard_count w.cuts
  pub within : next_step way < behind_last way
  pub before : stands_done way write_journal ≡ false → w.switched ≡ way.before
  pub after : stands_done way write_journal ≡ true → w.switched ≡ way.after
  pub journals : stands_done way write_journal ≡ true → changes_primary way ≡ true

-- an open way that changes primary: primary was switched before it just where it leads back; so forward the source is the old owner, and
-- back the target; and the old owner owns the tables until the journal stands done, the new one from then on
pub record HandsOver (w : Live) (way : Way) : Type 0 where
  pub before : way.before.primary ≡ way.back
  pub old : old_owner w ≡ (if way.back then w.target else w.source)
  pub new : new_owner w ≡ (if way.back then w.source else w.target)
  pub owned : stands_done way write_journal ≡ false → owner w ≡ old_owner w
  pub handed : stands_done way write_journal ≡ true → owner w ≡ new_owner w

-- a stream that is not in use: it is absent, stopped or frozen; it would read the side that isn't the owner; and it is none that the open
-- way has made
pub record IsIdle (w : Live) (lane : Lane) (stream : StreamName) : Type 0 where
  pub stands : running_at (slot_of w lane stream) ≡ None
  pub reads : read_side w stream ≢ owner w
  pub old : is_fresh w.way stream ≡ false
