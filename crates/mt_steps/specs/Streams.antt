-- What the steps of a way, and their undo, do with the streams of a workflow.
use Rattle.std.specs.Prelude.{◌≡◌, ◌≤◌, ℕ, suc, ◌&&◌, ◌||◌, ◌==◌, Bool, true, false, not, List, map, if◌then◌else◌, Option, None, Some}
use Rattle.std.specs.List.{list_all}
use Rattle.std.specs.Option.{option_map_or}
use Rattle.mt_names.specs.declared.types.TypeSet.{TypeSet}
use Rattle.mt_names.specs.Shards.{KeyRange}
use Rattle.mt_plain.specs.Events.{StreamName, forward, back, running, stopped, frozen, Way}
use Rattle.mt_plain.specs.Next.{way_undone}
use Rattle.mt_plain.specs.Plain.{behind_last, catch_up, ended, switch_reads, write_journal}
use Rattle.mt_primary.specs.Primary.{PrimaryState, end_of}
use Rattle.mt_stream.specs.Streams.{StreamValue, is_level}
use Rattle.mt_workflow.specs.Workflows.{LaneState, WorkflowState, all_in_state, lane_slot, slot_of, with_lane_slot}
use Rattle.mt_steps.specs.declared.step.Step.{Step}
use Rattle.mt_steps.specs.declared.step.Step.TheVariants.{StopFeeding, CreateBack, StartBack, FreezeOld}
use Rattle.mt_steps.specs.Plans.{number}
use Rattle.mt_steps.specs.Shards.{shards_of, target_at, with_each}

-- ---- which streams

-- the streams that feed on a way: forward, or back on a way back (How traffic is switched)
abbrev pub feeding_name : Way → StreamName
feeding_name way = if way.back then back else forward

-- the other ones (How traffic is switched)
abbrev pub other_name : Way → StreamName
other_name way = if way.back then forward else back

-- ---- levels

-- the primary that the feeding stream of a shard reads: the source's, or on a way back that of the shard (How traffic is switched)
abbrev pub read_for : Way → (source : PrimaryState) → (targets : List PrimaryState) → (shard : ℕ) → PrimaryState
read_for way source targets shard = if way.back then target_at targets shard else source

-- whether the stream of a shard that feeds on a way is there, and level with the primary that it reads (How traffic is switched)
abbrev pub is_fed_at : WorkflowState → Way → (source : PrimaryState) → (targets : List PrimaryState) → (shard : ℕ) → Bool
is_fed_at w way source targets shard = option_map_or (λ s. is_level s (read_for way source targets shard)) (slot_of w shard (feeding_name way)) false

-- whether that of every shard is (How traffic is switched)
abbrev pub is_fed : WorkflowState → Way → (source : PrimaryState) → (targets : List PrimaryState) → Bool
is_fed w way source targets = list_all (is_fed_at w way source targets) (shards_of w)

-- the primaries that they read keep the entries past their positions, which are looked at (this profile's own)
abbrev pub KeepsToFeed : WorkflowState → Way → (source : PrimaryState) → (targets : List PrimaryState) → Type 0
KeepsToFeed w way source targets =
    (shard : ℕ) (s : StreamValue) → slot_of w shard (feeding_name way) ≡ Some s → (read_for way source targets shard).log.purged ≤ s.position

-- whether the side that will serve the reads is not the owner: the target on a way forward, the source on a way back
-- (How traffic is switched)
abbrev pub serves_other_side : Way → Bool
serves_other_side way = if way.back then way.before.primary else not way.before.primary

-- whether a step looks whether the feeding streams are level: the catch-up, and a switch of reads to the side that is not the owner
-- (How traffic is switched)
abbrev pub tests_level : Way → (step : ℕ) → Bool
tests_level way step = step == catch_up || step == switch_reads && serves_other_side way

-- the primaries that the feeding streams read keep the entries past their positions, if a step looks whether these are level
-- (this profile's own)
abbrev pub KeepsToTest : WorkflowState → Way → (step : ℕ) → (source : PrimaryState) → (targets : List PrimaryState) → Type 0
KeepsToTest w way step source targets = tests_level way step ≡ true → KeepsToFeed w way source targets

-- ---- steps

-- a stream the other way: it has the keys in a range, counts as copied, and waits at the end of a log (MoveTables: the reverse workflow)
abbrev pub stopped_stream : List (List ℕ) → KeyRange → (position : ℕ) → StreamValue
stopped_stream tables range position = record { tables = tables; range = range; copied = ended; position = position; state = stopped }

-- a lane with such a stream of its own range (How traffic is switched)
abbrev pub lane_made : StreamName → List (List ℕ) → (position : ℕ) → LaneState → LaneState
lane_made name tables position lane = with_lane_slot name (Some (stopped_stream tables lane.range position)) lane

-- how long the log is that the new stream of each shard will read: that of the new owner's primary, which at the target is the shard's
-- (How traffic is switched)
abbrev pub log_ends : Way → (source : PrimaryState) → (targets : List PrimaryState) → List ℕ
log_ends way source targets = map (λ target. end_of (if way.before.primary then source else target)) targets

-- the streams after a step: the feeding ones are stopped, and at last frozen, or taken away on a way back; the other ones are made, each at
-- the end of the log that it will read, and started later (How traffic is switched)
abbrev pub with_streams : WorkflowState → Way → Step → (ends : List ℕ) → WorkflowState
with_streams w way StopFeeding ends = all_in_state w (feeding_name way) stopped
with_streams w way CreateBack ends = record w { lanes = with_each (lane_made (other_name way) w.tables) ends w.lanes }
with_streams w way StartBack ends = all_in_state w (other_name way) running
with_streams w way FreezeOld ends =
    if way.back then record w { lanes = map (with_lane_slot (feeding_name way) None) w.lanes } else all_in_state w (feeding_name way) frozen
with_streams w way other ends = w

-- the streams that a step puts away, by shard (this profile's own)
abbrev pub put_away : WorkflowState → Way → Step → List (Option StreamValue) → List (Option StreamValue)
put_away w way CreateBack kept = map (lane_slot (other_name way)) w.lanes
put_away w way other kept = kept

-- ---- ways

-- whether a step is the last one of its way (How traffic is switched)
abbrev pub is_last : Way → Step → Bool
is_last way step = suc (number step) == behind_last way

-- the way after a step: closed by its last one, else one place more stands done (this profile's own)
abbrev pub way_after : Way → Step → Option Way
way_after way step = if is_last way step then None else Some (record way { done = suc way.done })

-- the switched types after a step: with the journal, or with the last step, those after the way (How traffic is switched)
abbrev pub types_after : TypeSet → Way → Step → TypeSet
types_after switched way step = if is_last way step || (number step == write_journal) then way.after else switched

-- a workflow after a step of its way (How traffic is switched)
abbrev pub workflow_stepped : WorkflowState → Way → Step → (ends : List ℕ) → WorkflowState
workflow_stepped w way step ends =
    record (with_streams w way step ends) { way = way_after way step; switched = types_after w.switched way step }

-- ---- undos

-- the streams after the undo of a step: the feeding ones run again, and each shard's other slot gets back what was put away
-- (this profile's own)
abbrev pub streams_undone : WorkflowState → Way → Step → List (Option StreamValue) → WorkflowState
streams_undone w way StopFeeding kept = all_in_state w (feeding_name way) running
streams_undone w way CreateBack kept = record w { lanes = with_each (with_lane_slot (other_name way)) kept w.lanes }
streams_undone w way other kept = w

-- a workflow after the undo of a step (this profile's own)
abbrev pub workflow_undone : WorkflowState → Way → Step → List (Option StreamValue) → WorkflowState
workflow_undone w way step kept = record (streams_undone w way step kept) { way = way_undone way }
