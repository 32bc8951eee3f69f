-- What becomes of two primaries as a stream is advanced between them (this profile's own).
use Rattle.std.specs.Prelude.{◌≡◌, ◌≢◌, ◌≤◌, ℕ, Bool, true, false, List, length, Option, None, Some, Result, Ok, Err}
use Rattle.mt_event.specs.declared.reason.Reason.{Reason}
use Rattle.mt_event.specs.Reasons.{reason_from}
use Rattle.mt_plain.specs.Events.{StreamName, running, Answer, advanced, refused, no_shard, stream_stopped}
use Rattle.mt_plain.specs.Plain.{among}
use Rattle.mt_plain.specs.Slots.{read_side, written_side}
use Rattle.mt_primary.specs.Primary.{PrimaryState, end_of, has_table}
use Rattle.mt_stream.specs.declared.fault.StreamFault.{StreamFault}
use Rattle.mt_stream.specs.declared.stream.Advanced.{Advanced}
use Rattle.mt_stream.specs.Advance.{Advances}
use Rattle.mt_stream.specs.Streams.{StreamValue}
use Rattle.mt_workflow.specs.Advance.{AdvancesSlot}
use Rattle.mt_workflow.specs.Workflows.{WorkflowState, live_of, slot_of, with_slot}
use Rattle.mt_stands.specs.Answers.{answer_by_stream}
use Rattle.mt_primary.specs.Primaries.{Primaries, count_of, primary_of, with_primary}
use Rattle.mt_stands.specs.Base.{Workflows, workflow_at}
use Rattle.mt_stands.specs.Workflows.{shard_read, shard_written}

-- the answer of an advance that is done, with its counts, or refused
abbrev pub advanced_from : Result Advanced Reason → Answer
advanced_from (Ok counts) = advanced counts.events counts.rows
advanced_from (Err r) = refused (reason_from r)

-- that of a stream, if there is one
abbrev pub answer_by_slot : Option (Result Advanced StreamFault) → Answer
answer_by_slot None = refused stream_stopped
answer_by_slot (Some result) = answer_by_stream result

-- ---- between the primaries of both sides, among all

-- the stream of a shard advances, if there is one, and the primary that it writes becomes another
abbrev pub AdvancesBetween : Primaries → WorkflowState → StreamName → (shard at at_most : ℕ) → Option (Result Advanced StreamFault) → WorkflowState → Primaries → Type 0
AdvancesBetween old w name shard at at_most answer after new =
    (sink : PrimaryState)
    × AdvancesSlot (slot_of w shard name) (primary_of old (read_side (live_of w) name) (shard_read name shard))
    (primary_of old (written_side (live_of w) name) (shard_written name shard)) at at_most answer (slot_of after shard name) sink
    × (after ≡ with_slot w shard name (slot_of after shard name)) × (new ≡ with_primary old (written_side (live_of w) name) (shard_written name shard) sink)

-- a stream of a workflow stands between two primaries: its two sides have primaries, the source one and the target one for each lane, its
-- position lies in the log that it reads, which keeps the entries from there on if the stream runs, and its tables are there where it writes
pub record IsBetween (primaries : Primaries) (w : WorkflowState) (name : StreamName) (shard : ℕ) (stream : StreamValue) : Type 0 where
  pub source : count_of primaries w.source ≡ 1
  pub target : count_of primaries w.target ≡ length w.lanes
  pub apart : w.source ≢ w.target
  pub within : stream.position ≤ end_of (primary_of primaries (read_side (live_of w) name) (shard_read name shard))
  pub kept : stream.state ≡ running → (primary_of primaries (read_side (live_of w) name) (shard_read name shard)).log.purged ≤ stream.position
  pub there : (table : List ℕ) → among stream.tables table ≡ true → has_table (primary_of primaries (written_side (live_of w) name) (shard_written name shard)) table ≡ true

-- so does that of a shard of a live workflow's target, if there is one; and the workflow stands under its own name
pub record CanAdvance (primaries : Primaries) (workflows : Workflows) (workflow : List ℕ) (name : StreamName) (shard : ℕ) : Type 0 where
  pub named : (w : WorkflowState) → workflow_at workflows workflow ≡ Some w → w.name ≡ workflow
  pub between : (w : WorkflowState) → workflow_at workflows workflow ≡ Some w → (stream : StreamValue) → slot_of w shard name ≡ Some stream → IsBetween primaries w name shard stream

-- the workflow and the primaries behind an advance of a stream, if there is one
abbrev pub AdvancesOne : Option StreamValue → Primaries → WorkflowState → StreamName → (shard at at_most : ℕ) → Answer → WorkflowState → Primaries → Type 0
AdvancesOne None old w name shard at at_most answer after new = (answer ≡ refused stream_stopped) × (after ≡ w) × (new ≡ old)
AdvancesOne (Some stream) old w name shard at at_most answer after new =
    (result : Result Advanced StreamFault) × (advanced : StreamValue) × (sink : PrimaryState)
    × Advances stream (primary_of old (read_side (live_of w) name) (shard_read name shard))
    (primary_of old (written_side (live_of w) name) (shard_written name shard)) at at_most result advanced sink
    × (answer ≡ answer_by_stream result) × (after ≡ with_slot w shard name (Some advanced))
    × (new ≡ with_primary old (written_side (live_of w) name) (shard_written name shard) sink)

-- the same, if the target has the shard
abbrev pub AdvancesLane : (has_shard : Bool) → Primaries → WorkflowState → StreamName → (shard at at_most : ℕ) → Answer → WorkflowState → Primaries → Type 0
AdvancesLane true old w name shard at at_most answer after new = AdvancesOne (slot_of w shard name) old w name shard at at_most answer after new
AdvancesLane false old w name shard at at_most answer after new = (answer ≡ refused no_shard) × (after ≡ w) × (new ≡ old)
