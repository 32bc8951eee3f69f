-- What the calls on a way ask for, and what they do to what they work on (this profile's own).
use Rattle.std.specs.Prelude.{◌≡◌, ◌≢◌, ⊤, ℕ, ◌<◌, suc, ◌==◌, true, false, All, List, [], ◌∷◌, ◌++◌, length, Option, None, Some, is_some, Result}
use Rattle.std.specs.Map.{remove_entry}
use Rattle.mt_names.specs.Names.{same_text}
use Rattle.mt_model.specs.declared.entries.Scope.{Scope}
use Rattle.mt_model.specs.Topology.{TopologyState, has_place}
use Rattle.mt_journal.specs.declared.entry.JournalEntry.{JournalEntry}
use Rattle.mt_journal.specs.Journal.{entry_of}
use Rattle.mt_plain.specs.Events.{Answer, Way, done, memory, refused}
use Rattle.mt_plain.specs.Plain.{next_step, stands_done, write_journal}
use Rattle.mt_steps.specs.declared.fault.StepFault.{StepFault}
use Rattle.mt_steps.specs.declared.log.OpenWay.{OpenWay}
use Rattle.mt_steps.specs.Plans.{step_at}
use Rattle.mt_steps.specs.Steps.{SidesState, Steps}
use Rattle.mt_steps.specs.Streams.{KeepsToTest}
use Rattle.mt_steps.specs.Undo.{IsLogOf, UndoState, new_log}
use Rattle.mt_watch.specs.Asking.{Answering}
use Rattle.mt_workflow.specs.Workflows.{WorkflowState, keys_of_part, live_of}
use Rattle.mt_stands.specs.Keys.{end_keys}
use Rattle.mt_primary.specs.Primaries.{Primaries, count_of, has_primaries, primary_of, shards_of}
use Rattle.mt_stands.specs.Base.{Workflows, workflow_at}
use Rattle.mt_stands.specs.Switching.{Undoes, sides_of, with_primaries}
use Rattle.mt_stands.specs.Ways.{OpenWays, CoreState, open_at}

-- a workflow with an open way stands in its place: under its own name, with one primary at its source and one for each lane at its target,
-- which are two keyspaces, a place in the topology for each key of its part, a next step, and what is kept of the way kept for it; its
-- number is new to the journal until the way has written its entry, and the primaries that the feeding streams read keep what these have
-- still to read, if the next step looks at that
pub record IsUnderWay (t : TopologyState) (primaries : Primaries) (journal : List JournalEntry) (name : List ℕ) (w : WorkflowState) (way : Way) (o : OpenWay) : Type 0 where
  pub named : w.name ≡ name
  pub source : has_primaries primaries w.source ≡ true
  pub target : has_primaries primaries w.target ≡ true
  pub single : count_of primaries w.source ≡ 1
  pub targets : count_of primaries w.target ≡ length w.lanes
  pub apart : w.source ≢ w.target
  pub places : All (λ key. has_place t key ≡ true) (keys_of_part w)
  pub within : next_step way < 12
  pub kept : IsLogOf w o.log
  pub unused : stands_done way write_journal ≡ false → entry_of journal o.number ≡ None
  pub shards : way.shards ≡ length w.lanes
  pub unread : KeepsToTest w way (next_step way) (primary_of primaries w.source 0) (shards_of primaries w.target).each

-- so does each, and something is kept of each open way
pub record CanStep (t : TopologyState) (primaries : Primaries) (workflows : Workflows) (journal : List JournalEntry) (opened : OpenWays) (name : List ℕ) : Type 0 where
  pub there : (w : WorkflowState) (way : Way) → workflow_at workflows name ≡ Some w → w.way ≡ Some way → is_some (open_at opened name) ≡ true
  pub each : (w : WorkflowState) (way : Way) (o : OpenWay) → workflow_at workflows name ≡ Some w → w.way ≡ Some way → open_at opened name ≡ Some o
      → IsUnderWay t primaries journal name w way o

-- what is worked on, with the primaries in their places: it is that of each state that has these parts
abbrev pub sides_between : TopologyState → Primaries → WorkflowState → List JournalEntry → SidesState
sides_between t primaries w journal =
    let s : CoreState = record { base = record { topology = t; primaries = primaries; workflows = [] }; ways = record { opened = []; journal = journal; begun = 0 } } in
    sides_of s w

-- a workflow without a way can begin one: nothing is kept for it
abbrev pub CanBegin : Workflows → OpenWays → (name : List ℕ) → Type 0
CanBegin workflows opened name = (w : WorkflowState) → workflow_at workflows name ≡ Some w → (w.name ≡ name) × (w.way ≡ None → open_at opened name ≡ None)

-- a workflow can be completed: it stands under its own name, each key that Complete writes has a place, its source has primaries, and
-- its sides are two
pub record CanComplete (t : TopologyState) (primaries : Primaries) (workflows : Workflows) (name : List ℕ) : Type 0 where
  pub named : (w : WorkflowState) → workflow_at workflows name ≡ Some w → w.name ≡ name
  pub source : (w : WorkflowState) → workflow_at workflows name ≡ Some w → has_primaries primaries w.source ≡ true
  pub apart : (w : WorkflowState) → workflow_at workflows name ≡ Some w → w.source ≢ w.target
  pub places : (w : WorkflowState) → workflow_at workflows name ≡ Some w → All (λ key. has_place t key ≡ true) (end_keys (live_of w))

-- ---- a begin

-- the way is open on the workflow, and has the next number; or no memory was left, and nothing changed
abbrev pub OpensWay : WorkflowState → Way → OpenWays → (begun : ℕ) → Answer → WorkflowState → OpenWays → (later : ℕ) → Type 0
OpensWay w way opened begun done after new later =
    (after ≡ record w { way = Some way }) × (new ≡ opened ++ (w.name, record { number = suc begun; log = new_log w }) ∷ []) × (later ≡ suc begun)
OpensWay w way opened begun (refused memory) after new later = (after ≡ w) × (new ≡ opened) × (later ≡ begun)
OpensWay w way opened begun other after new later = ⊥

-- ---- a step, and an undo

-- what is kept of the ways once a way of a workflow is open or closed
abbrev pub left_open : OpenWays → (name : List ℕ) → Option Way → OpenWays
left_open opened name None = remove_entry (same_text name) opened
left_open opened name (Some way) = opened

-- the step that is next is done or refused between the primaries of the workflow's sides
abbrev pub StepsBetween : List Scope → Answering → TopologyState → Primaries → WorkflowState → Way → List JournalEntry → OpenWay → Result ⊤ StepFault → TopologyState → Primaries → WorkflowState → List JournalEntry → OpenWay → Type 0
StepsBetween scopes may_answer t primaries w way journal o result new_t new_primaries new_w new_journal new =
    (sides : SidesState) × (log : UndoState)
    × Steps scopes may_answer o.number way (step_at (next_step way)) (sides_between t primaries w journal) o.log result sides log
    × (new_t ≡ sides.topology) × (new_primaries ≡ with_primaries primaries w sides.source sides.targets) × (new_w ≡ sides.workflow) × (new_journal ≡ sides.journal)
    × (new ≡ record { number = o.number; log = log })

-- the step that was done last is undone; where none is, the way is closed
abbrev pub UndoesBetween : TopologyState → Primaries → WorkflowState → Way → List JournalEntry → OpenWay → TopologyState → Primaries → WorkflowState → List JournalEntry → OpenWay → Type 0
UndoesBetween t primaries w way journal o new_t new_primaries new_w new_journal new =
    (sides : SidesState) × (log : UndoState)
    × Undoes (way.done == 0) way (sides_between t primaries w journal) o.log sides log
    × (new_t ≡ sides.topology) × (new_primaries ≡ with_primaries primaries w sides.source sides.targets) × (new_w ≡ sides.workflow) × (new_journal ≡ sides.journal)
    × (new ≡ record { number = o.number; log = log })
