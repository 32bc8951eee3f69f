-- What an event on a way does to the controller: a way is begun, forward or back; its next step is done, or its last one undone; and a
-- workflow is completed (MoveTables: SwitchTraffic, ReverseTraffic, Complete). All of this page is this profile's own, unless a comment
-- names a page of Vitess's documentation.
use Rattle.std.specs.Prelude.{◌≡◌, ⊤, ℕ, suc, Bool, true, false, not, ◌==◌, nat_le, List, [], ◌∷◌, ◌++◌, fold, length, Option, None, Some, Result, Ok, Err}
use Rattle.std.specs.List.{list_all}
use Rattle.std.specs.Map.{remove_entry, set_value}
use Rattle.std.specs.Option.{option_map_or}
use Rattle.mt_names.specs.declared.types.TypeSet.{TypeSet}
use Rattle.mt_names.specs.Names.{same_text}
use Rattle.mt_model.specs.declared.entries.Scope.{Scope}
use Rattle.mt_model.specs.Part.{with_entries, without_places}
use Rattle.mt_plain.specs.Events.{Answer, forward, done, refused, Refusal, memory, no_workflow, nothing_to_switch, nothing_to_reverse, copying, past_journal, stale, undoing, full, nothing_under_way, Way}
use Rattle.mt_plain.specs.Next.{types_and, types_without}
use Rattle.mt_plain.specs.Plain.{last_step, next_step, stands_done, write_journal}
use Rattle.mt_plain.specs.Refuse.{at_rest, complete_refusal, has_more, most_ways, or_else, refuse_if, share_type}
use Rattle.mt_primary.specs.Primary.{PrimaryState}
use Rattle.mt_primary.specs.Writes.{without_table}
use Rattle.mt_steps.specs.declared.fault.StepFault.{StepFault}
use Rattle.mt_steps.specs.declared.log.OpenWay.{OpenWay}
use Rattle.mt_steps.specs.Faults as step
use Rattle.mt_steps.specs.Plans.{step_at}
use Rattle.mt_steps.specs.Shards as lanes
use Rattle.mt_steps.specs.Steps.{IsUndone, SidesState, Steps}
use Rattle.mt_steps.specs.Undo.{UndoState, new_log}
use Rattle.mt_stream.specs.Streams.{has_ended}
use Rattle.mt_watch.specs.Asking.{Answering}
use Rattle.mt_workflow.specs.Workflows.{WorkflowState, live_of, slot_of}
use Rattle.mt_stands.specs.Keys.{end_entries, end_keys}
use Rattle.mt_primary.specs.Primaries.{Primaries, primary_of, shards_of, with_all, with_primary, with_shards}
use Rattle.mt_stands.specs.Base.{BaseState, workflow_at}
use Rattle.mt_stands.specs.Ways.{OpenWays, CoreState, open_at}

-- what becomes of the controller if a test refuses the event, and else it is made, which takes memory if it `grows`. What is refused
-- leaves it as it was
abbrev pub CoreDoes : CoreState → Option Refusal → (grows : Bool) → (made : CoreState) → Answer → CoreState → Type 0
CoreDoes old refusal grows made done new = (refusal ≡ None) × (new ≡ made)
CoreDoes old refusal grows made (refused memory) new = (refusal ≡ None) × (grows ≡ true) × (new ≡ old)
CoreDoes old refusal grows made (refused r) new = (refusal ≡ Some r) × (new ≡ old)
CoreDoes old refusal grows made other new = ⊥

-- the workflow of a name becomes another
abbrev pub with_workflow : BaseState → WorkflowState → BaseState
with_workflow base w = record base { workflows = set_value (same_text w.name) base.workflows w }

-- ---- a way begins

-- the way that changes the switched types to these
abbrev pub way_to : WorkflowState → (backward : Bool) → (types : TypeSet) → Way
way_to w backward types = record { back = backward; shards = length w.lanes; before = w.switched; after = types; done = 0; undoing = false }

-- it is open on the workflow, and gets the next number, the first one 1; what is kept for its undo is kept from now on
abbrev pub with_way : CoreState → WorkflowState → Way → CoreState
with_way s w way = record {
  base = with_workflow s.base (record w { way = Some way });
  ways = record s.ways {
    opened = s.ways.opened ++ (w.name, record { number = suc s.ways.begun; log = new_log w }) ∷ [];
    begun = suc s.ways.begun;
  };
}

-- whether all rows of a shard of a workflow's target are copied
abbrev pub has_copied_at : WorkflowState → (shard : ℕ) → Bool
has_copied_at w shard = option_map_or (λ stream. has_ended stream.copied) (slot_of w shard forward) false

-- whether a workflow still has rows to copy
abbrev pub is_copying : WorkflowState → Bool
is_copying w = not (list_all (has_copied_at w) (lanes.shards_of w))

-- a limit: of the numbers of ways
abbrev pub no_number_left : CoreState → Option Refusal
no_number_left s = refuse_if (nat_le most_ways s.ways.begun) full

-- a way forward: it switches those of some types that aren't switched (MoveTables: SwitchTraffic)
abbrev pub BeginsSwitchAt : Option WorkflowState → CoreState → TypeSet → Answer → CoreState → Type 0
BeginsSwitchAt None old types answer new = (answer ≡ refused no_workflow) × (new ≡ old)
BeginsSwitchAt (Some w) old types answer new =
    CoreDoes old
    (at_rest (live_of w) (or_else (refuse_if (not (has_more types w.switched)) nothing_to_switch) (or_else (refuse_if (is_copying w) copying) (no_number_left old))))
    true (with_way old w (way_to w false (types_and w.switched types))) answer new

abbrev pub BeginsSwitch : CoreState → (workflow : List ℕ) → TypeSet → Answer → CoreState → Type 0
BeginsSwitch old workflow types answer new = BeginsSwitchAt (workflow_at old.base.workflows workflow) old types answer new

-- a way back: it reverses those of some types that are switched (MoveTables: ReverseTraffic)
abbrev pub BeginsReverseAt : Option WorkflowState → CoreState → TypeSet → Answer → CoreState → Type 0
BeginsReverseAt None old types answer new = (answer ≡ refused no_workflow) × (new ≡ old)
BeginsReverseAt (Some w) old types answer new =
    CoreDoes old (at_rest (live_of w) (or_else (refuse_if (not (share_type types w.switched)) nothing_to_reverse) (no_number_left old)))
    true (with_way old w (way_to w true (types_without w.switched types))) answer new

abbrev pub BeginsReverse : CoreState → (workflow : List ℕ) → TypeSet → Answer → CoreState → Type 0
BeginsReverse old workflow types answer new = BeginsReverseAt (workflow_at old.base.workflows workflow) old types answer new

-- ---- a step, and an undo

-- what a step of a workflow's way works on: the source has one shard
abbrev pub sides_of : CoreState → WorkflowState → SidesState
sides_of s w = record {
  topology = s.base.topology;
  source = primary_of s.base.primaries w.source 0;
  targets = (shards_of s.base.primaries w.target).each;
  workflow = w;
  journal = s.ways.journal;
}

-- what is kept of a way behind a step: what its undo needs then, or nothing once the way is closed
abbrev pub open_after : OpenWays → (name : List ℕ) → OpenWay → Option Way → OpenWays
open_after ways name o None = remove_entry (same_text name) ways
open_after ways name o (Some way) = set_value (same_text name) ways o

-- the primaries of a workflow's sides become others
abbrev pub with_primaries : Primaries → WorkflowState → (source : PrimaryState) → (targets : List PrimaryState) → Primaries
with_primaries primaries w source targets = with_shards (with_primary primaries w.source 0 source) w.target targets

-- the controller with what a step or an undo has made of these
abbrev pub with_sides : CoreState → WorkflowState → SidesState → OpenWay → CoreState
with_sides s w sides o = record {
  base = record {
    topology = sides.topology;
    primaries = with_primaries s.base.primaries w sides.source sides.targets;
    workflows = set_value (same_text w.name) s.base.workflows sides.workflow;
  };
  ways = record s.ways { opened = open_after s.ways.opened w.name o sides.workflow.way; journal = sides.journal };
}

-- what a step is answered
abbrev pub answer_by_step : Result ⊤ StepFault → Answer
answer_by_step (Ok done') = done
answer_by_step (Err fault) = refused (step.refusal_of fault)

-- the step that is next is done, or refused
abbrev pub StepsOn : CoreState → List Scope → Answering → WorkflowState → Way → OpenWay → Answer → CoreState → Type 0
StepsOn old scopes may_answer w way o answer new =
    (result : Result ⊤ StepFault) × (sides : SidesState) × (log : UndoState)
    × Steps scopes may_answer o.number way (step_at (next_step way)) (sides_of old w) o.log result sides log
    × (answer ≡ answer_by_step result) × (new ≡ with_sides old w sides (record { number = o.number; log = log }))

-- the step that was done last is undone; where none stands done, the way is closed
abbrev pub Undoes : (none : Bool) → Way → SidesState → UndoState → SidesState → UndoState → Type 0
Undoes true way old kept new now = (new ≡ record old { workflow = record old.workflow { way = None } }) × (now ≡ kept)
Undoes false way old kept new now = IsUndone way (step_at (last_step way)) old kept new now

abbrev pub UndoesOn : CoreState → WorkflowState → Way → OpenWay → Answer → CoreState → Type 0
UndoesOn old w way o answer new =
    (sides : SidesState) × (log : UndoState)
    × Undoes (way.done == 0) way (sides_of old w) o.log sides log
    × (answer ≡ done) × (new ≡ with_sides old w sides (record { number = o.number; log = log }))

-- what refuses a step before it is tried: an undo that was taken, the number
abbrev pub step_refusal : (at : ℕ) → Way → Option Refusal
step_refusal at way = or_else (refuse_if way.undoing undoing) (refuse_if (not (at == way.done)) (stale way.done))

-- what refuses an undo: the journal, the number
abbrev pub undo_refusal : (at : ℕ) → Way → Option Refusal
undo_refusal at way = or_else (refuse_if (stands_done way write_journal) past_journal) (refuse_if (not (at == way.done)) (stale way.done))

-- what a test refuses leaves the controller as it was
abbrev pub OrRefused : Option Refusal → CoreState → Answer → CoreState → Type 0 → Type 0
OrRefused None old answer new Made = Made
OrRefused (Some r) old answer new Made = (answer ≡ refused r) × (new ≡ old)

-- for each open way something is kept
abbrev pub StepsKept : Option OpenWay → CoreState → List Scope → Answering → WorkflowState → Way → Answer → CoreState → Type 0
StepsKept None old scopes may_answer w way answer new = ⊥
StepsKept (Some o) old scopes may_answer w way answer new = StepsOn old scopes may_answer w way o answer new

abbrev pub StepsWay : Option Way → CoreState → List Scope → Answering → WorkflowState → (at : ℕ) → Answer → CoreState → Type 0
StepsWay None old scopes may_answer w at answer new = (answer ≡ refused nothing_under_way) × (new ≡ old)
StepsWay (Some way) old scopes may_answer w at answer new =
    OrRefused (step_refusal at way) old answer new (StepsKept (open_at old.ways.opened w.name) old scopes may_answer w way answer new)

abbrev pub StepsAt : Option WorkflowState → CoreState → List Scope → Answering → (at : ℕ) → Answer → CoreState → Type 0
StepsAt None old scopes may_answer at answer new = (answer ≡ refused no_workflow) × (new ≡ old)
StepsAt (Some w) old scopes may_answer at answer new = StepsWay w.way old scopes may_answer w at answer new

-- a step of the way that is open on a workflow (How traffic is switched)
abbrev pub StepsWorkflow : CoreState → List Scope → Answering → (workflow : List ℕ) → (at : ℕ) → Answer → CoreState → Type 0
StepsWorkflow old scopes may_answer workflow at answer new = StepsAt (workflow_at old.base.workflows workflow) old scopes may_answer at answer new

abbrev pub UndoesKept : Option OpenWay → CoreState → WorkflowState → Way → Answer → CoreState → Type 0
UndoesKept None old w way answer new = ⊥
UndoesKept (Some o) old w way answer new = UndoesOn old w way o answer new

abbrev pub UndoesWay : Option Way → CoreState → WorkflowState → (at : ℕ) → Answer → CoreState → Type 0
UndoesWay None old w at answer new = (answer ≡ refused nothing_under_way) × (new ≡ old)
UndoesWay (Some way) old w at answer new =
    OrRefused (undo_refusal at way) old answer new (UndoesKept (open_at old.ways.opened w.name) old w way answer new)

abbrev pub UndoesAt : Option WorkflowState → CoreState → (at : ℕ) → Answer → CoreState → Type 0
UndoesAt None old at answer new = (answer ≡ refused no_workflow) × (new ≡ old)
UndoesAt (Some w) old at answer new = UndoesWay w.way old w at answer new

-- an undo of the way that is open on a workflow: it takes no memory, and asks nobody
abbrev pub UndoesWorkflow : CoreState → (workflow : List ℕ) → (at : ℕ) → Answer → CoreState → Type 0
UndoesWorkflow old workflow at answer new = UndoesAt (workflow_at old.base.workflows workflow) old at answer new

-- ---- Complete

-- the end is written over the part and the tables at the source, whose places that then hold nothing are dropped; the source's primary
-- loses the tables, and the workflow is gone with its streams (MoveTables: Complete)
abbrev pub completed : BaseState → WorkflowState → BaseState
completed base w = record {
  topology = without_places (with_entries base.topology (end_entries (live_of w))) (end_keys (live_of w));
  primaries = with_all base.primaries w.source (λ primary. fold without_table primary w.tables);
  workflows = remove_entry (same_text w.name) base.workflows;
}

-- Complete of a live workflow takes no memory
abbrev pub CompletesAt : Option WorkflowState → CoreState → Answer → CoreState → Type 0
CompletesAt None old answer new = (answer ≡ refused no_workflow) × (new ≡ old)
CompletesAt (Some w) old answer new = CoreDoes old (complete_refusal (live_of w)) false (record old { base = completed old.base w }) answer new

abbrev pub Completes : CoreState → (workflow : List ℕ) → Answer → CoreState → Type 0
Completes old workflow answer new = CompletesAt (workflow_at old.base.workflows workflow) old answer new
