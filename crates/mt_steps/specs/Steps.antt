-- What a step does, and what an undo does.
use Rattle.std.specs.Prelude.{◌≡◌, ⊤, ℕ, ◌<◌, ◌||◌, Bool, true, false, not, List, [], ◌∷◌, ◌++◌, length, map, slice_index_or, slice_set, Option, None, Some, unwrap_or, Result, Ok, Err}
use Rattle.mt_names.specs.Types.{no_types}
use Rattle.mt_model.specs.declared.entries.Scope.{Scope}
use Rattle.mt_model.specs.Part.{with_entries}
use Rattle.mt_model.specs.Topology.{Marks, TopologyState}
use Rattle.mt_plain.specs.Events.{Way}
use Rattle.mt_plain.specs.Refuse.{most_journal_entries}
use Rattle.mt_primary.specs.Denials.{AreDenialsSet, told_by_marks}
use Rattle.mt_primary.specs.Primary.{PrimaryState, end_of}
use Rattle.mt_stream.specs.Streams.{StreamValue}
use Rattle.mt_watch.specs.Asking.{Answering}
use Rattle.mt_workflow.specs.Workflows.{WorkflowState}
use Rattle.mt_journal.specs.declared.entry.JournalEntry.{JournalEntry}
use Rattle.mt_steps.specs.declared.fault.StepFault.{StepFault}
use Rattle.mt_steps.specs.declared.fault.StepFault.TheVariants as fault
use Rattle.mt_steps.specs.declared.step.Step.{Step}
use Rattle.mt_steps.specs.declared.step.Step.TheVariants.{SwitchReads, RefreshSource, CatchUp, CreateBack, Journal, RefreshTarget}
use Rattle.mt_steps.specs.Entries.{recorded, recorded_of, step_entries}
use Rattle.mt_steps.specs.Plans.{number}
use Rattle.mt_steps.specs.Refreshes.{RefreshesSide, Sites}
use Rattle.mt_steps.specs.Shards.{IsChangedAt, last_shard, next_shard, target_at}
use Rattle.mt_steps.specs.Streams.{is_fed, log_ends, put_away, serves_other_side, workflow_stepped, workflow_undone}
use Rattle.mt_steps.specs.Undo.{UndoState}

-- what a step works on (this profile's own)
pub record SidesState : Type 0 where
  pub topology : TopologyState
  pub source : PrimaryState
  pub targets : List PrimaryState
  pub workflow : WorkflowState
  pub journal : List JournalEntry

-- the way that is open; where none is, one that changes nothing (MoveTables)
abbrev pub open_way : WorkflowState → Way
open_way w = unwrap_or w.way (record { back = false; shards = 1; before = no_types; after = no_types; done = 0; undoing = false })

-- ---- what may be refused

-- refused where a stream is not level (How traffic is switched)
abbrev pub answer_if_level : Bool → Result ⊤ StepFault
answer_if_level true = Ok tt
answer_if_level false = Err fault.NotLevel

-- the entry of the journal for a way (How traffic is switched: the journal)
abbrev pub journal_entry : (id : ℕ) → WorkflowState → Way → (source : PrimaryState) → (targets : List PrimaryState) → JournalEntry
journal_entry id w way source targets =
    record { id = id; workflow = w.name; back = way.back; source_position = end_of source; target_positions = record { items = map end_of targets } }

-- an entry goes behind the others, if there is room and memory for it (How traffic is switched: the journal)
abbrev pub Journals : JournalEntry → List JournalEntry → Result ⊤ StepFault → List JournalEntry → Type 0
Journals e old (Ok done) new = (length old < most_journal_entries) × (new ≡ old ++ e ∷ [])
Journals e old (Err fault.Full) new = (length old ≡ most_journal_entries) × (new ≡ old)
Journals e old (Err fault.Memory) new = (length old < most_journal_entries) × (new ≡ old)
Journals e old (Err other) new = ⊥

-- what of a step may be refused: the test of a level, a refresh, the journal's entry (How traffic is switched)
abbrev pub Attempts : List Scope → Answering → (id : ℕ) → TopologyState → WorkflowState → Way → Step → Sites → Result ⊤ StepFault → Sites → Type 0
Attempts scopes may_answer id t w way SwitchReads old answer new =
    (answer ≡ answer_if_level (not (serves_other_side way) || is_fed w way old.source old.targets)) × (new ≡ old)
Attempts scopes may_answer id t w way CatchUp old answer new = (answer ≡ answer_if_level (is_fed w way old.source old.targets)) × (new ≡ old)
Attempts scopes may_answer id t w way RefreshSource old answer new = RefreshesSide scopes may_answer t w way.before.primary (next_shard way) old answer new
Attempts scopes may_answer id t w way RefreshTarget old answer new = RefreshesSide scopes may_answer t w (not way.before.primary) (next_shard way) old answer new
Attempts scopes may_answer id t w way Journal old answer new =
    Journals (journal_entry id w way old.source old.targets) old.journal answer new.journal
    × (new.source ≡ old.source) × (new.targets ≡ old.targets) × (new.listed ≡ old.listed)
Attempts scopes may_answer id t w way other old answer new = (answer ≡ Ok tt) × (new ≡ old)

-- ---- a step

-- what is kept of an own list for a shard (this profile's own)
abbrev pub listed_at : UndoState → (shard : ℕ) → Option Marks
listed_at log shard = slice_index_or log.listed shard None

-- the primaries, the journal and what is kept of an own list for the shard of the next place, of a state and its record
abbrev pub sites : Way → SidesState → UndoState → Sites
sites way s log = record { source = s.source; targets = s.targets; journal = s.journal; listed = listed_at log (next_shard way) }

-- a step that was done: the entries that change with it are written, and what stood there is recorded; the workflow counts it; what
-- may be refused was not; and of the own lists nothing else is kept anew than that for the shard of the next place (How traffic is switched)
pub record IsStepped (scopes : List Scope) (may_answer : Answering) (id : ℕ) (way : Way) (step : Step) (old : SidesState) (log : UndoState) (new : SidesState) (new_log : UndoState) : Type 0 where
  pub attempt : Attempts scopes may_answer id old.topology old.workflow way step (sites way old log) (Ok tt) (sites way new new_log)
  pub topology : new.topology ≡ with_entries old.topology (step_entries old.workflow way.after (number step))
  pub workflow : new.workflow ≡ workflow_stepped old.workflow way step (log_ends way old.source old.targets)
  pub entries : new_log.entries ≡ recorded old.workflow (number step) old.topology log.entries
  pub listed : new_log.listed ≡ slice_set log.listed (next_shard way) (listed_at new_log (next_shard way))
  pub slots : new_log.slots ≡ put_away old.workflow way step log.slots

-- a step is done, or refused, and then nothing changed (How traffic is switched)
abbrev pub Steps : List Scope → Answering → (id : ℕ) → Way → Step → SidesState → UndoState → Result ⊤ StepFault → SidesState → UndoState → Type 0
Steps scopes may_answer id way step old log (Ok done) new new_log = IsStepped scopes may_answer id way step old log new new_log
Steps scopes may_answer id way step old log (Err fault) new new_log =
    Attempts scopes may_answer id old.topology old.workflow way step (sites way old log) (Err fault) (sites way old log) × (new ≡ old) × (new_log ≡ log)

-- ---- an undo

-- what the record gives back to an own list: what a refresh listed for its shard; the rest stays in it (this profile's own)
abbrev pub given_listed : Step → Option Marks → Option Marks
given_listed RefreshSource listed = listed
given_listed other listed = None

-- what stays of the own lists
abbrev pub left_listed : Step → (shard : ℕ) → List (Option Marks) → List (Option Marks)
left_listed RefreshSource shard listed = slice_set listed shard None
left_listed other shard listed = listed

-- what stays of the streams
abbrev pub left_slots : Step → List (Option StreamValue) → List (Option StreamValue)
left_slots CreateBack slots = map (λ slot. None) slots
left_slots other slots = slots

-- the record after the undo of a step for a shard (this profile's own)
abbrev pub log_undone : Step → (shard : ℕ) → UndoState → UndoState
log_undone step shard log = record { entries = log.entries; listed = left_listed step shard log.listed; slots = left_slots step log.slots }

-- what stood on an own list is given back to the old owner's primary, at the target to that of a shard, and all others stay
-- (this profile's own)
abbrev pub IsGivenBack : (at_target : Bool) → (shard : ℕ) → Option Marks → (source : PrimaryState) → (targets : List PrimaryState) → (new_source : PrimaryState) → (new_targets : List PrimaryState) → Type 0
IsGivenBack true shard (Some marks) source targets new_source new_targets =
    AreDenialsSet (target_at targets shard) (told_by_marks marks) (target_at new_targets shard) × IsChangedAt shard targets new_targets × (new_source ≡ source)
IsGivenBack false shard (Some marks) source targets new_source new_targets = AreDenialsSet source (told_by_marks marks) new_source × (new_targets ≡ targets)
IsGivenBack at_target shard None source targets new_source new_targets = (new_source ≡ source) × (new_targets ≡ targets)

-- the undo of the step that was done last, for its shard: what stood at its entries, on the own list and in the slots stands there again;
-- all else stays as it is now (this profile's own)
pub record IsUndone (way : Way) (step : Step) (old : SidesState) (kept : UndoState) (new : SidesState) (now : UndoState) : Type 0 where
  pub topology : new.topology ≡ with_entries old.topology (recorded_of old.workflow (number step) kept.entries)
  pub listed : IsGivenBack way.before.primary (last_shard way) (given_listed step (listed_at kept (last_shard way))) old.source old.targets new.source new.targets
  pub workflow : new.workflow ≡ workflow_undone old.workflow way step kept.slots
  pub journal : new.journal ≡ old.journal
  pub log : now ≡ log_undone step (last_shard way) kept
