-- A refresh of a primary's own list: what is asked, and what becomes of it.
use Rattle.std.specs.Prelude.{◌≡◌, ⊤, ℕ, Bool, true, false, List, map, Option, Some, Result, Ok, Err}
use Rattle.mt_model.specs.declared.entries.Entry.{Entry}
use Rattle.mt_model.specs.declared.entries.EntryKey.TheVariants as about
use Rattle.mt_model.specs.declared.entries.Scope.{Scope}
use Rattle.mt_model.specs.declared.entries.Scope.TheVariants as scope
use Rattle.mt_model.specs.Topology.{Marks, TopologyState, value_of}
use Rattle.mt_primary.specs.Denials.{AreDenialsSet, marks_of, told_by_refresh}
use Rattle.mt_primary.specs.Primary.{PrimaryState}
use Rattle.mt_watch.specs.Asking.{Answering, IsRefusedAt, IsTold}
use Rattle.mt_watch.specs.Notices.{notice_of}
use Rattle.mt_watch.specs.Scopes.{has_scope}
use Rattle.mt_workflow.specs.Workflows.{WorkflowState}
use Rattle.mt_journal.specs.declared.entry.JournalEntry.{JournalEntry}
use Rattle.mt_steps.specs.declared.fault.StepFault.{StepFault}
use Rattle.mt_steps.specs.declared.fault.StepFault.TheVariants as fault
use Rattle.mt_steps.specs.Shards.{IsChangedAt, target_at}

-- the change that a refresh asks with: the denials of some tables at a side, in the order named (How traffic is switched: RefreshState)
abbrev pub denials_at : TopologyState → (side : List ℕ) → List (List ℕ) → List Entry
denials_at t side tables = map (λ table. value_of t (about.Denied side table)) tables

-- the notice of it for the side's primary
abbrev pub notice_at : TopologyState → (side : List ℕ) → List (List ℕ) → List Entry
notice_at t side tables = notice_of (scope.Primary side) (denials_at t side tables)

-- a refresh of some tables at a side: all watchers of its primary are told, what stood there is listed, and the primary takes over the
-- notice for these tables alone; or it is refused, and nothing changed (How traffic is switched: RefreshState)
abbrev pub Refreshes : List Scope → Answering → TopologyState → (side : List ℕ) → List (List ℕ) → PrimaryState → Option Marks → Result ⊤ StepFault → PrimaryState → Option Marks → Type 0
Refreshes scopes may_answer t side tables old listed (Ok done) new new_listed =
    IsTold scopes may_answer (scope.Primary side) (denials_at t side tables) (notice_at t side tables)
    × AreDenialsSet old (told_by_refresh side (notice_at t side tables) tables) new
    × (new_listed ≡ Some (marks_of old tables))
Refreshes scopes may_answer t side tables old listed (Err fault.NoWatcher) new new_listed =
    (has_scope scopes (scope.Primary side) ≡ false) × (new ≡ old) × (new_listed ≡ listed)
Refreshes scopes may_answer t side tables old listed (Err fault.Memory) new new_listed =
    (has_scope scopes (scope.Primary side) ≡ true) × (new ≡ old) × (new_listed ≡ listed)
Refreshes scopes may_answer t side tables old listed (Err (fault.WatcherRefused i)) new new_listed =
    IsRefusedAt scopes may_answer (scope.Primary side) (denials_at t side tables) i × (new ≡ old) × (new_listed ≡ listed)
Refreshes scopes may_answer t side tables old listed (Err other) new new_listed = ⊥

-- the source's primary and those of the target's shards, in their order; the journal; and what stood on an own list before the last refresh
-- that was for the shard of the next place (this profile's own)
pub record Sites : Type 0 where
  pub source : PrimaryState
  pub targets : List PrimaryState
  pub journal : List JournalEntry
  pub listed : Option Marks

-- a refresh at one of the sides of a workflow: at the target that of a shard's primary, while the others stay; the other side's primaries
-- and the journal stay (How traffic is switched: RefreshState)
abbrev pub RefreshesSide : List Scope → Answering → TopologyState → WorkflowState → (at_target : Bool) → (shard : ℕ) → Sites → Result ⊤ StepFault → Sites → Type 0
RefreshesSide scopes may_answer t w true shard old answer new =
    Refreshes scopes may_answer t w.target w.tables (target_at old.targets shard) old.listed answer (target_at new.targets shard) new.listed
    × IsChangedAt shard old.targets new.targets × (new.source ≡ old.source) × (new.journal ≡ old.journal)
RefreshesSide scopes may_answer t w false shard old answer new =
    Refreshes scopes may_answer t w.source w.tables old.source old.listed answer new.source new.listed
    × (new.targets ≡ old.targets) × (new.journal ≡ old.journal)
