-- What becomes of the primaries of a target as a workflow is created (this profile's own).
use Rattle.std.specs.Prelude.{◌≡◌, ⊤, ℕ, zero, suc, List, [], ◌∷◌, map, Result, Ok, Err}
use Rattle.mt_model.specs.declared.entries.Entry.{Entry}
use Rattle.mt_model.specs.declared.entries.Scope.{Scope}
use Rattle.mt_model.specs.declared.entries.Scope.TheVariants as scope
use Rattle.mt_event.specs.declared.reason.Reason.{Reason}
use Rattle.mt_event.specs.declared.reason.Reason.TheVariants as reason
use Rattle.mt_primary.specs.Primary.{PrimaryState}
use Rattle.mt_watch.specs.Asking.{Answering, AsksEach}
use Rattle.mt_watch.specs.declared.fault.WatchersFault.{WatchersFault}
use Rattle.mt_watch.specs.declared.fault.WatchersFault.TheVariants as watchers
use Rattle.mt_workflow.specs.Workflows.{WorkflowState}
use Rattle.mt_stands.specs.Workflows.{target_made}

-- a refusal of the watchers, as the controller tells it
abbrev pub refusal_by_watchers : WatchersFault → Reason
refusal_by_watchers (watchers.Refused index) = reason.WatcherRefused index
refusal_by_watchers watchers.NoWatcher = reason.NoWatcher
refusal_by_watchers other = reason.Memory

-- the first ones of some primaries are changed
abbrev pub changed_to : (PrimaryState → PrimaryState) → (count : ℕ) → List PrimaryState → List PrimaryState
changed_to change zero primaries = primaries
changed_to change (suc count) [] = []
changed_to change (suc count) (primary ∷ primaries) = change primary ∷ changed_to change count primaries

-- each primary has the tables, and takes the watchers' notice over; or none changed, if there is no memory or the watchers refuse
abbrev pub MakesTarget : List Scope → Answering → WorkflowState → (change : List Entry) → List PrimaryState → Result ⊤ Reason → List PrimaryState → Type 0
MakesTarget scopes may_answer w change old (Ok done) new =
    (notice : List Entry) × AsksEach scopes may_answer (scope.Primary w.target) change (Ok notice) × (new ≡ map (target_made w notice) old)
MakesTarget scopes may_answer w change old (Err reason.Memory) new = new ≡ old
MakesTarget scopes may_answer w change old (Err (reason.WatcherRefused index)) new =
    AsksEach scopes may_answer (scope.Primary w.target) change (Err (watchers.Refused index)) × (new ≡ old)
MakesTarget scopes may_answer w change old (Err reason.NoWatcher) new =
    AsksEach scopes may_answer (scope.Primary w.target) change (Err watchers.NoWatcher) × (new ≡ old)
MakesTarget scopes may_answer w change old (Err other) new = ⊥
