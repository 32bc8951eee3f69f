-- Which watchers a refresh asks, and why it is refused.
use Rattle.std.proofs.Common.{◌≡◌, ℕ, zero, suc, Bool, true, false, cond, ◌||◌, List, [], ◌∷◌, slice_get, Some, Ok, Err, refl, ap, ◌∙◌}
use Rattle.std.specs.List.{list_any}
use Rattle.mt_names.proofs.SameLemmas.{same_text_decides}
use Rattle.mt_model.specs.declared.entries.Scope.{Scope}
use Rattle.mt_model.specs.declared.entries.Scope.TheVariants as scope
use Rattle.mt_model.specs.Topology.{TopologyState}
use Rattle.mt_plain.specs.Refuse.{is_of_primary}
use Rattle.mt_watch.specs.Asking.{Answering}
use Rattle.mt_watch.specs.Scopes.{has_scope, same_scope}
use Rattle.mt_workflow.specs.Workflows.{WorkflowState}
use Rattle.mt_steps.specs.declared.fault.StepFault.{StepFault}
use Rattle.mt_steps.specs.declared.fault.StepFault.TheVariants as fault
use Rattle.mt_steps.specs.Refreshes.{RefreshesSide, Sites}

-- ---- watchers of a primary

same_watcher : (keyspace : List ℕ) (other : Scope) → same_scope other (scope.Primary keyspace) ≡ is_of_primary keyspace other
same_watcher keyspace scope.Routes = refl
same_watcher keyspace (scope.Primary k) = refl

pub same_watchers : (keyspace : List ℕ) (scopes : List Scope) → has_scope scopes (scope.Primary keyspace) ≡ list_any (is_of_primary keyspace) scopes
same_watchers keyspace [] = refl
same_watchers keyspace (other ∷ others) =
    ap (λ b. b || has_scope others (scope.Primary keyspace)) (same_watcher keyspace other) ∙ ap (λ b. is_of_primary keyspace other || b) (same_watchers keyspace others)

any_at : (test : Scope → Bool) (scopes : List Scope) (i : ℕ) (own : Scope) → slice_get scopes i ≡ Some own → test own ≡ true → list_any test scopes ≡ true
any_at test [] i own e is = absurd cc
any_at test (s ∷ scopes) zero own e is = let same : s ≡ own = cc in ap (λ b. b || list_any test scopes) (ap test same ∙ is)
any_at test (s ∷ scopes) (suc i) own e is = ap (λ b. test s || b) (any_at test scopes i own e is) ∙ or_true (test s)
  where
    or_true : (b : Bool) → (b || true) ≡ true
    or_true true = refl
    or_true false = refl

pub watcher_of : (keyspace : List ℕ) → is_of_primary keyspace (scope.Primary keyspace) ≡ true
watcher_of keyspace = (same_text_decides keyspace keyspace).1 refl

-- one of them is there
pub watched_by : (keyspace : List ℕ) (scopes : List Scope) (i : ℕ) → slice_get scopes i ≡ Some (scope.Primary keyspace) → list_any (is_of_primary keyspace) scopes ≡ true
watched_by keyspace scopes i here = any_at (is_of_primary keyspace) scopes i (scope.Primary keyspace) here (watcher_of keyspace)

-- ---- a refresh of a side

-- why a refresh is refused at a keyspace's primary
abbrev pub WhyRefused : List Scope → (keyspace : List ℕ) → StepFault → Type 0
WhyRefused scopes keyspace fault.NoWatcher = has_scope scopes (scope.Primary keyspace) ≡ false
WhyRefused scopes keyspace fault.Memory = has_scope scopes (scope.Primary keyspace) ≡ true
WhyRefused scopes keyspace (fault.WatcherRefused i) = slice_get scopes i ≡ Some (scope.Primary keyspace)
WhyRefused scopes keyspace other = ⊥

module _ (scopes : List Scope) (may_answer : Answering) (t : TopologyState) (w : WorkflowState) (old new : Sites) where
  -- one that is done has told a watcher
  pub refreshed : (at_target : Bool) (shard : ℕ) → RefreshesSide scopes may_answer t w at_target shard old (Ok tt) new → has_scope scopes (scope.Primary (cond at_target w.target w.source)) ≡ true
  refreshed true shard is = is.0.0.has
  refreshed false shard is = is.0.0.has

  pub not_refreshed : (at_target : Bool) (shard : ℕ) (f : StepFault) → RefreshesSide scopes may_answer t w at_target shard old (Err f) new → WhyRefused scopes (cond at_target w.target w.source) f
  not_refreshed true shard fault.NoWatcher is = is.0.0
  not_refreshed true shard fault.Memory is = is.0.0
  not_refreshed true shard (fault.WatcherRefused i) is = is.0.0.here
  not_refreshed true shard fault.NotLevel is = is.0
  not_refreshed true shard fault.Full is = is.0
  not_refreshed false shard fault.NoWatcher is = is.0.0
  not_refreshed false shard fault.Memory is = is.0.0
  not_refreshed false shard (fault.WatcherRefused i) is = is.0.0.here
  not_refreshed false shard fault.NotLevel is = is.0
  not_refreshed false shard fault.Full is = is.0
