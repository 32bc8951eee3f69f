-- Asking watchers with a change.
use Rattle.std.specs.Prelude.{◌≡◌, ℕ, ◌<◌, Bool, true, false, List, slice_get, Option, None, Some, Result, Ok, Err}
use Rattle.mt_model.specs.declared.entries.Entry.{Entry}
use Rattle.mt_model.specs.declared.entries.Scope.{Scope}
use Rattle.mt_watch.specs.declared.fault.WatchFault.{WatchFault}
use Rattle.mt_watch.specs.declared.fault.WatchersFault.{WatchersFault}
use Rattle.mt_watch.specs.declared.fault.WatchersFault.TheVariants.{Memory, NoWatcher, Refused, Full}
use Rattle.mt_watch.specs.Notices.{notice_of}
use Rattle.mt_watch.specs.Scopes.{has_scope, same_scope}

-- what the watcher of a number may answer to a change. What a callback does lies with whoever handed it in, so of one
-- call its contract tells which answers it may give
abbrev pub Answering : Type 1
Answering = ℕ → List Entry → Result (List Entry) WatchFault → Type 0

-- what those of a list may answer, by what each of them may
abbrev pub by_number : {W : Type 0} → List W → (W → List Entry → Result (List Entry) WatchFault → Type 0) → Answering
by_number {W} watchers may_answer i change answer = (watcher : W) × (slice_get watchers i ≡ Some watcher) × may_answer watcher change answer

-- the watcher of a number has the scope
abbrev pub IsScopeAt : List Scope → Scope → ℕ → Type 0
IsScopeAt scopes scope i = slice_get scopes i ≡ Some scope

-- every watcher of the scope, of which there is one, was asked and answered the notice of the change; and this is it
pub record IsTold (scopes : List Scope) (may_answer : Answering) (scope : Scope) (change answer : List Entry) : Type 0 where
  pub has : has_scope scopes scope ≡ true
  pub notice : answer ≡ notice_of scope change
  pub each : (i : ℕ) → IsScopeAt scopes scope i → may_answer i change (Ok answer)

-- the watcher of this number, which has the scope, refused, and each of the scope before it answered the notice
pub record IsRefusedAt (scopes : List Scope) (may_answer : Answering) (scope : Scope) (change : List Entry) (i : ℕ) : Type 0 where
  pub here : IsScopeAt scopes scope i
  pub refused : (fault : WatchFault) × may_answer i change (Err fault)
  pub before : (j : ℕ) → j < i → IsScopeAt scopes scope j → may_answer j change (Ok (notice_of scope change))

-- what watchers of these scopes answer together
abbrev pub AsksEach : List Scope → Answering → Scope → List Entry → Result (List Entry) WatchersFault → Type 0
AsksEach scopes may_answer scope change (Ok notice) = IsTold scopes may_answer scope change notice
AsksEach scopes may_answer scope change (Err NoWatcher) = has_scope scopes scope ≡ false
AsksEach scopes may_answer scope change (Err (Refused i)) = IsRefusedAt scopes may_answer scope change i
AsksEach scopes may_answer scope change (Err Memory) = ⊥
AsksEach scopes may_answer scope change (Err Full) = ⊥

-- ---- one watcher's turn

-- a watcher of the scope is asked: its notice becomes the last one, and its refusal ends the asking with its number
abbrev pub AsksOfScope : (Result (List Entry) WatchFault → Type 0) → ℕ → List Entry → Result (Option (List Entry)) WatchersFault → Type 0
AsksOfScope may_answer index expected (Ok (Some notice)) = (notice ≡ expected) × may_answer (Ok notice)
AsksOfScope may_answer index expected (Ok None) = ⊥
AsksOfScope may_answer index expected (Err fault) = (fault ≡ Refused index) × ((own : WatchFault) × may_answer (Err own))

-- and one of another scope is passed over
abbrev pub AsksOneWhere : Bool → (Result (List Entry) WatchFault → Type 0) → ℕ → List Entry → Option (List Entry) → Result (Option (List Entry)) WatchersFault → Type 0
AsksOneWhere true may_answer index expected told answer = AsksOfScope may_answer index expected answer
AsksOneWhere false may_answer index expected told answer = answer ≡ Ok told

abbrev pub AsksOne : Scope → (Result (List Entry) WatchFault → Type 0) → ℕ → Scope → List Entry → Option (List Entry) → Result (Option (List Entry)) WatchersFault → Type 0
AsksOne own may_answer index scope change told answer =
    AsksOneWhere (same_scope own scope) may_answer index (notice_of own change) told answer
