-- Publications of routes, in the words of the definitions (this profile's own).
use Rattle.std.specs.Prelude.{◌≡◌, ◌≤◌, true, false, List, length, map, None, Some}
use Rattle.std.specs.List.{last_or}
use Rattle.mt_model.specs.declared.entries.Entry.{Entry}
use Rattle.mt_model.specs.declared.entries.Scope.{Scope}
use Rattle.mt_model.specs.declared.entries.Scope.TheVariants.{Routes}
use Rattle.mt_model.specs.Topology.{TopologyState, routes_of}
use Rattle.mt_plain.specs.Answers.{ArePublications}
use Rattle.mt_plain.specs.Answers as plain
use Rattle.mt_plain.specs.Plain.{Plain}
use Rattle.mt_routes.specs.declared.publication.Publication.{Publication}
use Rattle.mt_routes.specs.Differences.{AreDifferences}
use Rattle.mt_routes.specs.Turns.{AreInTurn}
use Rattle.mt_routes.specs.Publications.{last_front, publication}
use Rattle.mt_stands.specs.Ways.{CoreStands, CoreState}
use Rattle.mt_watch.specs.Asking.{Answering, IsRefusedAt, IsScopeAt}
use Rattle.mt_watch.specs.Scopes.{has_scope}
use Rattle.mt_desk.specs.declared.fault.DeskFault.{DeskFault}
use Rattle.mt_desk.specs.declared.fault.DeskFault.TheVariants.{Memory, NoWatcher, WatcherRefused}
use Rattle.mt_desk.specs.declared.history.Line.{Line}
use Rattle.mt_desk.specs.Histories.{Leads, history_from}

abbrev pub publication_from : Publication → plain.Publication
publication_from q = record { front = q.front; view = q.entries }

-- a list has the publications of a history: each has a number of its lines as its front, and tells the view after them; the first is of no
-- line, and fronts never fall
pub record AreFronts (scopes : List Scope) (opening : CoreState) (lines : List Line) (list : List Publication) : Type 0 where
  pub within : last_front list ≤ length lines
  pub publications : (p : Plain) → CoreStands p scopes opening → ArePublications p (history_from lines) (map publication_from list)

-- there is a history, legal from each state that the controller stood for at the opening, that has these publications
abbrev pub Published : List Scope → (opening : CoreState) → List Publication → Type 0
Published scopes opening list =
    ∥ ((lines : List Line) × (now : CoreState) × Leads scopes opening lines now × AreFronts scopes opening lines list) ∥₁

-- the last publication is of all lines, and has the routes of the topology that these lead to
abbrev pub EndsWithAll : List Line → (now : CoreState) → List Publication → Type 0
EndsWithAll lines now list = last_or None list ≡ Some (publication (length lines) (routes_of now.base.topology))

-- the same of a history as it stood when the last of them was made
abbrev pub Tells : List Scope → (opening : CoreState) → List Publication → Type 0
Tells scopes opening list =
    ∥ ((lines : List Line) × (now : CoreState) × Leads scopes opening lines now × AreFronts scopes opening lines list × EndsWithAll lines now list) ∥₁

-- ---- why nothing is told

-- a change is all that a topology's routes say otherwise than those that were published last, in turn
abbrev pub Changes : (before : List Entry) → TopologyState → List Entry → Type 0
Changes before t change = AreDifferences before (routes_of t) change × AreInTurn change

-- no watcher has the scope of routes, which is reported first; else no memory was left, or a watcher that was asked with such a change refused
abbrev pub AsksNone : List Scope → Answering → (is_change : List Entry → Type 0) → DeskFault → Type 0
AsksNone scopes may_answer is_change NoWatcher = has_scope scopes Routes ≡ false
AsksNone scopes may_answer is_change Memory = has_scope scopes Routes ≡ true
AsksNone scopes may_answer is_change (WatcherRefused i) = (change : List Entry) × is_change change × IsRefusedAt scopes may_answer Routes change i
AsksNone scopes may_answer is_change other = ⊥

-- the same by the scopes alone
abbrev pub TellsNone : List Scope → DeskFault → Type 0
TellsNone scopes NoWatcher = has_scope scopes Routes ≡ false
TellsNone scopes Memory = has_scope scopes Routes ≡ true
TellsNone scopes (WatcherRefused i) = IsScopeAt scopes Routes i
TellsNone scopes other = ⊥
