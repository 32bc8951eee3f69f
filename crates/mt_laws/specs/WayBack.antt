-- Runs in pieces: what stands between the begin of a workflow, or of a way, and its end.
use Rattle.std.specs.Prelude.{◌≡◌, ℕ, Bool, true, false, not, ◌&&◌, List, ◌∷◌, None, is_some, ⊤}
use Rattle.std.specs.Option.{option_map_or}
use Rattle.mt_names.specs.Names.{same_text}
use Rattle.mt_model.specs.declared.entries.EntryKey.{EntryKey}
use Rattle.mt_model.specs.declared.entries.Scope.{Scope}
use Rattle.mt_plain.specs.Answers.{Answers, Run, after}
use Rattle.mt_plain.specs.Drive.{way_of}
use Rattle.mt_plain.specs.Events.{Event, create, begin_switch, begin_reverse, step, cancel, complete, Answer, done}
use Rattle.mt_plain.specs.Next.{next}
use Rattle.mt_plain.specs.Plain.{Plain, has_part, live_at, opening}

-- a state that a run from an opening reaches
pub record IsReached (p : Plain) : Type 0 where
  pub scopes : List Scope
  pub events : List Event
  pub answers : List Answer
  pub run : Run (opening scopes) events answers
  pub is : after (opening scopes) events answers ≡ p

-- whether an entry lies in the part of the live workflow of a name
abbrev pub in_part : Plain → (name : List ℕ) → EntryKey → Bool
in_part p name key = option_map_or (λ w. has_part w key) (live_at p name) false

-- whether an event ended a workflow: it was cancelled or completed
abbrev pub ends_workflow : (name : List ℕ) → Event → Answer → Bool
ends_workflow name (cancel workflow) done = same_text workflow name
ends_workflow name (complete workflow) done = same_text workflow name
ends_workflow name event answer = false

-- no event of a run ended it
abbrev pub StaysLive : (name : List ℕ) → List Event → List Answer → Type 0
StaysLive name (event ∷ events) (answer ∷ answers) = (ends_workflow name event answer ≡ false) × StaysLive name events answers
StaysLive name events answers = ⊤

-- from the state before a create that was taken to a later state, whatever came between: the workflow that it made is still live
pub record SinceCreate (name source target : List ℕ) (tables : List (List ℕ)) (p q : Plain) : Type 0 where
  pub created : Answers p (create name source target tables) done
  pub events : List Event
  pub answers : List Answer
  pub run : Run (next p (create name source target tables) done) events answers
  pub live : StaysLive name events answers
  pub is : after (next p (create name source target tables) done) events answers ≡ q

-- at each point of a run a way of the workflow is open
abbrev pub StaysOpen : (name : List ℕ) → Plain → List Event → List Answer → Type 0
StaysOpen name p (event ∷ events) (answer ∷ answers) = (is_some (way_of p name) ≡ true) × StaysOpen name (next p event answer) events answers
StaysOpen name p events answers = is_some (way_of p name) ≡ true

-- whether an event was the last step of a way of the workflow
abbrev pub ends_way : (name : List ℕ) → Plain → Event → Answer → Bool
ends_way name p (step workflow at) done = same_text workflow name && not (is_some (way_of (next p (step workflow at) done) name))
ends_way name p event answer = false

-- no event of a run was that
abbrev pub EndsNoWay : (name : List ℕ) → Plain → List Event → List Answer → Type 0
EndsNoWay name p (event ∷ events) (answer ∷ answers) = (ends_way name p event answer ≡ false) × EndsNoWay name (next p event answer) events answers
EndsNoWay name p events answers = ⊤

-- an event that begins a way of the workflow, forward or back
abbrev pub IsBegin : (name : List ℕ) → Event → Type 0
IsBegin name (begin_switch workflow types) = workflow ≡ name
IsBegin name (begin_reverse workflow types) = workflow ≡ name
IsBegin name other = ⊥

-- a way from its begin in one state to the event that closed it, which leaves another: whatever else comes between
pub record WayFrom (name : List ℕ) (begin last : Event) (p q : Plain) : Type 0 where
  pub begun : Answers p begin done
  pub events : List Event
  pub answers : List Answer
  pub run : Run (next p begin done) events answers
  pub stays_open : StaysOpen name (next p begin done) events answers
  pub taken : Answers (after (next p begin done) events answers) last done
  pub is : next (after (next p begin done) events answers) last done ≡ q
  pub closed : way_of q name ≡ None

-- a run from one state to another in which the workflow stays live, and no other traffic command of it came to its end
pub record NoWayBetween (name : List ℕ) (p q : Plain) : Type 0 where
  pub events : List Event
  pub answers : List Answer
  pub run : Run p events answers
  pub live : StaysLive name events answers
  pub none : EndsNoWay name p events answers
  pub is : after p events answers ≡ q
