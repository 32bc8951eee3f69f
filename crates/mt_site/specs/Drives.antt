-- What a drive of the controller means: a whole switch of traffic, or its reversal (MoveTables: SwitchTraffic, ReverseTraffic).
use Rattle.std.specs.Prelude.{◌≡◌, ℕ, Bool, List, ◌++◌, Result, Ok}
use Rattle.mt_event.specs.declared.refusal.Refusal.{Refusal}
use Rattle.mt_event.specs.Drives.{ended_from}
use Rattle.mt_event.specs.Reasons.{reason_from}
use Rattle.mt_model.specs.declared.entries.Scope.{Scope}
use Rattle.mt_names.specs.declared.types.TypeSet.{TypeSet}
use Rattle.mt_plain.specs.Answers.{Answers, after}
use Rattle.mt_plain.specs.Drive.{Drives, Driving, GoesOn, begins, Heard, event_of, heard, most_turns}
use Rattle.mt_plain.specs.Drive as plain
use Rattle.mt_plain.specs.Events.{Answer, Event}
use Rattle.mt_plain.specs.Next.{next}
use Rattle.mt_plain.specs.Plain.{Plain}
use Rattle.mt_laws.specs.Headline.{Headline}
use Rattle.mt_laws.specs.Scripts.{IsDrive}
use Rattle.mt_laws.specs.Turns.{Fits}
use Rattle.mt_site.specs.Headline.{HasRun}
use Rattle.mt_stands.specs.Ways.{CoreStands, CoreState}
use Rattle.mt_event.specs.declared.driven.Driven.{Driven}
use Rattle.mt_site.specs.declared.turn.End as code_end
use Rattle.mt_site.specs.declared.turn.End.TheVariants as end
use Rattle.mt_site.specs.declared.turn.Heard as code_heard
use Rattle.mt_site.specs.declared.turn.Heard.TheVariants as says
use Rattle.mt_site.specs.declared.turn.Turn as code_turn
use Rattle.mt_site.specs.declared.turn.Turn.TheVariants as turn

-- what a drive of a workflow asks for next
abbrev pub turn_from : (workflow : List ℕ) → code_turn.Turn → Driving
turn_from workflow (turn.Steps tries) = plain.steps workflow tries
turn_from workflow (turn.Feeds shard tries) = plain.feeds workflow shard tries
turn_from workflow (turn.GivesUp reason) = plain.gives_up workflow (reason_from reason)

-- how a drive that is begun ends
abbrev pub end_from : code_end.End → plain.Driven
end_from end.Done = plain.done
end_from (end.Abandoned reason) = plain.abandoned (reason_from reason)
end_from (end.Stopped reason steps) = plain.stopped (reason_from reason) steps

-- what follows from an answer
abbrev pub heard_from : (workflow : List ℕ) → code_heard.Heard → Heard
heard_from workflow (says.GoesOn next) = plain.goes_on (turn_from workflow next)
heard_from workflow (says.Ends how) = plain.ends (Ok (end_from how))

-- one turn, in each state that the controller stands for: the event that the drive asks for there is answered as it may be, the controller
-- stands for the state after it, and what follows is what the definitions say
abbrev pub Turns : List Scope → (old : CoreState) → Driving → Heard → (new : CoreState) → Type 0
Turns scopes old driving said new = (p : Plain) → CoreStands p scopes old
    → (answer : Answer) × Answers p (event_of p driving) answer
    × CoreStands (next p (event_of p driving) answer) scopes new × (heard (next p (event_of p driving) answer) driving answer ≡ said)

-- from a state on, a drive is answered within some turns, and ends so, in a state that the controller stands for
abbrev pub EndsFrom : List Scope → (turns : ℕ) → Driving → Plain → Result Driven Refusal → CoreState → Type 0
EndsFrom scopes turns driving p result new =
    Drives Answers turns (λ ended q. (ended ≡ ended_from result) × CoreStands q scopes new) driving p

-- a whole drive, from each state that the controller stands for: its events, in their order, are those of the definitions' drive, each
-- answered in the state that the one before it left, and it ends as that ends, within its turns. (A record, so that two of these
-- statements are compared part by part, and not turn by turn)
pub record DrivesFrom (scopes : List Scope) (old : CoreState) (workflow : List ℕ) (types : TypeSet) (back : Bool) (result : Result Driven Refusal) (new : CoreState) : Type 0 where
  pub each : (p : Plain) → CoreStands p scopes old → EndsFrom scopes most_turns (begins workflow types back) p result new

-- whatever run the controller had made before, it goes on with the events of a drive, which ends so, and of the whole of it the headline
-- holds, word for word
abbrev pub DriveKeepsTheHeadline : List Scope → (old : CoreState) → (workflow : List ℕ) → TypeSet → (back : Bool) → Result Driven Refusal → (new : CoreState) → Type 0
DriveKeepsTheHeadline scopes old workflow types back result new = (p : Plain) (earlier : List Event) (earlier_answers : List Answer)
    → HasRun scopes old p earlier earlier_answers
    → (events : List Event) × (answers : List Answer)
    × IsDrive (after p earlier earlier_answers) (begins workflow types back) events answers (ended_from result)
    × HasRun scopes new p (earlier ++ events) (earlier_answers ++ answers) × Headline p (earlier ++ events) (earlier_answers ++ answers)

-- a drive that is on its way, with some turns left: it fits in them, and as it ends from here, so the whole drive ends
abbrev pub IsOnItsWay : List Scope → (old : CoreState) → (start : Driving) → (left : ℕ) → Driving → (now : CoreState) → Type 0
IsOnItsWay scopes old start left driving now = (p : Plain) → CoreStands p scopes old
    → (q : Plain) × CoreStands q scopes now × Fits left q driving
    × ((result : Result Driven Refusal) (new : CoreState) → EndsFrom scopes left driving q result new → EndsFrom scopes most_turns start p result new)
