-- The headline, said of the controller (this profile's own).
use Rattle.std.specs.Prelude.{List, ◌++◌}
use Rattle.mt_laws.specs.Headline.{Headline}
use Rattle.mt_laws.specs.WayBack.{IsReached}
use Rattle.mt_model.specs.declared.entries.Scope.{Scope}
use Rattle.mt_plain.specs.Answers.{Run, after}
use Rattle.mt_plain.specs.Events.{Answer, Event}
use Rattle.mt_plain.specs.Plain.{Plain}
use Rattle.mt_stands.specs.Ways.{CoreStands, CoreState}

-- a run that the controller has made: it begins in a state that is reached, and the controller stands for the state after it
pub record HasRun (scopes : List Scope) (s : CoreState) (p : Plain) (events : List Event) (answers : List Answer) : Type 0 where
  pub reached : IsReached p
  pub run : Run p events answers
  pub stands : CoreStands (after p events answers) scopes s

-- some events were asked for, and answered so: whatever run the controller had made before, it goes on with them, and of the whole of it
-- the headline holds, word for word
abbrev pub KeepsTheHeadline : List Scope → (old : CoreState) → List Event → List Answer → (new : CoreState) → Type 0
KeepsTheHeadline scopes old events answers new = (p : Plain) (earlier : List Event) (earlier_answers : List Answer)
    → HasRun scopes old p earlier earlier_answers
    → HasRun scopes new p (earlier ++ events) (earlier_answers ++ answers) × Headline p (earlier ++ events) (earlier_answers ++ answers)
