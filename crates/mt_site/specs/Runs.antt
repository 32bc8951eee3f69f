-- What some events, one after the other, make of the controller (this profile's own).
use Rattle.std.specs.Prelude.{List, map, Result}
use Rattle.mt_event.specs.declared.event.Event.{Event}
use Rattle.mt_event.specs.declared.refusal.Refusal.{Refusal}
use Rattle.mt_event.specs.declared.reply.Reply.{Reply}
use Rattle.mt_event.specs.Events.{answer_from, event_of}
use Rattle.mt_model.specs.declared.entries.Scope.{Scope}
use Rattle.mt_plain.specs.Answers.{Run, after}
use Rattle.mt_plain.specs.Plain.{Plain}
use Rattle.mt_stands.specs.Ways.{CoreStands, CoreState}

-- they are a run, with what each was answered, from each state that it stands for, and it then stands for the state after it
abbrev pub Runs : List Scope → CoreState → List Event → List (Result Reply Refusal) → CoreState → Type 0
Runs scopes old events results new = (p : Plain) → CoreStands p scopes old
    → Run p (map event_of events) (map answer_from results)
    × CoreStands (after p (map event_of events) (map answer_from results)) scopes new
