-- What it is that an event was taken (this profile's own).
use Rattle.std.specs.Prelude.{◌≡◌, ◌++◌, ◌∷◌, [], ℕ, List, Result, Ok, IfOk}
use Rattle.mt_event.specs.declared.event.Event.{Event}
use Rattle.mt_event.specs.declared.refusal.Refusal.{Refusal}
use Rattle.mt_event.specs.declared.reply.Reply.{Reply}
use Rattle.mt_event.specs.declared.reply.Reply.TheVariants.{Done}
use Rattle.mt_event.specs.Events.{event_of}
use Rattle.mt_model.specs.declared.entries.Scope.{Scope}
use Rattle.mt_site.specs.GivenUp.{CanBeGivenUp}
use Rattle.mt_stands.specs.Ways.{CoreState}
use Rattle.mt_desk.specs.declared.fault.DeskFault.{DeskFault}
use Rattle.mt_desk.specs.declared.history.Line.{Line}
use Rattle.mt_desk.specs.Histories.{Leads, line}

-- there was a history, legal from each state that the controller stood for at the opening, which led to a core; with the line of a client's event and
-- its answer it is still legal; and where the event can give a move up as that core stands, it was done
abbrev pub IsTaken : List Scope → (opening : CoreState) → (client : ℕ) → Event → Result (Result Reply Refusal) DeskFault → Type 0
IsTaken scopes opening client event result = ∥ ((lines : List Line) × (now : CoreState) × Leads scopes opening lines now
    × IfOk result (λ answer. (later : CoreState) × Leads scopes opening (lines ++ line client event answer ∷ []) later)
    × (CanBeGivenUp now (event_of event) → result ≡ Ok (Ok Done))) ∥₁
