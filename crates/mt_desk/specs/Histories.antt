-- The history of a desk, in the words of the definitions (this profile's own).
use Rattle.std.specs.Prelude.{ℕ, ◌==◌, List, filter, map, Result}
use Rattle.mt_event.specs.declared.event.Event.{Event}
use Rattle.mt_event.specs.declared.refusal.Refusal.{Refusal}
use Rattle.mt_event.specs.declared.reply.Reply.{Reply}
use Rattle.mt_event.specs.Events.{answer_from, event_of}
use Rattle.mt_model.specs.declared.entries.Scope.{Scope}
use Rattle.mt_plain.specs.Answers.{History, HistoryLine, IsLegal, after}
use Rattle.mt_plain.specs.Events as plain
use Rattle.mt_plain.specs.Plain.{Plain}
use Rattle.mt_site.specs.Stood.{IsCoreWith}
use Rattle.mt_stands.specs.Purges.{IsPurged}
use Rattle.mt_stands.specs.Ways.{CoreStands, CoreState}
use Rattle.mt_desk.specs.declared.history.Call.{Call}
use Rattle.mt_desk.specs.declared.history.Line.{Line}

-- a call, from its event and its answer
abbrev pub call : Event → Result Reply Refusal → Call
call event answer = record { event = event; answer = answer }

-- a line, from its client, its event and its answer
abbrev pub line : ℕ → Event → Result Reply Refusal → Line
line client event answer = record { client = client; event = event; answer = answer }

-- the call of a line
abbrev pub call_of : Line → Call
call_of l = call l.event l.answer

-- the calls of a client, in their order
abbrev pub calls_of : (client : ℕ) → List Line → List Call
calls_of client lines = map call_of (filter (λ l. l.client == client) lines)

-- ---- in the words of the definitions

abbrev pub line_from : Line → HistoryLine
line_from l = record { client = l.client; event = event_of l.event; answer = answer_from l.answer }

abbrev pub history_from : List Line → History
history_from lines = map line_from lines

-- the events of a history, and their answers
abbrev pub asked : List Line → List plain.Event
asked lines = map (λ l. l.event) (history_from lines)

abbrev pub answered : List Line → List plain.Answer
answered lines = map (λ l. l.answer) (history_from lines)

-- there is a state that the controller stood for at the opening; and from each such state a history is legal, and leads to one that it
-- stands for now
pub record Leads (scopes : List Scope) (opening : CoreState) (lines : List Line) (now : CoreState) : Type 0 where
  pub stood : IsCoreWith scopes opening
  pub each : (p : Plain) → CoreStands p scopes opening
      → IsLegal p (history_from lines) × CoreStands (after p (asked lines) (answered lines)) scopes now

-- if no log kept a segment that nobody needs at the opening, none does now
abbrev pub StaysPurged : (opening now : CoreState) → Type 0
StaysPurged opening now = IsPurged opening.base → IsPurged now.base
