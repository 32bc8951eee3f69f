-- What is told of what the controller is asked for, as an answer (this profile's own).
use Rattle.std.specs.Prelude.{ℕ, Bool, true, false, List, Result}
use Rattle.mt_event.specs.declared.ask.Ask.{Ask}
use Rattle.mt_event.specs.declared.ask.Ask.TheVariants as ask
use Rattle.mt_event.specs.declared.ask.Verb.{Verb}
use Rattle.mt_event.specs.declared.ask.Verb.TheVariants as verb
use Rattle.mt_event.specs.declared.reason.Reason.{Reason}
use Rattle.mt_event.specs.declared.refusal.Refusal.{Refusal}
use Rattle.mt_event.specs.declared.reply.Told.{Told}
use Rattle.mt_event.specs.Asks.{answer_told, answer_told_by}
use Rattle.mt_plain.specs.Events.{Answer, done}
use Rattle.mt_stands.specs.Base.{workflow_at}
use Rattle.mt_stands.specs.Ways.{CoreState}
use Rattle.mt_stands.specs.Workflows.{show_at}

-- what a Show tells stands in the core; of all else it is told that it is done
abbrev pub shown_on : CoreState → (workflow : List ℕ) → Verb → Answer
shown_on s workflow verb.Show = show_at (workflow_at s.base.workflows workflow)
shown_on s workflow other = done

abbrev pub shown_in : CoreState → Ask → Answer
shown_in s (ask.On workflow what) = shown_on s workflow.now what
shown_in s other = done

-- the answer, by the core after it
abbrev pub answer_of : CoreState → Ask → Result Told Refusal → Answer
answer_of s asked result = answer_told (shown_in s asked) result

-- that of a workflow
abbrev pub answer_on : CoreState → (workflow : List ℕ) → Verb → Result Told Reason → Answer
answer_on s workflow what result = answer_told_by (shown_on s workflow what) result

-- a keyspace, a table or a rule is edited by hand, or a workflow created
abbrev pub asks_by_hand : Ask → Bool
asks_by_hand (ask.Write keyspace table op) = false
asks_by_hand (ask.Read keyspace table key type_of) = false
asks_by_hand (ask.On workflow what) = false
asks_by_hand other = true

-- all but a Show may change a workflow
abbrev pub may_change : Verb → Bool
may_change verb.Show = false
may_change other = true
