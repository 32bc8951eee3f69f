-- That the controller stands for a state, as events are applied.
use Rattle.std.proofs.Common.{List, map, Result}
use Rattle.std.proofs.Math.Logic.{∥∥₁_map}
use Rattle.mt_event.specs.declared.event.Event as code
use Rattle.mt_event.specs.declared.refusal.Refusal.{Refusal}
use Rattle.mt_event.specs.declared.reply.Reply.{Reply}
use Rattle.mt_event.specs.Events.{answer_from, event_of}
use Rattle.mt_model.specs.declared.entries.Scope.{Scope}
use Rattle.mt_plain.specs.Answers.{after}
use Rattle.mt_plain.specs.Events.{Answer, Event}
use Rattle.mt_plain.specs.Next.{next}
use Rattle.mt_stands.specs.Ways.{CoreState, CoreSteps}
use Rattle.mt_site.specs.Runs.{Runs}
use Rattle.mt_site.specs.Stood.{IsCoreWith, StaysCore}

pub stood_next : (scopes : List Scope) (old new : CoreState) (event : Event) (answer : Answer) → CoreSteps scopes old event answer new
    → IsCoreWith scopes old → IsCoreWith scopes new
stood_next scopes old new event answer steps stood = ∥∥₁_map stood (λ (p, stands). (next p event answer, (steps p stands).1))

-- the same of events, one after the other
pub stood_behind : (scopes : List Scope) (old new : CoreState) (events : List code.Event) (answers : List (Result Reply Refusal)) → Runs scopes old events answers new
    → IsCoreWith scopes old → IsCoreWith scopes new
stood_behind scopes old new events answers runs stood =
    ∥∥₁_map stood (λ (p, stands). (after p (map event_of events) (map answer_from answers), (runs p stands).1))

-- a core that stays one, and then does so again
pub stays_further : (scopes : List Scope) (old now new : CoreState) → StaysCore scopes old now → StaysCore scopes now new → StaysCore scopes old new
stays_further scopes old now new before behind = (λ stood. behind.0 (before.0 stood), λ was. behind.1 (before.1 was))
