-- A history that leads on.
use Rattle.std.proofs.Common.{◌≡◌, ℕ, List, [], ◌∷◌, ◌++◌, IfOk, Result, Ok, Err, refl, sym, subst}
use Rattle.std.proofs.Math.Logic.{∥∥₁_elim, ∥∥₁_map}
use Rattle.mt_laws.specs.Headline.{Headline}
use Rattle.mt_laws.specs.WayBack.{IsReached}
use Rattle.mt_event.specs.declared.event.Event.{Event}
use Rattle.mt_event.specs.declared.refusal.Refusal.{Refusal}
use Rattle.mt_event.specs.declared.reply.Reply.{Reply}
use Rattle.mt_event.specs.declared.reply.Reply.TheVariants.{Done}
use Rattle.mt_event.specs.Events.{answer_from, event_of}
use Rattle.mt_model.specs.declared.entries.Scope.{Scope}
use Rattle.mt_plain.specs.Answers.{Answers, IsLegal, Run, after}
use Rattle.mt_plain.specs.Events as plain
use Rattle.mt_plain.specs.Next.{next}
use Rattle.mt_plain.specs.Plain.{Plain}
use Rattle.mt_watch.specs.Asking.{Answering}
use Rattle.mt_site.specs.Applied.{Applied}
use Rattle.mt_site.specs.GivenUp.{CanBeGivenUp}
use Rattle.mt_site.specs.Stood.{IsCoreWith}
use Rattle.mt_stands.specs.Purges.{IsPurged}
use Rattle.mt_stands.specs.Ways.{CoreStands, CoreState, CoreSteps}
use Rattle.mt_desk.specs.declared.fault.DeskFault.{DeskFault}
use Rattle.mt_desk.specs.declared.history.Line.{Line}
use Rattle.mt_desk.specs.Histories.{Leads, StaysPurged, answered, asked, history_from, line}
use Rattle.mt_desk.specs.Taken.{IsTaken}

-- no line leads nowhere
pub leads_nowhere : (scopes : List Scope) (s : CoreState) → IsCoreWith scopes s → Leads scopes s [] s
leads_nowhere scopes s stood = record { stood = stood; each = λ p stands. (tt, stands) }

-- a legal history goes on with one line more
more : (lines : List Line) (p : Plain) (l : Line) → IsLegal p (history_from lines)
    → Answers (after p (asked lines) (answered lines)) (event_of l.event) (answer_from l.answer)
    → IsLegal p (history_from (lines ++ l ∷ []))
    × (after p (asked (lines ++ l ∷ [])) (answered (lines ++ l ∷ [])) ≡ next (after p (asked lines) (answered lines)) (event_of l.event) (answer_from l.answer))
more [] p l legal given = ((given, tt), refl)
more (x ∷ lines) p l legal given =
    let r = more lines (next p (event_of x.event) (answer_from x.answer)) l legal.1 given in
    ((legal.0, r.0), r.1)

pub leads_more : (scopes : List Scope) (opening now later : CoreState) (lines : List Line) (l : Line) → Leads scopes opening lines now
    → CoreSteps scopes now (event_of l.event) (answer_from l.answer) later → Leads scopes opening (lines ++ l ∷ []) later
leads_more scopes opening now later lines l leads step = record {
  stood = leads.stood;
  each = λ p stands.
      let was = leads.each p stands in
      let stepped = step (after p (asked lines) (answered lines)) was.1 in
      let r = more lines p l was.0 stepped.0 in
      (r.0, subst (λ q. CoreStands q scopes later) (sym r.1) stepped.1);
}

-- there is a state that the controller stands for now
pub stands_now : (scopes : List Scope) (opening now : CoreState) (lines : List Line) → ∥ Leads scopes opening lines now ∥₁ → IsCoreWith scopes now
stands_now scopes opening now lines leads =
    ∥∥₁_elim leads (hlevel) (λ l. ∥∥₁_map l.stood (λ (p, stands). (after p (asked lines) (answered lines), (l.each p stands).1)))

-- of a history that leads on the headline holds
pub headline_holds : (scopes : List Scope) (opening now : CoreState) (lines : List Line)
    → ((p : Plain) (events : List plain.Event) (answers : List plain.Answer) → IsReached p → Run p events answers → Headline p events answers)
    → ∥ Leads scopes opening lines now ∥₁ → (p : Plain) → CoreStands p scopes opening → ∥ Headline p (asked lines) (answered lines) ∥₁
headline_holds scopes opening now lines law leads p stands =
    ∥∥₁_elim leads (hlevel) (λ l. ∣ law p (asked lines) (answered lines) stands.base.reached (l.each p stands).0 ∣₁)

-- the same, kept
pub kept_nowhere : (scopes : List Scope) (opening s : CoreState) → s ≡ opening → IsCoreWith scopes s → ∥ Leads scopes opening [] s ∥₁
kept_nowhere scopes opening s is stood = ∣ subst (λ o. Leads scopes o [] s) is (leads_nowhere scopes s stood) ∣₁

pub kept_more : (scopes : List Scope) (opening now later : CoreState) (lines : List Line) (client : ℕ) (event : Event) (answer : Result Reply Refusal)
    → ∥ Leads scopes opening lines now ∥₁ → CoreSteps scopes now (event_of event) (answer_from answer) later
    → ∥ Leads scopes opening (lines ++ line client event answer ∷ []) later ∥₁
kept_more scopes opening now later lines client event answer leads step =
    ∥∥₁_elim leads (hlevel) (λ l. ∣ leads_more scopes opening now later lines (line client event answer) l step ∣₁)

-- what an event is answered by a core that a history leads to: with its line the history is still legal
with_its_line : (scopes : List Scope) (opening now later : CoreState) (lines : List Line) (client : ℕ) (event : Event) (result : Result (Result Reply Refusal) DeskFault)
    → Leads scopes opening lines now → IfOk result (λ r. CoreSteps scopes now (event_of event) (answer_from r) later)
    → IfOk result (λ answer. (then : CoreState) × Leads scopes opening (lines ++ line client event answer ∷ []) then)
with_its_line scopes opening now later lines client event (Ok answer) leads steps = (later, leads_more scopes opening now later lines (line client event answer) leads steps)
with_its_line scopes opening now later lines client event (Err fault) leads steps = steps

-- what is answered steps, with the scopes of the watchers
pub step_of : (scopes its : List Scope) (may_answer : Answering) (now later : CoreState) (event : plain.Event) (result : Result (Result Reply Refusal) DeskFault) → its ≡ scopes
    → IfOk result (λ r. Applied its may_answer now event (answer_from r) later) → IfOk result (λ r. CoreSteps scopes now event (answer_from r) later)
step_of scopes its may_answer now later event (Ok r) same applied = subst (λ s. CoreSteps s now event (answer_from r) later) same applied.steps
step_of scopes its may_answer now later event (Err fault) same applied = tt

pub taken : (scopes : List Scope) (opening now later : CoreState) (lines : List Line) (client : ℕ) (event : Event) (result : Result (Result Reply Refusal) DeskFault)
    → ∥ Leads scopes opening lines now ∥₁ → IfOk result (λ r. CoreSteps scopes now (event_of event) (answer_from r) later)
    → (CanBeGivenUp now (event_of event) → result ≡ Ok (Ok Done)) → IsTaken scopes opening client event result
taken scopes opening now later lines client event result kept steps given =
    ∥∥₁_map kept (λ leads. (lines, now, leads, with_its_line scopes opening now later lines client event result leads steps, given))

-- ---- bounded logs

pub purged_opened : (opening core : CoreState) → core ≡ opening → ∥ StaysPurged opening core ∥₁
purged_opened opening core is = ∣ (λ was. subst (λ (s : CoreState). IsPurged s.base) (sym is) was) ∣₁

pub purged_more : (opening now later : CoreState) → ∥ StaysPurged opening now ∥₁ → (IsPurged now.base → IsPurged later.base) → ∥ StaysPurged opening later ∥₁
purged_more opening now later was step = ∥∥₁_map was (λ stays opened. step (stays opened))
