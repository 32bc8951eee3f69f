-- There is a place for each event that is owed.
use Rattle.std.proofs.Common.{◌≡◌, ℕ, ◌+◌, ◌<◌, ◌≤◌, Bool, true, false, not, List, [], ◌∷◌, Option, None, Some, is_some, refl, sym, ap, ◌∙◌, subst, arith}
use Rattle.std.proofs.Math.Logic.{∥∥₁_elim}
use Rattle.std.proofs.Props.{props}
use Rattle.std.proofs.lemmas.Bool.{true≢false, and_parts}
use Rattle.std.proofs.lemmas.List.Sums.{sum_by-cons}
use Rattle.std.specs.Option.{option_map_or}
use Rattle.std.specs.Prelude.{◌==◌, ◌&&◌, ◌||◌}
use Rattle.mt_laws.specs.WayBack.{IsReached}
use Rattle.mt_model.specs.declared.entries.Scope.{Scope}
use Rattle.mt_plain.specs.Answers.{Answers}
use Rattle.mt_plain.specs.Events.{Answer, Event, Way, cancel, done, undo}
use Rattle.mt_plain.specs.Next.{next}
use Rattle.mt_plain.specs.Plain.{Plain, stands_done, write_journal}
use Rattle.mt_plain.specs.Refuse.{owed, owed_by}
use Rattle.mt_workflow.specs.Workflows.{WorkflowState, live_of}
use Rattle.mt_site.specs.GivenUp.{CanBeGivenUp}
use Rattle.mt_site.specs.Owed.{owed_to}
use Rattle.mt_site.specs.Stood.{IsCoreWith}
use Rattle.mt_stands.specs.Base.{BaseState, Workflows, workflow_at}
use Rattle.mt_stands.specs.Stands.{StandsWith}
use Rattle.mt_stands.specs.Ways.{CoreStands, CoreState, CoreSteps}
use Rattle.mt_desk.specs.Room.{HasRoom, can_cancel, can_undo, gives_up}
use Rattle.mt_laws.proofs.OwedLemmas.{at_least_one}

-- ---- what gives a move up

-- it is found to do so
pub found_to : (s : CoreState) (e : Event) → CanBeGivenUp s e → gives_up s e ≡ true
found_to s (undo workflow at) (w, way, found, on, before, right) =
    ap (λ o. option_map_or (λ v. option_map_or (can_undo at) v.way false) o false) found
    ∙ ap (λ o. option_map_or (can_undo at) o false) on
    ∙ ap (λ b. not b && (at == way.done)) before
    ∙ right
found_to s (cancel workflow) (w, found, rests, none) =
    ap (λ o. option_map_or can_cancel o false) found
    ∙ ap (λ (o : Option Way). not (is_some o) && not (w.switched.primary || w.switched.replica || w.switched.rdonly)) rests
    ∙ ap not none
found_to s other can = absurd can

-- and nothing else is
from_not : (b : Bool) → not b ≡ true → b ≡ false
from_not true e = absurd (true≢false (sym e))
from_not false e = refl

none_there : (o : Option Way) → not (is_some o) ≡ true → o ≡ None
none_there None e = refl
none_there (Some way) e = absurd (true≢false (sym e))

pub can_from : (s : CoreState) (e : Event) → gives_up s e ≡ true → CanBeGivenUp s e
can_from s (undo workflow at) is = by (workflow_at s.base.workflows workflow) refl is
  where
    of_way : (w : WorkflowState) → workflow_at s.base.workflows workflow ≡ Some w → (o : Option Way) → w.way ≡ o → option_map_or (can_undo at) o false ≡ true → CanBeGivenUp s (undo workflow at)
    of_way w found None on is = absurd (true≢false (sym is))
    of_way w found (Some way) on is =
        let parts = and_parts (not (stands_done way write_journal)) (at == way.done) is in
        (w, way, found, on, from_not (stands_done way write_journal) parts.0, parts.1)

    by : (o : Option WorkflowState) → workflow_at s.base.workflows workflow ≡ o → option_map_or (λ v. option_map_or (can_undo at) v.way false) o false ≡ true → CanBeGivenUp s (undo workflow at)
    by None found is = absurd (true≢false (sym is))
    by (Some w) found is = of_way w found w.way refl is
can_from s (cancel workflow) is = by (workflow_at s.base.workflows workflow) refl is
  where
    by : (o : Option WorkflowState) → workflow_at s.base.workflows workflow ≡ o → option_map_or can_cancel o false ≡ true → CanBeGivenUp s (cancel workflow)
    by None found is = absurd (true≢false (sym is))
    by (Some w) found is =
        let parts = and_parts (not (is_some w.way)) (not (w.switched.primary || w.switched.replica || w.switched.rdonly)) is in
        (w, found, none_there w.way parts.0, from_not (w.switched.primary || w.switched.replica || w.switched.rdonly) parts.1)
can_from s other is = absurd (true≢false (sym is))

-- ---- what is owed where a move can be given up

one_is_owed : (ws : Workflows) (name : List ℕ) (w : WorkflowState) → workflow_at ws name ≡ Some w → 1 ≤ owed_to ws
one_is_owed [] name w found = absurd cc
one_is_owed (x ∷ ws) name w found = let a = sum_by-cons (λ (y : List ℕ × WorkflowState). owed_by (live_of y.1)) x ws in let b = at_least_one (live_of x.1) in omega (arith, a, b)

something_owed : (s : CoreState) (e : Event) → CanBeGivenUp s e → 1 ≤ owed_to s.base.workflows
something_owed s (undo workflow at) (w, way, found, on, before, right) = one_is_owed s.base.workflows workflow w found
something_owed s (cancel workflow) (w, found, rests, none) = one_is_owed s.base.workflows workflow w found
something_owed s other can = absurd can

-- so there is a place for its line
pub finds_place : (now : CoreState) (lines places : ℕ) → HasRoom lines now places → (e : Event) → CanBeGivenUp now e → lines < places
finds_place now lines places room e can = let b = something_owed now e can in omega (arith, room, b)

-- ---- what is owed behind an event

-- the laws on it
pub record Owing : Type 0 where
  pub undone : (p : Plain) → IsReached p → (name : List ℕ) (at : ℕ) → Answers p (undo name at) done → owed (next p (undo name at) done) + 1 ≤ owed p
  pub cancelled : (p : Plain) → IsReached p → (name : List ℕ) → Answers p (cancel name) done → owed (next p (cancel name) done) + 1 ≤ owed p
  pub any : (p : Plain) → IsReached p → (event : Event) (answer : Answer) → Answers p event answer → owed (next p event answer) ≤ owed p + 1
  pub same : (scopes : List Scope) (p : Plain) (core : BaseState) → StandsWith p scopes core → owed_to core.workflows ≡ owed p

owes_less : (laws : Owing) (s : CoreState) (p : Plain) → IsReached p → (e : Event) → CanBeGivenUp s e → Answers p e done → owed (next p e done) + 1 ≤ owed p
owes_less laws s p reached (undo workflow at) can given = laws.undone p reached workflow at given
owes_less laws s p reached (cancel workflow) can given = laws.cancelled p reached workflow given
owes_less laws s p reached other can given = absurd can

module _ (laws : Owing) (scopes : List Scope) (now later : CoreState) (stood : IsCoreWith scopes now) where
  module _ (event : Event) (answer : Answer) (step : CoreSteps scopes now event answer later) where
    -- behind any event
    behind : (q : Plain) → CoreStands q scopes now → owed_to later.base.workflows ≤ owed_to now.base.workflows + 1
    behind q was =
        let stepped = step q was in
        let grows = laws.any q was.base.reached event answer stepped.0 in
        let a = laws.same scopes q now.base was.base in
        let b = laws.same scopes (next q event answer) later.base stepped.1.base in
        omega (arith, grows, a, b)

    pub room_behind : (n places : ℕ) → n + owed_to now.base.workflows + 2 ≤ places → HasRoom (n + 1) later places
    room_behind n places room = ∥∥₁_elim stood (hlevel props) (λ (q, was). let b = behind q was in omega (arith, b, room))

  module _ (event : Event) (step : CoreSteps scopes now event done later) (can : CanBeGivenUp now event) where
    -- behind one that gives a move up
    behind_given_up : (q : Plain) → CoreStands q scopes now → owed_to later.base.workflows + 1 ≤ owed_to now.base.workflows
    behind_given_up q was =
        let stepped = step q was in
        let less = owes_less laws now q was.base.reached event can stepped.0 in
        let a = laws.same scopes q now.base was.base in
        let b = laws.same scopes (next q event done) later.base stepped.1.base in
        omega (arith, less, a, b)

    pub room_given_up : (n places : ℕ) → HasRoom n now places → HasRoom (n + 1) later places
    room_given_up n places room = ∥∥₁_elim stood (hlevel props) (λ (q, was). let b = behind_given_up q was in omega (arith, b, room))

-- the same with more places
pub with_more_places : (now : CoreState) (lines places more : ℕ) → places ≤ more → HasRoom lines now places → HasRoom lines now more
with_more_places now lines places more le room = omega (arith, room, le)

-- behind an event for which the places were made
pub room_taken : (laws : Owing) (scopes : List Scope) (now later : CoreState) → IsCoreWith scopes now → (event : Event) (answer : Answer)
    → CoreSteps scopes now event answer later → (CanBeGivenUp now event → answer ≡ done) → (n places more : ℕ) → HasRoom n now places → places ≤ more
    → (gives_up now event ≡ false → n + owed_to now.base.workflows + 2 ≤ more) → HasRoom (n + 1) later more
room_taken laws scopes now later stood event answer step is_done n places more room le others = by (gives_up now event) refl
  where
    by : (b : Bool) → gives_up now event ≡ b → HasRoom (n + 1) later more
    by true is =
        let can = can_from now event is in
        room_given_up laws scopes now later stood event (subst (λ a. CoreSteps scopes now event a later) (is_done can) step) can n more (with_more_places now n places more le room)
    by false is = room_behind laws scopes now later stood event answer step n more (others is)
