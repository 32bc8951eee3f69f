-- What comes of an event on a way: it is refused, or something is made.
use Rattle.std.proofs.Common.{◌≡◌, ◌⊎◌, inl, inr, ℕ, Bool, List, Option, None, Some, Result, Ok, Err, refl, sym, subst}
use Rattle.std.specs.Bool.{⊤}
use Rattle.std.specs.Prelude.{◌==◌}
use Rattle.mt_model.specs.declared.entries.Scope.{Scope}
use Rattle.mt_plain.specs.Answers.{Answers}
use Rattle.mt_plain.specs.Events.{Answer, Event, done, row, advanced, shown, refused, Refusal, memory, no_workflow, nothing_under_way, Way}
use Rattle.mt_plain.specs.Next.{next}
use Rattle.mt_plain.specs.Plain.{Plain, next_step}
use Rattle.mt_watch.specs.Asking.{Answering}
use Rattle.mt_workflow.specs.Workflows.{WorkflowState}
use Rattle.mt_steps.specs.declared.fault.StepFault.{StepFault}
use Rattle.mt_steps.specs.declared.log.OpenWay.{OpenWay}
use Rattle.mt_steps.specs.Faults as faults
use Rattle.mt_steps.specs.Plans.{step_at}
use Rattle.mt_steps.specs.Steps.{IsStepped, SidesState, Steps}
use Rattle.mt_steps.specs.Undo.{UndoState}
use Rattle.mt_stands.specs.Base.{workflow_at}
use Rattle.mt_stands.specs.Switching.{OrRefused, CoreDoes, StepsAt, StepsKept, StepsWay, StepsWorkflow, Undoes, UndoesAt, UndoesKept, UndoesWay, UndoesWorkflow, answer_by_step, sides_of, step_refusal, undo_refusal, with_sides}
use Rattle.mt_stands.specs.Ways.{IsCore, CoreState, CoreStands, open_at}

-- an event is refused, or done
abbrev pub Outcome : Answer → Type 0 → Type 0
Outcome answer Made = ((r : Refusal) × (answer ≡ refused r)) ⊎ ((answer ≡ done) × Made)

-- ---- what is refused, and what is done

module _ (p : Plain) (scopes : List Scope) (old new : CoreState) (stands : CoreStands p scopes old) (event : Event) where
  -- what is refused leaves the state, and the controller
  pub as_before : (answer : Answer) (r : Refusal) → answer ≡ refused r → new ≡ old → CoreStands (next p event answer) scopes new
  as_before answer r is same = subst (λ a. CoreStands (next p event a) scopes new) (sym is) (subst (CoreStands p scopes) (sym same) stands)

  pub stands_behind : (M : Type 0) (answer : Answer) → Answers p event answer → Outcome answer M → ((r : Refusal) → answer ≡ refused r → new ≡ old)
      → (Answers p event done → M → CoreStands (next p event done) scopes new) → CoreStands (next p event answer) scopes new
  stands_behind M answer given (inl (r, is)) same behind = as_before answer r is (same r is)
  stands_behind M answer given (inr (is, made)) same behind =
      subst (λ a. CoreStands (next p event a) scopes new) (sym is) (behind (subst (Answers p event) is given) made)

  module _ (refusal : Option Refusal) (grows : Bool) (made : CoreState) (behind : Answers p event done → CoreStands (next p event done) scopes made) where
    pub does : (answer : Answer) → CoreDoes old refusal grows made answer new → Answers p event answer → CoreStands (next p event answer) scopes new
    does done is given = subst (CoreStands (next p event done) scopes) (sym is.1) (behind given)
    does (row r) is given = absurd is
    does (advanced events rows) is given = absurd is
    does (shown s) is given = absurd is
    does (refused memory) is given = as_before (refused memory) memory refl is.2
    does (refused r) is given = as_before (refused r) r refl is.1

-- ---- what is made on the open way of a workflow

-- the way, what is kept of it, and what comes of the sides and of what is kept
pub record IsMade (old : CoreState) (workflow : List ℕ) (By : WorkflowState → Way → OpenWay → SidesState → UndoState → Type 0) (new : CoreState) : Type 0 where
  pub w : WorkflowState
  pub way : Way
  pub o : OpenWay
  pub sides : SidesState
  pub log : UndoState
  pub found : workflow_at old.base.workflows workflow ≡ Some w
  pub opens : w.way ≡ Some way
  pub kept : open_at old.ways.opened w.name ≡ Some o
  pub is : By w way o sides log
  pub made : new ≡ with_sides old w sides (record { number = o.number; log = log })

module _ (old : CoreState) (scopes : List Scope) (may_answer : Answering) where
  abbrev pub SteppedBy : WorkflowState → Way → OpenWay → SidesState → UndoState → Type 0
  SteppedBy w way o sides log = IsStepped scopes may_answer o.number way (step_at (next_step way)) (sides_of old w) o.log sides log

abbrev pub UndoneBy : CoreState → WorkflowState → Way → OpenWay → SidesState → UndoState → Type 0
UndoneBy old w way o sides log = Undoes (way.done == 0) way (sides_of old w) o.log sides log

module _ (old new : CoreState) (workflow : List ℕ) (at : ℕ) (answer : Answer) where
  refused_by : (M : Type 0) (r : Refusal) → answer ≡ refused r → Outcome answer M
  refused_by M r is = inl (r, is)

  module _ (scopes : List Scope) (may_answer : Answering) where
    abbrev Made : Type 0
    Made = IsMade old workflow (SteppedBy old scopes may_answer) new

    module _ (w : WorkflowState) (found : workflow_at old.base.workflows workflow ≡ Some w) (way : Way) (opens : w.way ≡ Some way) where
      by_result : (o : OpenWay) → open_at old.ways.opened w.name ≡ Some o → (result : Result ⊤ StepFault) (sides : SidesState) (log : UndoState)
          → Steps scopes may_answer o.number way (step_at (next_step way)) (sides_of old w) o.log result sides log → answer ≡ answer_by_step result
          → new ≡ with_sides old w sides (record { number = o.number; log = log }) → Outcome answer Made
      by_result o kept (Ok made) sides log is answers same =
          inr (answers, record { w = w; way = way; o = o; sides = sides; log = log; found = found; opens = opens; kept = kept; is = is; made = same })
      by_result o kept (Err f) sides log is answers same = refused_by Made (faults.refusal_of f) answers

      by_kept : (k : Option OpenWay) → open_at old.ways.opened w.name ≡ k → StepsKept k old scopes may_answer w way answer new → Outcome answer Made
      by_kept None kept is = absurd is
      by_kept (Some o) kept is = by_result o kept is.0 is.1 is.2 is.3 is.4 is.5

      by_test : (t : Option Refusal) → OrRefused t old answer new (StepsKept (open_at old.ways.opened w.name) old scopes may_answer w way answer new) → Outcome answer Made
      by_test None is = by_kept (open_at old.ways.opened w.name) refl is
      by_test (Some r) is = refused_by Made r is.0

    by_way : (w : WorkflowState) → workflow_at old.base.workflows workflow ≡ Some w → (o : Option Way) → w.way ≡ o → StepsWay o old scopes may_answer w at answer new → Outcome answer Made
    by_way w found None opens is = refused_by Made nothing_under_way is.0
    by_way w found (Some way) opens is = by_test w found way opens (step_refusal at way) is

    pub step_outcome : StepsWorkflow old scopes may_answer workflow at answer new → Outcome answer (IsMade old workflow (SteppedBy old scopes may_answer) new)
    step_outcome = by (workflow_at old.base.workflows workflow) refl
      where
        by : (o : Option WorkflowState) → workflow_at old.base.workflows workflow ≡ o → StepsAt o old scopes may_answer at answer new → Outcome answer Made
        by None found is = refused_by Made no_workflow is.0
        by (Some w) found is = by_way w found w.way refl is

  abbrev MadeByUndo : Type 0
  MadeByUndo = IsMade old workflow (UndoneBy old) new

  module _ (w : WorkflowState) (found : workflow_at old.base.workflows workflow ≡ Some w) (way : Way) (opens : w.way ≡ Some way) where
    undo_by_kept : (k : Option OpenWay) → open_at old.ways.opened w.name ≡ k → UndoesKept k old w way answer new → Outcome answer MadeByUndo
    undo_by_kept None kept is = absurd is
    undo_by_kept (Some o) kept is =
        inr (is.3, record { w = w; way = way; o = o; sides = is.0; log = is.1; found = found; opens = opens; kept = kept; is = is.2; made = is.4 })

    undo_by_test : (t : Option Refusal) → OrRefused t old answer new (UndoesKept (open_at old.ways.opened w.name) old w way answer new) → Outcome answer MadeByUndo
    undo_by_test None is = undo_by_kept (open_at old.ways.opened w.name) refl is
    undo_by_test (Some r) is = refused_by MadeByUndo r is.0

  undo_by_way : (w : WorkflowState) → workflow_at old.base.workflows workflow ≡ Some w → (o : Option Way) → w.way ≡ o → UndoesWay o old w at answer new → Outcome answer MadeByUndo
  undo_by_way w found None opens is = refused_by MadeByUndo nothing_under_way is.0
  undo_by_way w found (Some way) opens is = undo_by_test w found way opens (undo_refusal at way) is

  pub undo_outcome : UndoesWorkflow old workflow at answer new → Outcome answer (IsMade old workflow (UndoneBy old) new)
  undo_outcome = by (workflow_at old.base.workflows workflow) refl
    where
      by : (o : Option WorkflowState) → workflow_at old.base.workflows workflow ≡ o → UndoesAt o old at answer new → Outcome answer MadeByUndo
      by None found is = refused_by MadeByUndo no_workflow is.0
      by (Some w) found is = undo_by_way w found w.way refl is

-- ---- a state of the controller

pub leaves_a_core : (old new : CoreState) (M : Type 0) (answer : Answer) → Outcome answer M → ((r : Refusal) → answer ≡ refused r → IsCore new) → (answer ≡ done → M → IsCore new) → IsCore new
leaves_a_core old new M answer (inl (r, is)) same behind = same r is
leaves_a_core old new M answer (inr (is, made)) same behind = behind is made
