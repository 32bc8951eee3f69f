-- What a step, and an undo, of a workflow's way make of the controller.
use Rattle.std.proofs.Common.{◌≡◌, ℕ, Bool, true, false, List, [], ◌∷◌, Option, None, Some, Result, subst, refl, sym, ap, ◌∙◌}
use Rattle.std.proofs.lemmas.Map.Steps.{set_value_same}
use Rattle.std.specs.Map.{remove_entry, set_value}
use Rattle.std.specs.Prelude.{⊤}
use Rattle.mt_names.specs.Names.{same_text}
use Rattle.mt_model.specs.declared.entries.Scope.{Scope}
use Rattle.mt_model.specs.Topology.{TopologyState}
use Rattle.mt_journal.specs.declared.entry.JournalEntry.{JournalEntry}
use Rattle.mt_plain.specs.Events.{Answer, Refusal, Way, done, nothing_under_way, refused}
use Rattle.mt_steps.specs.declared.fault.StepFault.{StepFault}
use Rattle.mt_steps.specs.declared.log.OpenWay.{OpenWay}
use Rattle.mt_steps.specs.Steps.{SidesState}
use Rattle.mt_watch.specs.Asking.{Answering}
use Rattle.mt_workflow.specs.Workflows.{WorkflowState}
use Rattle.mt_primary.specs.Primaries.{Primaries}
use Rattle.mt_stands.specs.Base.{Workflows, workflow_at}
use Rattle.mt_stands.specs.Switching.{OrRefused, StepsAt, StepsKept, StepsOn, StepsWay, StepsWorkflow, UndoesAt, UndoesKept, UndoesOn, UndoesWay, UndoesWorkflow, answer_by_step, open_after, step_refusal, undo_refusal, with_primaries, with_sides}
use Rattle.mt_stands.specs.Ways.{OpenWays, CoreState, open_at}
use Rattle.mt_moves.specs.Ways.{CanStep, IsUnderWay, StepsBetween, UndoesBetween, left_open}

-- ---- what stands under way

-- the workflow with what is kept of its way
pub under-way : (t : TopologyState) (primaries : Primaries) (workflows : Workflows) (journal : List JournalEntry) (opened : OpenWays) (name : List ℕ) (w : WorkflowState) (way : Way) (o : OpenWay)
    → CanStep t primaries workflows journal opened name → workflow_at workflows name ≡ Some w → w.way ≡ Some way → open_at opened name ≡ Some o
    → IsUnderWay t primaries journal w.name w way o
under-way t primaries workflows journal opened name w way o can found has_way kept =
    let stands = can.each w way o found has_way kept in
    subst (λ n. IsUnderWay t primaries journal n w way o) (sym stands.named) stands

-- ---- what becomes of the whole

-- what is removed may be another value
remove-set : (test : List ℕ → Bool) (opened : OpenWays) (o : OpenWay) → remove_entry test (set_value test opened o) ≡ remove_entry test opened
remove-set test [] o = refl
remove-set test (e ∷ es) o = by (remove-set test es o) (test e.0) refl
  where
    by : remove_entry test (set_value test es o) ≡ remove_entry test es → (b : Bool) → test e.0 ≡ b → remove_entry test (set_value test (e ∷ es) o) ≡ remove_entry test (e ∷ es)
    by again true b = rw (b, b) refl
    by again false b = rw (b, b) (ap (λ l. e ∷ l) again)

-- the record that is kept behind a step
open-after : (opened : OpenWays) (name : List ℕ) (o : OpenWay) (way : Option Way) → left_open (set_value (same_text name) opened o) name way ≡ open_after opened name o way
open-after opened name o None = remove-set (same_text name) opened o
open-after opened name o (Some way) = refl

-- nothing changed
pub kept-whole : (old : CoreState) (name : List ℕ) (w : WorkflowState) (later : Workflows) → workflow_at old.base.workflows name ≡ Some w → later ≡ set_value (same_text name) old.base.workflows w
    → record { base = record { topology = old.base.topology; primaries = old.base.primaries; workflows = later }; ways = old.ways } ≡ old
kept-whole old name w later found is =
    ap (λ ws. record { base = record { topology = old.base.topology; primaries = old.base.primaries; workflows = ws }; ways = old.ways }) (is ∙ set_value_same (same_text name) old.base.workflows w found)

-- each part is in its place
whole : (old : CoreState) (name : List ℕ) (w new_w : WorkflowState) (o new_o : OpenWay) (sides : SidesState) (new_t : TopologyState) (new_primaries : Primaries) (later : Workflows) (meanwhile opened : OpenWays) (left : Option Way) (new_journal : List JournalEntry)
    → w.name ≡ name → new_t ≡ sides.topology → new_primaries ≡ with_primaries old.base.primaries w sides.source sides.targets → new_w ≡ sides.workflow → new_journal ≡ sides.journal → new_o ≡ o
    → later ≡ set_value (same_text name) old.base.workflows new_w → meanwhile ≡ set_value (same_text name) old.ways.opened new_o → left ≡ new_w.way → opened ≡ left_open meanwhile name left
    → record { base = record { topology = new_t; primaries = new_primaries; workflows = later }; ways = record { opened = opened; journal = new_journal; begun = old.ways.begun } } ≡ with_sides old w sides o
whole old name w new_w o new_o sides new_t new_primaries later meanwhile opened left new_journal named topology primaries workflow journal kept set put closes is =
    let made : TopologyState → Primaries → Workflows → OpenWays → List JournalEntry → CoreState =
    λ t ps ws os js. record { base = record { topology = t; primaries = ps; workflows = ws }; ways = record { opened = os; journal = js; begun = old.ways.begun } } in
    let workflows : later ≡ set_value (same_text w.name) old.base.workflows sides.workflow =
    set ∙ ap (set_value (same_text name) old.base.workflows) workflow ∙ ap (λ n. set_value (same_text n) old.base.workflows sides.workflow) (sym named) in
    let ways : opened ≡ open_after old.ways.opened w.name o sides.workflow.way =
    is ∙ ap (λ os. left_open os name left) (put ∙ ap (set_value (same_text name) old.ways.opened) kept)
    ∙ ap (left_open (set_value (same_text name) old.ways.opened o) name) (closes ∙ ap (λ v. v.way) workflow)
    ∙ open-after old.ways.opened name o sides.workflow.way ∙ ap (λ n. open_after old.ways.opened n o sides.workflow.way) (sym named) in
    ap (λ t. made t new_primaries later opened new_journal) topology ∙ ap (λ ps. made sides.topology ps later opened new_journal) primaries
    ∙ ap (λ ws. made sides.topology (with_primaries old.base.primaries w sides.source sides.targets) ws opened new_journal) workflows
    ∙ ap (λ os. made sides.topology (with_primaries old.base.primaries w sides.source sides.targets) (set_value (same_text w.name) old.base.workflows sides.workflow) os new_journal) ways
    ∙ ap (made sides.topology (with_primaries old.base.primaries w sides.source sides.targets) (set_value (same_text w.name) old.base.workflows sides.workflow) (open_after old.ways.opened w.name o sides.workflow.way)) journal

-- ---- a step

module _ (scopes : List Scope) (may_answer : Answering) (old : CoreState) (name : List ℕ) (at : ℕ) (w : WorkflowState) (found : workflow_at old.base.workflows name ≡ Some w) where
  -- no way is open
  pub not-stepping : (new : CoreState) → w.way ≡ None → new ≡ old → StepsWorkflow old scopes may_answer name at (refused nothing_under_way) new
  not-stepping new none same =
      subst (λ f. StepsAt f old scopes may_answer at (refused nothing_under_way) new) (sym found)
      (subst (λ v. StepsWay v old scopes may_answer w at (refused nothing_under_way) new) (sym none) (refl, same))

  -- a test refuses
  pub step-refused : (way : Way) (r : Refusal) (new : CoreState) → w.way ≡ Some way → step_refusal at way ≡ Some r → new ≡ old → StepsWorkflow old scopes may_answer name at (refused r) new
  step-refused way r new has_way refusal same =
      subst (λ f. StepsAt f old scopes may_answer at (refused r) new) (sym found)
      (subst (λ v. StepsWay v old scopes may_answer w at (refused r) new) (sym has_way)
      (subst (λ t. OrRefused t old (refused r) new (StepsKept (open_at old.ways.opened w.name) old scopes may_answer w way (refused r) new)) (sym refusal) (refl, same)))

  -- the step is tried
  pub has-stepped : (way : Way) (o new_o : OpenWay) (new_w : WorkflowState) (result : Result ⊤ StepFault) (answer : Answer) (new_t : TopologyState) (new_primaries : Primaries) (later : Workflows) (meanwhile opened : OpenWays) (left : Option Way) (new_journal : List JournalEntry)
      → w.name ≡ name → w.way ≡ Some way → step_refusal at way ≡ None → open_at old.ways.opened name ≡ Some o
      → StepsBetween scopes may_answer old.base.topology old.base.primaries w way old.ways.journal o result new_t new_primaries new_w new_journal new_o
      → later ≡ set_value (same_text name) old.base.workflows new_w → meanwhile ≡ set_value (same_text name) old.ways.opened new_o → left ≡ new_w.way → opened ≡ left_open meanwhile name left
      → answer ≡ answer_by_step result
      → StepsWorkflow old scopes may_answer name at answer
      (record { base = record { topology = new_t; primaries = new_primaries; workflows = later }; ways = record { opened = opened; journal = new_journal; begun = old.ways.begun } })
  has-stepped way o new_o new_w result answer new_t new_primaries later meanwhile opened left new_journal named has_way refusal kept (sides, log, did, topology, primaries, workflow, journal, record_is) set put closes is told =
      let new : CoreState = record { base = record { topology = new_t; primaries = new_primaries; workflows = later }; ways = record { opened = opened; journal = new_journal; begun = old.ways.begun } } in
      let steps : StepsOn old scopes may_answer w way o answer new =
      (result, sides, log, did, told, whole old name w new_w (record { number = o.number; log = log }) new_o sides new_t new_primaries later meanwhile opened left new_journal named topology primaries workflow journal record_is set put closes is) in
      subst (λ f. StepsAt f old scopes may_answer at answer new) (sym found)
      (subst (λ v. StepsWay v old scopes may_answer w at answer new) (sym has_way)
      (subst (λ t. OrRefused t old answer new (StepsKept (open_at old.ways.opened w.name) old scopes may_answer w way answer new)) (sym refusal)
      (subst (λ k. StepsKept k old scopes may_answer w way answer new) (sym (ap (open_at old.ways.opened) named ∙ kept)) steps)))

-- ---- an undo

module _ (old : CoreState) (name : List ℕ) (at : ℕ) (w : WorkflowState) (found : workflow_at old.base.workflows name ≡ Some w) where
  -- no way is open
  pub not-undoing : (new : CoreState) → w.way ≡ None → new ≡ old → UndoesWorkflow old name at (refused nothing_under_way) new
  not-undoing new none same =
      subst (λ f. UndoesAt f old at (refused nothing_under_way) new) (sym found)
      (subst (λ v. UndoesWay v old w at (refused nothing_under_way) new) (sym none) (refl, same))

  -- a test refuses
  pub undo-refused : (way : Way) (r : Refusal) (new : CoreState) → w.way ≡ Some way → undo_refusal at way ≡ Some r → new ≡ old → UndoesWorkflow old name at (refused r) new
  undo-refused way r new has_way refusal same =
      subst (λ f. UndoesAt f old at (refused r) new) (sym found)
      (subst (λ v. UndoesWay v old w at (refused r) new) (sym has_way)
      (subst (λ t. OrRefused t old (refused r) new (UndoesKept (open_at old.ways.opened w.name) old w way (refused r) new)) (sym refusal) (refl, same)))

  -- the step is undone
  pub has-undone : (way : Way) (o new_o : OpenWay) (new_w : WorkflowState) (new_t : TopologyState) (new_primaries : Primaries) (later : Workflows) (meanwhile opened : OpenWays) (left : Option Way) (new_journal : List JournalEntry)
      → w.name ≡ name → w.way ≡ Some way → undo_refusal at way ≡ None → open_at old.ways.opened name ≡ Some o
      → UndoesBetween old.base.topology old.base.primaries w way old.ways.journal o new_t new_primaries new_w new_journal new_o
      → later ≡ set_value (same_text name) old.base.workflows new_w → meanwhile ≡ set_value (same_text name) old.ways.opened new_o → left ≡ new_w.way → opened ≡ left_open meanwhile name left
      → UndoesWorkflow old name at done
      (record { base = record { topology = new_t; primaries = new_primaries; workflows = later }; ways = record { opened = opened; journal = new_journal; begun = old.ways.begun } })
  has-undone way o new_o new_w new_t new_primaries later meanwhile opened left new_journal named has_way refusal kept (sides, log, did, topology, primaries, workflow, journal, record_is) set put closes is =
      let new : CoreState = record { base = record { topology = new_t; primaries = new_primaries; workflows = later }; ways = record { opened = opened; journal = new_journal; begun = old.ways.begun } } in
      let undoes : UndoesOn old w way o done new =
      (sides, log, did, refl, whole old name w new_w (record { number = o.number; log = log }) new_o sides new_t new_primaries later meanwhile opened left new_journal named topology primaries workflow journal record_is set put closes is) in
      subst (λ f. UndoesAt f old at done new) (sym found)
      (subst (λ v. UndoesWay v old w at done new) (sym has_way)
      (subst (λ t. OrRefused t old done new (UndoesKept (open_at old.ways.opened w.name) old w way done new)) (sym refusal)
      (subst (λ k. UndoesKept k old w way done new) (sym (ap (open_at old.ways.opened) named ∙ kept)) undoes)))
