-- A step that is refused leaves the controller as it was.
use Rattle.std.proofs.Common.{◌≡◌, ℕ, List, Option, None, Some, Result, Ok, Err, refl, sym, ap, ◌∙◌, subst}
use Rattle.std.specs.Bool.{⊤}
use Rattle.mt_model.specs.declared.entries.Scope.{Scope}
use Rattle.mt_plain.specs.Events.{done, refused, Refusal, Way}
use Rattle.mt_plain.specs.Plain.{Live, Plain, live_at, next_step}
use Rattle.mt_primary.proofs.PrimariesLemmas.{with_primary-same, with_shards-same}
use Rattle.mt_primary.specs.Primaries.{Primaries, primary_of, shards_of, with_shards}
use Rattle.mt_watch.specs.Asking.{Answering}
use Rattle.mt_workflow.specs.Workflows.{WorkflowState}
use Rattle.mt_steps.specs.declared.fault.StepFault.{StepFault}
use Rattle.mt_steps.specs.declared.log.OpenWay.{OpenWay}
use Rattle.mt_steps.specs.Plans.{step_at}
use Rattle.mt_steps.specs.Steps.{SidesState, Steps}
use Rattle.mt_steps.specs.Undo.{UndoState}
use Rattle.mt_stands.specs.Base.{Workflows, workflow_at}
use Rattle.mt_stands.specs.Stands.{StandsFor}
use Rattle.mt_stands.specs.Switching.{OrRefused, StepsAt, StepsKept, StepsWay, StepsWorkflow, answer_by_step, open_after, sides_of, step_refusal, with_primaries, with_sides}
use Rattle.mt_stands.specs.Ways.{OpenWays, CoreState, CoreStands, open_at}
use Rattle.mt_refinement.proofs.WaysFoundLemmas.{live_found, set_value-same}

-- the primaries with what was there set again
pub primaries_same : (primaries : Primaries) (w : WorkflowState) → with_primaries primaries w (primary_of primaries w.source 0) (shards_of primaries w.target).each ≡ primaries
primaries_same primaries w = ap (λ ps. with_shards ps w.target (shards_of primaries w.target).each) (with_primary-same primaries w.source 0) ∙ with_shards-same primaries w.target

-- the controller with what was there set again
module _ (s : CoreState) (w : WorkflowState) (way : Way) (o : OpenWay) (opens : w.way ≡ Some way) (found : workflow_at s.base.workflows w.name ≡ Some w)
    (kept : open_at s.ways.opened w.name ≡ Some o) where
  open_same : open_after s.ways.opened w.name o w.way ≡ s.ways.opened
  open_same = ap (open_after s.ways.opened w.name o) opens ∙ set_value-same s.ways.opened w.name o kept

  pub sides_same : with_sides s w (sides_of s w) o ≡ s
  sides_same = by _ (primaries_same s.base.primaries w) _ (set_value-same s.base.workflows w.name w found) _ open_same
    where
      by : (ps : Primaries) → ps ≡ s.base.primaries → (ws : Workflows) → ws ≡ s.base.workflows → (os : OpenWays) → os ≡ s.ways.opened
          → record { base = record { topology = s.base.topology; primaries = ps; workflows = ws }; ways = record s.ways { opened = os; journal = s.ways.journal } } ≡ s
      by ps a ws b os c = rw (a, b, c) refl

-- ---- whatever refuses it

module _ (p : Plain) (scopes mine : List Scope) (may_answer : Answering) (old new : CoreState) (stands : CoreStands p scopes old)
    (named : (name : List ℕ) (w : Live) → live_at p name ≡ Some w → w.name ≡ name) (workflow : List ℕ) (at : ℕ) (r : Refusal) where
  module _ (w : WorkflowState) (found : workflow_at old.base.workflows workflow ≡ Some w) (live : Live) (is_live : live_at p workflow ≡ Some live) (for : StandsFor p live w) where
    found_here : workflow_at old.base.workflows w.name ≡ Some w
    found_here = subst (λ n. workflow_at old.base.workflows n ≡ Some w) (sym (named workflow live is_live) ∙ for.sides.name) found

    module _ (way : Way) (opens : w.way ≡ Some way) where
      failed : (o : OpenWay) → open_at old.ways.opened w.name ≡ Some o → (result : Result ⊤ StepFault) (sides : SidesState) (log : UndoState)
          → Steps mine may_answer o.number way (step_at (next_step way)) (sides_of old w) o.log result sides log → refused r ≡ answer_by_step result
          → new ≡ with_sides old w sides (record { number = o.number; log = log }) → new ≡ old
      failed o kept (Ok made) sides log steps is same = absurd (let never : refused r ≡ done = is in cc)
      failed o kept (Err f) sides log steps is same =
          same ∙ ap (λ x. with_sides old w x (record { number = o.number; log = log })) steps.1 ∙ ap (λ x. with_sides old w (sides_of old w) (record { number = o.number; log = x })) steps.2
          ∙ sides_same old w way o opens found_here kept

      kept_same : (k : Option OpenWay) → open_at old.ways.opened w.name ≡ k → StepsKept k old mine may_answer w way (refused r) new → new ≡ old
      kept_same None kept is = absurd is
      kept_same (Some o) kept is = failed o kept is.0 is.1 is.2 is.3 is.4 is.5

      tested_same : (t : Option Refusal) → OrRefused t old (refused r) new (StepsKept (open_at old.ways.opened w.name) old mine may_answer w way (refused r) new) → new ≡ old
      tested_same None is = kept_same (open_at old.ways.opened w.name) refl is
      tested_same (Some s) is = is.1

    way_same : (o : Option Way) → w.way ≡ o → StepsWay o old mine may_answer w at (refused r) new → new ≡ old
    way_same None rests is = is.1
    way_same (Some way) opens is = tested_same way opens (step_refusal at way) is

  pub step_same : StepsWorkflow old mine may_answer workflow at (refused r) new → new ≡ old
  step_same = by (workflow_at old.base.workflows workflow) refl
    where
      by : (o : Option WorkflowState) → workflow_at old.base.workflows workflow ≡ o → StepsAt o old mine may_answer at (refused r) new → new ≡ old
      by None none is = is.1
      by (Some w) found is =
          let l = live_found p (live_at p workflow) (workflow_at old.base.workflows workflow) w found (stands.base.workflows.each workflow) in
          way_same w found l.0 l.1 l.2 w.way refl is
