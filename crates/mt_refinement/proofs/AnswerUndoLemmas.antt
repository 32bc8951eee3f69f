-- What an undo is answered.
use Rattle.std.proofs.Common.{◌≡◌, ℕ, List, Option, None, Some, refl, sym, ap, ◌∙◌, subst}
use Rattle.std.specs.Option.{option_map_or}
use Rattle.mt_model.specs.declared.entries.Scope.{Scope}
use Rattle.mt_plain.specs.Answers.{Answers}
use Rattle.mt_plain.specs.Events.{Answer, done, refused, Refusal, no_workflow, nothing_under_way, undo, Way}
use Rattle.mt_plain.specs.Plain.{Live, Plain, live_at}
use Rattle.mt_plain.specs.Refuse.{in_workflow, refusal_of}
use Rattle.mt_plain.specs.Refuse as plain
use Rattle.mt_steps.specs.declared.log.OpenWay.{OpenWay}
use Rattle.mt_workflow.specs.Workflows.{WorkflowState}
use Rattle.mt_laws.proofs.AnswerLemmas.{refused_as_decided}
use Rattle.mt_stands.specs.Base.{workflow_at}
use Rattle.mt_stands.specs.Stands.{StandsFor}
use Rattle.mt_stands.specs.Switching.{OrRefused, UndoesAt, UndoesKept, UndoesWay, UndoesWorkflow, undo_refusal}
use Rattle.mt_stands.specs.Ways.{CoreState, CoreStands, open_at}
use Rattle.mt_refinement.proofs.WaysFoundLemmas.{live_found, no_live}

-- ---- whatever it answers

module _ (p : Plain) (scopes : List Scope) (old new : CoreState) (stands : CoreStands p scopes old) (workflow : List ℕ) (at : ℕ) (answer : Answer) where
  as_decided : (r : Refusal) → answer ≡ refused r → refusal_of p (undo workflow at) ≡ Some r → Answers p (undo workflow at) answer
  as_decided r is refuses = subst (Answers p (undo workflow at)) (sym is) (refused_as_decided p (undo workflow at) r refuses)

  module _ (w : WorkflowState) (live : Live) (is_live : live_at p workflow ≡ Some live) (for : StandsFor p live w) where
    refusal_is : (o : Option Way) → w.way ≡ o → refusal_of p (undo workflow at) ≡ option_map_or (undo_refusal at) o (Some nothing_under_way)
    refusal_is o opens =
        ap (λ l. in_workflow l (plain.undo_refusal at)) is_live ∙ ap (λ way. option_map_or (undo_refusal at) way (Some nothing_under_way)) (sym for.way ∙ opens)

    kept : (way : Way) → refusal_of p (undo workflow at) ≡ None → (k : Option OpenWay) → UndoesKept k old w way answer new → Answers p (undo workflow at) answer
    kept way none None is = absurd is
    kept way none (Some o) is = subst (Answers p (undo workflow at)) (sym is.3) (none, refl)

    tested : (way : Way) → w.way ≡ Some way → (t : Option Refusal) → undo_refusal at way ≡ t → OrRefused t old answer new (UndoesKept (open_at old.ways.opened w.name) old w way answer new)
        → Answers p (undo workflow at) answer
    tested way opens None t is = kept way (refusal_is (Some way) opens ∙ t) (open_at old.ways.opened w.name) is
    tested way opens (Some r) t is = as_decided r is.0 (refusal_is (Some way) opens ∙ t)

    on_way : (o : Option Way) → w.way ≡ o → UndoesWay o old w at answer new → Answers p (undo workflow at) answer
    on_way None rests is = as_decided nothing_under_way is.0 (refusal_is None rests)
    on_way (Some way) opens is = tested way opens (undo_refusal at way) refl is

  pub undo_answers : UndoesWorkflow old workflow at answer new → Answers p (undo workflow at) answer
  undo_answers = by (workflow_at old.base.workflows workflow) refl
    where
      by : (o : Option WorkflowState) → workflow_at old.base.workflows workflow ≡ o → UndoesAt o old at answer new → Answers p (undo workflow at) answer
      by None none is =
          as_decided no_workflow is.0
          (ap (λ l. in_workflow l (plain.undo_refusal at)) (no_live p (live_at p workflow) (workflow_at old.base.workflows workflow) none (stands.base.workflows.each workflow)))
      by (Some w) found is =
          let r = live_found p (live_at p workflow) (workflow_at old.base.workflows workflow) w found (stands.base.workflows.each workflow) in
          on_way w r.0 r.1 r.2 w.way refl is

-- ---- what is refused changes nothing

module _ (old new : CoreState) (at : ℕ) (r : Refusal) where
  kept_same : (w : WorkflowState) (way : Way) (k : Option OpenWay) → UndoesKept k old w way (refused r) new → new ≡ old
  kept_same w way None is = absurd is
  kept_same w way (Some o) is = absurd (let never : refused r ≡ done = is.3 in cc)

  tested_same : (w : WorkflowState) (way : Way) (t : Option Refusal) → OrRefused t old (refused r) new (UndoesKept (open_at old.ways.opened w.name) old w way (refused r) new) → new ≡ old
  tested_same w way None is = kept_same w way (open_at old.ways.opened w.name) is
  tested_same w way (Some s) is = is.1

  way_same : (w : WorkflowState) (o : Option Way) → UndoesWay o old w at (refused r) new → new ≡ old
  way_same w None is = is.1
  way_same w (Some way) is = tested_same w way (undo_refusal at way) is

  pub undo_same : (o : Option WorkflowState) → UndoesAt o old at (refused r) new → new ≡ old
  undo_same None is = is.1
  undo_same (Some w) is = way_same w w.way is
