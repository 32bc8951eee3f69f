-- Cancel keeps each way: the workflow that is gone had none open.
use Rattle.std.proofs.Common.{◌≡◌, ◌≢◌, ⊎_elim, ℕ, false, not, ◌||◌, List, Option, None, Some, is_some, refl, sym, ap, ◌∙◌, subst}
use Rattle.mt_names.specs.Names.{same_text}
use Rattle.mt_names.proofs.EntryLemmas.{lookup-remove_entry_elsewhere, none_from, same_or_other}
use Rattle.mt_names.proofs.SameLemmas.{same_text_decides}
use Rattle.mt_model.specs.declared.entries.Scope.{Scope}
use Rattle.mt_workflow.specs.Workflows.{WorkflowState, live_of}
use Rattle.mt_plain.specs.Events.{Answer, Refusal, memory, no_workflow, traffic_switched, under_way, cancel, done, row, advanced, shown, refused}
use Rattle.mt_plain.specs.Next.{next, without_live}
use Rattle.mt_plain.specs.Plain.{Live, Plain, live_at}
use Rattle.mt_plain.specs.Refuse.{cancel_refusal, refuse_if}
use Rattle.mt_laws.proofs.LiveLemmas.{find-filter_gone}
use Rattle.mt_laws.proofs.RefusalLemmas.{or_else-none, refuse_if-none}
use Rattle.mt_refinement.proofs.FoundLemmas.{live_of_state}
use Rattle.mt_stands.specs.Base.{BaseState, Does, workflow_at}
use Rattle.mt_stands.specs.Stands.{StandsFor, StandsForAny, StandsWith}
use Rattle.mt_stands.specs.Workflows.{Cancels, CancelsAt, cancelled}
use Rattle.mt_refinement.proofs.WaysLemmas.{KeepsWay, Laws, is_under_way-found, is_under_way-none, none_keeps, same_keeps}

-- where none is live the base has none
no_workflow_at : (p : Plain) (o : Option Live) (v : Option WorkflowState) → StandsForAny p o v → o ≡ None → v ≡ None
no_workflow_at p None None stands e = refl
no_workflow_at p None (Some w) stands e = absurd stands
no_workflow_at p (Some live) v stands e = absurd cc

-- what is cancelled is live no more
gone : (lives : List Live) (name : List ℕ) (p : Plain) → p.lives ≡ without_live name lives → live_at p name ≡ None
gone lives name p are =
    ap (λ ws. live_at (record p { lives = ws }) name) are
    ∙ find-filter_gone (λ (w : Live). same_text w.name name) (λ (w : Live). not (same_text w.name name)) lives (λ w inside is. ap not is)

module _ (laws : Laws) (p : Plain) (scopes : List Scope) (old new : BaseState) (stands : StandsWith p scopes old) (workflow : List ℕ)
    (named : (live : Live) → live_at p workflow ≡ Some live → live.name ≡ workflow) where
  abbrev Kept : Answer → Type 0
  Kept answer = StandsWith (next p (cancel workflow) answer) scopes new → (n : List ℕ) → KeepsWay p (next p (cancel workflow) answer) old.workflows new.workflows n

  unchanged : (answer : Answer) (refusal : Refusal) → answer ≡ refused refusal → new ≡ old → Kept answer
  unchanged answer refusal is same =
      subst Kept (sym is) (λ behind n. same_keeps p p old.workflows new.workflows n refl (ap (λ (c : BaseState). workflow_at c.workflows n) same))

  module _ (w : WorkflowState) (found : workflow_at old.workflows workflow ≡ Some w) (live : Live) (is_live : live_at p workflow ≡ Some live) (for : StandsFor p live w) where
    at_rest : cancel_refusal (live_of w) ≡ None → w.way ≡ None
    at_rest none =
        none_from w.way (refuse_if-none (is_some w.way) under_way
        (or_else-none (refuse_if (is_some w.way) under_way) (refuse_if (w.switched.primary || w.switched.replica || w.switched.rdonly) traffic_switched) none).0)

    done_keeps : cancel_refusal (live_of w) ≡ None → new ≡ cancelled old w → Kept done
    done_keeps none same behind n =
        ⊎_elim (λ (e : workflow ≡ n). subst (KeepsWay p (next p (cancel workflow) done) old.workflows new.workflows) e here) other
        (same_or_other same_text same_text_decides workflow n)
      where
        here : KeepsWay p (next p (cancel workflow) done) old.workflows new.workflows workflow
        here =
            none_keeps p (next p (cancel workflow) done) old.workflows new.workflows workflow (is_under_way-found old.workflows workflow w None found (at_rest none))
            (is_under_way-none new.workflows workflow
            (no_workflow_at (next p (cancel workflow) done) (live_at (next p (cancel workflow) done) workflow) (workflow_at new.workflows workflow) (behind.workflows.each workflow)
            (gone p.lives workflow (next p (cancel workflow) done) refl)))

        other : workflow ≢ n → KeepsWay p (next p (cancel workflow) done) old.workflows new.workflows n
        other apart =
            same_keeps p (next p (cancel workflow) done) old.workflows new.workflows n (laws.elsewhere p (cancel workflow) done n apart)
            (ap (λ (c : BaseState). workflow_at c.workflows n) same
            ∙ lookup-remove_entry_elsewhere same_text same_text_decides old.workflows w.name n (λ e. apart (sym (named live is_live) ∙ for.sides.name ∙ e)))

    by_answer : (answer : Answer) → Does old (cancel_refusal (live_of w)) false (cancelled old w) answer new → Kept answer
    by_answer done is = done_keeps is.0 is.1
    by_answer (refused memory) is = unchanged (refused memory) memory refl is.2
    by_answer (refused r) is = unchanged (refused r) r refl is.1
    by_answer (row r) is = absurd is
    by_answer (advanced events rows) is = absurd is
    by_answer (shown s) is = absurd is

  workflow_keeps : (answer : Answer) (o : Option WorkflowState) → workflow_at old.workflows workflow ≡ o → CancelsAt o old answer new → Kept answer
  workflow_keeps answer None none is = unchanged answer no_workflow is.0 is.1
  workflow_keeps answer (Some w) found is =
      let (live, is_live, for) = live_of_state p (live_at p workflow) (workflow_at old.workflows workflow) w (stands.workflows.each workflow) found in
      by_answer w found live is_live for answer is

  pub cancel_keeps : (answer : Answer) → Cancels old workflow answer new → Kept answer
  cancel_keeps answer = workflow_keeps answer (workflow_at old.workflows workflow) refl
