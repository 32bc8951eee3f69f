-- What comes of a begin of a way, and of Complete.
use Rattle.std.proofs.Common.{◌≡◌, true, false, ℕ, List, Option, None, Some, not, refl}
use Rattle.mt_names.specs.declared.types.TypeSet.{TypeSet}
use Rattle.mt_model.specs.declared.entries.Scope.{Scope}
use Rattle.mt_plain.specs.Answers.{Answers}
use Rattle.mt_plain.specs.Events.{Answer, begin_reverse, begin_switch, complete, done, no_workflow, nothing_to_reverse, nothing_to_switch, copying}
use Rattle.mt_plain.specs.Next.{next, types_and, types_without}
use Rattle.mt_plain.specs.Plain.{Plain}
use Rattle.mt_plain.specs.Refuse.{at_rest, complete_refusal, has_more, or_else, refuse_if, share_type}
use Rattle.mt_workflow.specs.Workflows.{WorkflowState, live_of}
use Rattle.mt_stands.specs.Base.{workflow_at}
use Rattle.mt_stands.specs.Switching.{BeginsReverse, BeginsReverseAt, BeginsSwitch, BeginsSwitchAt, Completes, CompletesAt, completed, is_copying, no_number_left, way_to, with_way}
use Rattle.mt_stands.specs.Ways.{CoreState, CoreStands}
use Rattle.mt_refinement.proofs.OutcomeLemmas.{as_before, does}

module _ (p : Plain) (scopes : List Scope) (old new : CoreState) (stands : CoreStands p scopes old) (workflow : List ℕ) (types : TypeSet) (answer : Answer) where
  pub switch_steps : ((w : WorkflowState) → workflow_at old.base.workflows workflow ≡ Some w → Answers p (begin_switch workflow types) done
      → CoreStands (next p (begin_switch workflow types) done) scopes (with_way old w (way_to w false (types_and w.switched types))))
      → Answers p (begin_switch workflow types) answer → BeginsSwitch old workflow types answer new → CoreStands (next p (begin_switch workflow types) answer) scopes new
  switch_steps behind given = by (workflow_at old.base.workflows workflow) refl
    where
      by : (o : Option WorkflowState) → workflow_at old.base.workflows workflow ≡ o → BeginsSwitchAt o old types answer new → CoreStands (next p (begin_switch workflow types) answer) scopes new
      by None none is = as_before p scopes old new stands (begin_switch workflow types) answer no_workflow is.0 is.1
      by (Some w) found is =
          does p scopes old new stands (begin_switch workflow types)
          (at_rest (live_of w) (or_else (refuse_if (not (has_more types w.switched)) nothing_to_switch) (or_else (refuse_if (is_copying w) copying) (no_number_left old))))
          true (with_way old w (way_to w false (types_and w.switched types))) (behind w found) answer is given

  pub reverse_steps : ((w : WorkflowState) → workflow_at old.base.workflows workflow ≡ Some w → Answers p (begin_reverse workflow types) done
      → CoreStands (next p (begin_reverse workflow types) done) scopes (with_way old w (way_to w true (types_without w.switched types))))
      → Answers p (begin_reverse workflow types) answer → BeginsReverse old workflow types answer new → CoreStands (next p (begin_reverse workflow types) answer) scopes new
  reverse_steps behind given = by (workflow_at old.base.workflows workflow) refl
    where
      by : (o : Option WorkflowState) → workflow_at old.base.workflows workflow ≡ o → BeginsReverseAt o old types answer new → CoreStands (next p (begin_reverse workflow types) answer) scopes new
      by None none is = as_before p scopes old new stands (begin_reverse workflow types) answer no_workflow is.0 is.1
      by (Some w) found is =
          does p scopes old new stands (begin_reverse workflow types)
          (at_rest (live_of w) (or_else (refuse_if (not (share_type types w.switched)) nothing_to_reverse) (no_number_left old)))
          true (with_way old w (way_to w true (types_without w.switched types))) (behind w found) answer is given

module _ (p : Plain) (scopes : List Scope) (old new : CoreState) (stands : CoreStands p scopes old) (workflow : List ℕ) (answer : Answer) where
  pub complete_steps : ((w : WorkflowState) → workflow_at old.base.workflows workflow ≡ Some w → Answers p (complete workflow) done
      → CoreStands (next p (complete workflow) done) scopes (record old { base = completed old.base w }))
      → Answers p (complete workflow) answer → Completes old workflow answer new → CoreStands (next p (complete workflow) answer) scopes new
  complete_steps behind given = by (workflow_at old.base.workflows workflow) refl
    where
      by : (o : Option WorkflowState) → workflow_at old.base.workflows workflow ≡ o → CompletesAt o old answer new → CoreStands (next p (complete workflow) answer) scopes new
      by None none is = as_before p scopes old new stands (complete workflow) answer no_workflow is.0 is.1
      by (Some w) found is =
          does p scopes old new stands (complete workflow) (complete_refusal (live_of w)) false (record old { base = completed old.base w }) (behind w found) answer is given
