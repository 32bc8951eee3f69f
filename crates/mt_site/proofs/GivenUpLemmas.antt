-- An undo before the journal, and a Cancel where nothing is switched and no way is open, are done.
use Rattle.std.proofs.Common.{◌≡◌, ℕ, true, false, not, List, Option, None, Some, is_some, refl, sym, ap, subst, ◌∙◌}
use Rattle.std.proofs.lemmas.Bool.{true≢false}
use Rattle.std.specs.Prelude.{◌==◌, ◌||◌}
use Rattle.mt_model.specs.declared.entries.Scope.{Scope}
use Rattle.mt_plain.specs.Events.{Answer, done, row, advanced, shown, refused, memory, Event, cancel, undo, past_journal, stale, traffic_switched, under_way, Way}
use Rattle.mt_plain.specs.Plain.{stands_done, write_journal}
use Rattle.mt_plain.specs.Refuse.{cancel_refusal, or_else, refuse_if}
use Rattle.mt_watch.specs.Asking.{Answering}
use Rattle.mt_workflow.specs.Workflows.{WorkflowState, live_of}
use Rattle.mt_steps.specs.declared.log.OpenWay.{OpenWay}
use Rattle.mt_stands.specs.Base.{BaseState, Does, workflow_at}
use Rattle.mt_stands.specs.Switching.{OrRefused, UndoesAt, UndoesKept, UndoesWay, undo_refusal}
use Rattle.mt_stands.specs.Ways.{CoreState, open_at}
use Rattle.mt_stands.specs.Workflows.{CancelsAt, cancelled}
use Rattle.mt_site.specs.Applies.{Applies}
use Rattle.mt_site.specs.GivenUp.{CanBeGivenUp}

-- what no test refuses, and takes no memory, is done
is_done : (old made new : BaseState) (answer : Answer) → Does old None false made answer new → answer ≡ done
is_done old made new done is = refl
is_done old made new (refused memory) is = absurd (true≢false (sym is.1))
is_done old made new (refused other) is = absurd cc
is_done old made new (row r) is = absurd is
is_done old made new (advanced events rows) is = absurd is
is_done old made new (shown s) is = absurd is

-- no test refuses such an undo
unrefused : (at : ℕ) (way : Way) → stands_done way write_journal ≡ false → (at == way.done) ≡ true → undo_refusal at way ≡ None
unrefused at way before right =
    ap (λ b. or_else (refuse_if b past_journal) (refuse_if (not (at == way.done)) (stale way.done))) before ∙ ap (λ b. refuse_if (not b) (stale way.done)) right

module _ (old new : CoreState) where
  kept : (o : Option OpenWay) (w : WorkflowState) (way : Way) (answer : Answer) → UndoesKept o old w way answer new → answer ≡ done
  kept None w way answer is = absurd is
  kept (Some o) w way answer is = is.3

  undone : (at : ℕ) (w : WorkflowState) (way : Way) (answer : Answer) → (o : Option WorkflowState) → o ≡ Some w → w.way ≡ Some way → undo_refusal at way ≡ None → UndoesAt o old at answer new → answer ≡ done
  undone at w way answer o found on free is =
      let way_is : UndoesWay (Some way) old w at answer new = subst (λ y. UndoesWay y old w at answer new) on (subst (λ x. UndoesAt x old at answer new) found is) in
      kept (open_at old.ways.opened w.name) w way answer (subst (λ t. OrRefused t old answer new (UndoesKept (open_at old.ways.opened w.name) old w way answer new)) free way_is)

  cancelled_done : (w : WorkflowState) (answer : Answer) → (o : Option WorkflowState) → o ≡ Some w → cancel_refusal (live_of w) ≡ None → CancelsAt o old.base answer new.base → answer ≡ done
  cancelled_done w answer o found free is =
      is_done old.base (cancelled old.base w) new.base answer
      (subst (λ t. Does old.base t false (cancelled old.base w) answer new.base) free (subst (λ x. CancelsAt x old.base answer new.base) found is))

uncancelled : (w : WorkflowState) → w.way ≡ None → (w.switched.primary || w.switched.replica || w.switched.rdonly) ≡ false → cancel_refusal (live_of w) ≡ None
uncancelled w rests none = ap (λ (o : Option Way). or_else (refuse_if (is_some o) under_way) (refuse_if (w.switched.primary || w.switched.replica || w.switched.rdonly) traffic_switched)) rests
    ∙ ap (λ b. refuse_if b traffic_switched) none

pub given_up : (scopes : List Scope) (may_answer : Answering) (old new : CoreState) (event : Event) (answer : Answer) → Applies scopes may_answer old event answer new → CanBeGivenUp old event → answer ≡ done
given_up scopes may_answer old new (undo workflow at) answer is (w, way, found, on, before, right) =
    undone old new at w way answer (workflow_at old.base.workflows workflow) found on (unrefused at way before right) is
given_up scopes may_answer old new (cancel workflow) answer is (w, found, rests, none) =
    cancelled_done old new w answer (workflow_at old.base.workflows workflow) found (uncancelled w rests none) is.0
given_up scopes may_answer old new other answer is can = absurd can
