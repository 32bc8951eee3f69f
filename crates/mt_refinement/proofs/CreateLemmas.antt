-- A Create keeps each way: the new workflow has none open.
use Rattle.std.proofs.Common.{◌≡◌, ◌≢◌, ⊎_elim, ℕ, List, [], ◌∷◌, ◌++◌, None, is_some, refl, sym, ap, subst}
use Rattle.std.specs.Prelude.{Ok}
use Rattle.mt_names.specs.Names.{same_text}
use Rattle.mt_names.proofs.EntryLemmas.{lookup-push_elsewhere, lookup-push_here, none_from, same_or_other}
use Rattle.mt_names.proofs.SameLemmas.{same_text_decides}
use Rattle.mt_model.specs.declared.entries.Entry.{Entry}
use Rattle.mt_model.specs.declared.entries.Scope.{Scope}
use Rattle.mt_model.specs.declared.entries.Scope.TheVariants as scope
use Rattle.mt_watch.specs.Asking.{Answering, AsksEach}
use Rattle.mt_workflow.specs.Workflows.{WorkflowState}
use Rattle.mt_plain.specs.Events.{Answer, create, done, row, advanced, shown, refused, memory, watcher_refused, workflow_exists}
use Rattle.mt_plain.specs.Next.{next}
use Rattle.mt_plain.specs.Plain.{Plain, each_once, live_at}
use Rattle.mt_plain.specs.Refuse.{refuse_if}
use Rattle.mt_laws.proofs.RefusalLemmas.{or_else-none, refuse_if-none}
use Rattle.mt_stands.specs.Base.{BaseState, Workflows, workflow_at}
use Rattle.mt_stands.specs.Workflows.{CreatesSet, change_of, create_refusal, new_of, with_created}
use Rattle.mt_refinement.proofs.WaysLemmas.{KeepsWay, Laws, is_under_way-found, is_under_way-none, none_keeps, same_keeps}

-- a workflow more, on which no way is open
push_keeps : (p q : Plain) (old : Workflows) (workflow : List ℕ) (w : WorkflowState) → w.way ≡ None → workflow_at old workflow ≡ None
    → ((n : List ℕ) → workflow ≢ n → live_at q n ≡ live_at p n) → (n : List ℕ) → KeepsWay p q old (old ++ (workflow, w) ∷ []) n
push_keeps p q old workflow w at_rest free elsewhere n =
    ⊎_elim (λ (e : workflow ≡ n). subst (KeepsWay p q old (old ++ (workflow, w) ∷ [])) e here)
    (λ other. same_keeps p q old (old ++ (workflow, w) ∷ []) n (elsewhere n other) (lookup-push_elsewhere same_text same_text_decides old workflow n w other))
    (same_or_other same_text same_text_decides workflow n)
  where
    here : KeepsWay p q old (old ++ (workflow, w) ∷ []) workflow
    here = none_keeps p q old (old ++ (workflow, w) ∷ []) workflow (is_under_way-none old workflow free)
        (is_under_way-found (old ++ (workflow, w) ∷ []) workflow w None (lookup-push_here same_text same_text_decides old workflow w free) at_rest)

module _ (laws : Laws) (p : Plain) (scopes : List Scope) (may_answer : Answering) (old new : BaseState) (workflow source target : List ℕ) (tables : List (List ℕ)) where
  abbrev Kept : Answer → Type 0
  Kept answer = (n : List ℕ) → KeepsWay p (next p (create workflow source target tables) answer) old.workflows new.workflows n

  unchanged : new ≡ old → (n : List ℕ) → KeepsWay p p old.workflows new.workflows n
  unchanged same n = same_keeps p p old.workflows new.workflows n refl (ap (λ (c : BaseState). workflow_at c.workflows n) same)

  -- what no test refuses has a new name
  free : create_refusal old scopes workflow source target (each_once tables) ≡ None → workflow_at old.workflows workflow ≡ None
  free none =
      none_from (workflow_at old.workflows workflow) (refuse_if-none (is_some (workflow_at old.workflows workflow)) workflow_exists
      (or_else-none (refuse_if (is_some (workflow_at old.workflows workflow)) workflow_exists) _ none).0)

  pub create_keeps : (answer : Answer) → CreatesSet old scopes may_answer workflow source target (each_once tables) answer new → Kept answer
  create_keeps done creates = at creates.1
    where
      w : WorkflowState
      w = new_of old workflow source target (each_once tables)

      at : (notice : List Entry) × AsksEach scopes may_answer (scope.Primary target) (change_of w) (Ok notice) × (new ≡ with_created old w notice) → Kept done
      at (notice, asks, is) n =
          subst (λ workflows. KeepsWay p (next p (create workflow source target tables) done) old.workflows workflows n) (sym (ap (λ (c : BaseState). c.workflows) is))
          (push_keeps p (next p (create workflow source target tables) done) old.workflows workflow w refl (free creates.0)
          (laws.elsewhere p (create workflow source target tables) done) n)
  create_keeps (refused memory) creates = unchanged creates.1
  create_keeps (refused (watcher_refused index)) creates = unchanged creates.2
  create_keeps (refused other) creates = unchanged creates.1
  create_keeps (row r) creates = absurd creates
  create_keeps (advanced events rows) creates = absurd creates
  create_keeps (shown s) creates = absurd creates
