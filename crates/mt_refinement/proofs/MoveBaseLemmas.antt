-- What is found in a base where a workflow was set, and what goes on standing for a state.
use Rattle.std.proofs.Common.{◌≡◌, ◌≢◌, ◌⊎◌, ℕ, Bool, true, false, List, [], ◌∷◌, map, Option, None, Some, refl, sym, ap, ◌∙◌, subst, ⊎_elim}
use Rattle.std.proofs.lemmas.Map.{keys-set_value}
use Rattle.std.specs.Map.{lookup, set_value}
use Rattle.mt_names.specs.Names.{same_text}
use Rattle.mt_names.proofs.EntryLemmas.{lookup-set_value_elsewhere, lookup-set_value_here, same_or_other}
use Rattle.mt_names.proofs.SameLemmas.{same_text_decides}
use Rattle.mt_plain.specs.Plain.{Live, Plain, live_at}
use Rattle.mt_stands.specs.Keys.{IsKept}
use Rattle.mt_stands.specs.Base.{Workflows, workflow_at}
use Rattle.mt_stands.specs.Stands.{AreWorkflows, StandsFor, StandsForAny}
use Rattle.mt_workflow.specs.Workflows.{WorkflowState}
use Rattle.mt_stands.proofs.KnownLemmas.{same_or}

-- what is there, set again, leaves all as it is
pub set_value-same : {V : Type 0} (es : List (List ℕ × V)) (k : List ℕ) (v : V) → lookup (same_text k) es ≡ Some v → set_value (same_text k) es v ≡ es
set_value-same [] k v found = refl
set_value-same (e ∷ es) k v found = by (set_value-same es k v) (same_text k e.0) refl
  where
    by : (lookup (same_text k) es ≡ Some v → set_value (same_text k) es v ≡ es) → (t : Bool) → same_text k e.0 ≡ t → set_value (same_text k) (e ∷ es) v ≡ e ∷ es
    by again true t = let is : Some e.1 ≡ Some v = rw t at found in let was : e.1 ≡ v = cc in rw t (ap (λ x. (e.0, x) ∷ es) (sym was))
    by again false t = rw t (ap (λ l. e ∷ l) (again (rw t at found)))

-- ---- workflows

-- a workflow that stands for a live one goes on standing for it, where the topology as if none were live is the same
pub stands-elsewhere : (p q : Plain) → q.topology ≡ p.topology → (o : Option Live) (v : Option WorkflowState) → StandsForAny p o v → StandsForAny q o v
stands-elsewhere p q same None None stands = tt
stands-elsewhere p q same None (Some w) stands = absurd stands
stands-elsewhere p q same (Some live) None stands = absurd stands
stands-elsewhere p q same (Some live) (Some w) stands = record {
  sides = stands.sides;
  switched = stands.switched;
  way = stands.way;
  kept = subst (λ u. IsKept u live w.kept) (sym same) stands.kept;
  lanes = stands.lanes;
}

-- the live workflow of a name that the base finds, and the other way round
pub live_found : (p : Plain) (o : Option Live) (v : Option WorkflowState) (w : WorkflowState) → v ≡ Some w → StandsForAny p o v → (live : Live) × (o ≡ Some live) × StandsFor p live w
live_found p None None w e stands = absurd cc
live_found p None (Some v) w e stands = absurd stands
live_found p (Some live) None w e stands = absurd stands
live_found p (Some live) (Some v) w e stands = (live, refl, subst (StandsFor p live) (let same : v ≡ w = cc in same) stands)

pub no_live : (p : Plain) (o : Option Live) (v : Option WorkflowState) → v ≡ None → StandsForAny p o v → o ≡ None
no_live p None None e stands = refl
no_live p None (Some v) e stands = absurd stands
no_live p (Some live) None e stands = absurd stands
no_live p (Some live) (Some v) e stands = absurd cc

-- the workflows with one set are those of a next state where it stands for the live one, and all others are live as before
module _ (p q : Plain) (same : q.topology ≡ p.topology) (old : Workflows) (stands : AreWorkflows p old) (workflow : List ℕ) (w v : WorkflowState)
    (found : workflow_at old workflow ≡ Some w) (live : Live) (is_live : live_at q workflow ≡ Some live) (new : StandsFor q live v)
    (elsewhere : (name : List ℕ) → workflow ≢ name → live_at q name ≡ live_at p name)
    (names : map (λ (l : Live). l.name) q.lives ≡ map (λ (l : Live). l.name) p.lives) where
  abbrev workflows_with : Workflows
  workflows_with = set_value (same_text workflow) old v

  here : StandsForAny q (live_at q workflow) (workflow_at workflows_with workflow)
  here = subst (λ o. StandsForAny q o (workflow_at workflows_with workflow)) (sym is_live)
      (subst (StandsForAny q (Some live)) (sym (lookup-set_value_here same_text same_text_decides old workflow v w found)) new)

  other : (name : List ℕ) → workflow ≢ name → StandsForAny q (live_at q name) (workflow_at workflows_with name)
  other name apart = subst (λ o. StandsForAny q o (workflow_at workflows_with name)) (sym (elsewhere name apart))
      (subst (StandsForAny q (live_at p name)) (sym (lookup-set_value_elsewhere same_text same_text_decides old workflow name v apart))
      (stands-elsewhere p q same (live_at p name) (workflow_at old name) (stands.each name)))

  pub workflows-set : AreWorkflows q (set_value (same_text workflow) old v)
  workflows-set = record {
    each = λ name. ⊎_elim (λ (e : workflow ≡ name). subst (λ n. StandsForAny q (live_at q n) (workflow_at workflows_with n)) e here) (other name) (same_or workflow name);
    names = keys-set_value (same_text workflow) old v ∙ stands.names ∙ sym names;
  }
