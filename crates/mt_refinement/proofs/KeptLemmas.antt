-- Workflows that no event of their own changes, and what becomes of a base where they stay.
use Rattle.std.proofs.Common.{◌≡◌, ℕ, Bool, true, List, map, find, Option, None, Some, refl, sym, ap, ◌∙◌, subst}
use Rattle.mt_names.specs.Names.{same_text}
use Rattle.mt_model.specs.declared.entries.Scope.{Scope}
use Rattle.mt_model.specs.Topology.{Rules}
use Rattle.mt_plain.specs.Answers.{Answers, answer_of, answer_or, reply_of}
use Rattle.mt_plain.specs.Events.{Event, Answer, done, Refusal, memory, refused}
use Rattle.mt_plain.specs.Next.{next}
use Rattle.mt_plain.specs.Plain.{Live, Plain, live_at}
use Rattle.mt_plain.specs.Refuse.{may_grow, refusal_of}
use Rattle.mt_laws.specs.WayBack.{IsReached}
use Rattle.mt_workflow.specs.Workflows.{WorkflowState}
use Rattle.mt_stands.specs.Keys.{IsKept}
use Rattle.mt_stands.specs.Topologies.{TopologyStands}
use Rattle.mt_stands.specs.Rows.{RowsStand}
use Rattle.mt_primary.specs.Primaries.{primary_of}
use Rattle.mt_stands.specs.Base.{BaseState, Does, Workflows, workflow_at}
use Rattle.mt_stands.specs.Stands.{ArePrimaries, AreWorkflows, StandsFor, StandsForAny, StandsWith}

-- what the laws say of each event
pub record Laws : Type 0 where
  pub reached : (p : Plain) → IsReached p → (event : Event) (answer : Answer) → Answers p event answer → IsReached (next p event answer)
  pub scopes : (p : Plain) (event : Event) (answer : Answer) → (next p event answer).scopes ≡ p.scopes
  pub kept : (p : Plain) (event : Event) (answer : Answer) (name : List ℕ) (w v : Live) (kept : Rules) → IsReached p → Answers p event answer
      → live_at p name ≡ Some w → live_at (next p event answer) name ≡ Some v → IsKept p.topology w kept → IsKept (next p event answer).topology v kept

module _ (laws : Laws) (p : Plain) (event : Event) (answer : Answer) (reached : IsReached p) (given : Answers p event answer)
    (lives : (next p event answer).lives ≡ p.lives) where
  same_live : (name : List ℕ) → live_at (next p event answer) name ≡ live_at p name
  same_live name = ap (find (λ w. same_text w.name name)) lives

  stays_for : (name : List ℕ) (live : Live) (w : WorkflowState) → live_at p name ≡ Some live → StandsFor p live w → StandsFor (next p event answer) live w
  stays_for name live w at stands = record {
    sides = stands.sides;
    switched = stands.switched;
    way = stands.way;
    kept = laws.kept p event answer name live live w.kept reached given at (same_live name ∙ at) stands.kept;
    lanes = stands.lanes;
  }

  stays_for_any : (name : List ℕ) (o : Option Live) (w : Option WorkflowState) → live_at p name ≡ o → StandsForAny p o w → StandsForAny (next p event answer) o w
  stays_for_any name None None at stands = tt
  stays_for_any name (Some live) (Some w) at stands = stays_for name live w at stands
  stays_for_any name None (Some w) at stands = stands
  stays_for_any name (Some live) None at stands = stands

  -- workflows that stay live as they were
  pub workflows_stay : (workflows : Workflows) → AreWorkflows p workflows → AreWorkflows (next p event answer) workflows
  workflows_stay workflows are = record {
    each = λ name. subst (λ o. StandsForAny (next p event answer) o (workflow_at workflows name)) (sym (same_live name))
        (stays_for_any name (live_at p name) (workflow_at workflows name) refl (are.each name));
    names = are.names ∙ sym (ap (map (λ live. live.name)) lives);
  }

  -- a base with the same workflows
  pub base_stands : (scopes : List Scope) (old new : BaseState) → StandsWith p scopes old → new.workflows ≡ old.workflows → TopologyStands (next p event answer) new.topology
      → RowsStand (next p event answer) (primary_of new.primaries) → ArePrimaries (next p event answer) new.primaries → StandsWith (next p event answer) scopes new
  base_stands scopes old new stands same topology rows primaries = record {
    reached = laws.reached p reached event answer given;
    scopes_are = laws.scopes p event answer ∙ stands.scopes_are;
    topology = topology;
    rows = rows;
    primaries = primaries;
    workflows = subst (AreWorkflows (next p event answer)) (sym same) (workflows_stay old.workflows stands.workflows);
  }

-- ---- what is refused or made

module _ (p : Plain) (scopes : List Scope) (old made : BaseState) (event : Event) (refusal : Option Refusal) (grows : Bool)
    (answered : reply_of p event ≡ done) (growing : grows ≡ true → may_grow p event ≡ true) (same : refusal_of p event ≡ refusal) (stands : StandsWith p scopes old)
    (making : Answers p event done → StandsWith (next p event done) scopes made) (one_answer : Answers p event (answer_of p event)) where
  refused_step : (r : Refusal) (new : BaseState) → refusal ≡ Some r → new ≡ old → Answers p event (refused r) × StandsWith p scopes new
  refused_step r new is kept = (subst (λ o. Answers p event (answer_or o (reply_of p event))) (same ∙ is) one_answer, subst (StandsWith p scopes) (sym kept) stands)

  pub does_steps : (answer : Answer) (new : BaseState) → Does old refusal grows made answer new → Answers p event answer × StandsWith (next p event answer) scopes new
  does_steps done new is =
      let given : Answers p event done = (same ∙ is.0, sym answered) in
      (given, subst (StandsWith (next p event done) scopes) (sym is.1) (making given))
  does_steps (refused memory) new is = ((same ∙ is.0, growing is.1), subst (StandsWith p scopes) (sym is.2) stands)
  does_steps (refused r) new is = refused_step r new is.0 is.1
  does_steps other new is = absurd is
