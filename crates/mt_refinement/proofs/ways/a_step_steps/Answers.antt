-- A step that is done is taken with more watchers too, and each part of the controller then stands for the next state.
use Rattle.std.proofs.Common.{◌≡◌, ◌++◌, ℕ, List, refl, sym, subst}
use Rattle.std.proofs.Math.Logic.{∥∥₁_map}
use Rattle.mt_model.specs.declared.entries.Scope.{Scope}
use Rattle.mt_plain.specs.Answers.{Answers}
use Rattle.mt_plain.specs.Events.{Refusal, done, refused, step}
use Rattle.mt_plain.specs.Next.{next}
use Rattle.mt_plain.specs.Plain.{Plain}
use Rattle.mt_steps.specs.Steps.{sites}
use Rattle.mt_refinement.specs.Ends.{ends_of}
use Rattle.mt_refinement.proofs.TopologyLemmas.{live_for}
use Rattle.mt_stands.specs.Switching.{StepsWorkflow, sides_of}
use Rattle.mt_stands.specs.Ways.{HasCoreState, CoreState, CoreStands}
use Rattle.mt_refinement.proofs.OutcomeLemmas.{IsMade, SteppedBy, leaves_a_core, stands_behind, step_outcome}
use Rattle.mt_refinement.proofs.WayStepLemmas.{kept_at, step_stands, still_watched}
use Rattle.mt_refinement.proofs.ways.a_step_steps.Goals as goal

pub returns : goal.returns
returns g c =
    let mine = g.W.Asks.scopes c.args.watchers.now in
    let may_answer = g.W.Asks.may_answer c.args.watchers.now in
    let behind : (old new : CoreState) (workflow : List ℕ) (at : ℕ) (p : Plain) (scopes : List Scope) → CoreStands p scopes old → Answers p (step workflow at) done
    → IsMade old workflow (SteppedBy old mine may_answer) new → CoreStands (next p (step workflow at) done) scopes new
    = λ old new workflow at p scopes stands given m.
    let reached = stands.base.reached in
    let (live, is_live, for) = live_for p old.base.workflows workflow m.w stands.base.workflows m.found in
    step_stands (next p (step workflow at) done) scopes mine may_answer old new workflow m
    (c.each_next_state_is_reached.ensures.next p reached (step workflow at) done given) stands.base.scopes_are
    (c.steps_and_undos_leave_the_topology.ensures.step p scopes old stands.base workflow m.w m.way at m.found m.opens given)
    (c.a_step_leaves_the_primaries.ensures p scopes old.base stands.base workflow live m.w m.way at m.o.number (sites m.way (sides_of old m.w) m.o.log) (sites m.way m.sides m.log) is_live m.found m.opens given refl refl m.is.attempt)
    (ends_of p live) (c.a_log_ends_where_the_definitions_say.ensures p scopes old.base stands.base workflow live m.w m.way is_live m.found m.opens)
    (c.a_step_leaves_the_workflows.ensures p reached old.base.workflows stands.base.workflows workflow live m.w m.way at is_live m.found m.opens given)
    (c.what_is_kept_of_the_ways_stays.ensures.step p scopes old stands workflow m.w m.way m.o at m.sides m.log m.found m.opens
    (kept_at p old workflow live m.w m.o for (c.a_live_workflow_is_found_by_its_part.ensures.named p workflow live is_live) m.kept) given m.is) in
    let unchanged : (old new : CoreState) (workflow : List ℕ) (at : ℕ) (p : Plain) (scopes : List Scope) → CoreStands p scopes old → (r : Refusal)
    → StepsWorkflow old mine may_answer workflow at (refused r) new → new ≡ old
    = λ old new workflow at p scopes stands r. c.a_step_answers_as_the_definitions_allow.ensures.unchanged old new workflow at r p scopes stands in
    record {
      steps = λ old new workflow at answer steps p stands.
          let given = c.a_step_answers_as_the_definitions_allow.ensures.answers p old new stands workflow at answer steps in (
            given,
            stands_behind p mine old new stands (step workflow at) (IsMade old workflow (SteppedBy old mine may_answer) new) answer given
                (step_outcome old new workflow at answer mine may_answer steps)
                (λ r is. unchanged old new workflow at p mine stands r (subst (λ a. StepsWorkflow old mine may_answer workflow at a new) is steps))
                (behind old new workflow at p mine stands),
          );
      leaves = λ old new workflow at answer named steps is.
          leaves_a_core old new (IsMade old workflow (SteppedBy old mine may_answer) new) answer (step_outcome old new workflow at answer mine may_answer steps)
          (λ r refuses. ∥∥₁_map is (λ h. subst HasCoreState
          (sym (unchanged old new workflow at h.state h.state.scopes h.stands r (subst (λ a. StepsWorkflow old mine may_answer workflow at a new) refuses steps))) h))
          (λ taken m. c.a_core_stays_one.ensures.stays mine old new (step workflow at) done named
          (λ more p stands.
          let given = c.a_step_answers_as_the_definitions_allow.ensures.wider p (more ++ mine) old new stands (still_watched more mine) workflow at
          (subst (λ a. StepsWorkflow old mine may_answer workflow at a new) taken steps) in
          (given, behind old new workflow at p (more ++ mine) stands given m)) is);
    }
