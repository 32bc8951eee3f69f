-- Until the journal is written, what is kept gives back what stood before the way; so each part of the controller stands for the next state.
use Rattle.std.proofs.Common.{ℕ, ◌≤◌, List, None, sym, ap, ◌∙◌, subst, arith}
use Rattle.mt_steps.specs.Shards.{last_shard}
use Rattle.mt_steps.specs.Steps.{listed_at}
use Rattle.mt_model.specs.declared.entries.Scope.{Scope}
use Rattle.mt_plain.specs.Answers.{Answers}
use Rattle.mt_plain.specs.Events.{done, undo}
use Rattle.mt_plain.specs.Next.{next}
use Rattle.mt_plain.specs.Plain.{Plain}
use Rattle.mt_refinement.proofs.PlaceLemmas.{last_refresh}
use Rattle.mt_refinement.proofs.PrimaryUndoLemmas.{before_journal}
use Rattle.mt_refinement.proofs.TopologyLemmas.{live_for}
use Rattle.mt_stands.specs.Switching.{UndoesWorkflow, sides_of, with_sides}
use Rattle.mt_stands.specs.Ways.{CoreState, CoreStands}
use Rattle.mt_refinement.proofs.OutcomeLemmas.{IsMade, UndoneBy, stands_behind, undo_outcome}
use Rattle.mt_refinement.proofs.WayStepLemmas.{kept_at}
use Rattle.mt_refinement.proofs.WayUndoLemmas.{closed_stands, undo_stands, undone_either}
use Rattle.mt_refinement.proofs.ways.an_undo_steps.Goals as goal

pub returns : goal.returns
returns g c =
    let behind : (scopes : List Scope) (old new : CoreState) (workflow : List ℕ) (at : ℕ) (p : Plain) → CoreStands p scopes old → Answers p (undo workflow at) done
    → IsMade old workflow (UndoneBy old) new → CoreStands (next p (undo workflow at) done) scopes new
    = λ scopes old new workflow at p stands given m.
    let reached = stands.base.reached in
    let q = next p (undo workflow at) done in
    let (live, is_live, for) = live_for p old.base.workflows workflow m.w stands.base.workflows m.found in
    let kept = kept_at p old workflow live m.w m.o for (c.a_live_workflow_is_found_by_its_part.ensures.named p workflow live is_live) m.kept in
    let shards = (c.ways_keep_their_course.ensures.course p reached workflow live is_live m.way (sym for.way ∙ m.opens)).shards in
    let has_one : 1 ≤ m.way.shards = omega (arith, shards) in
    let reached_next = c.each_next_state_is_reached.ensures.next p reached (undo workflow at) done given in
    subst (CoreStands q scopes) (sym m.made)
    (undone_either q scopes (with_sides old m.w m.sides (record { number = m.o.number; log = m.log })) m.way (sides_of old m.w) m.sides m.o.log m.log m.is
    (λ some is.
    let gives = (stands.ways.each workflow live m.w m.way m.o is_live m.found m.opens kept).undo (before_journal p workflow live m.way at is_live (sym for.way ∙ m.opens) given.0) in
    undo_stands q scopes old m.w m.way m.o m.sides m.log is reached_next stands.base.scopes_are
    (c.steps_and_undos_leave_the_topology.ensures.undo p scopes old stands.base workflow live m.w m.way at m.o.log is_live m.found m.opens given some gives)
    (c.an_undo_leaves_the_primaries.ensures.last p scopes old.base stands.base workflow live m.w m.way at (listed_at m.o.log (last_shard m.way)) m.sides.source m.sides.targets is_live m.found m.opens given some
    (λ last. let (below, stood) = last_refresh m.way has_one some last in gives.listed (last_shard m.way) below stood) is.listed)
    (c.an_undo_leaves_the_workflows.ensures.last p reached old.base.workflows stands.base.workflows workflow live m.w m.way at m.o.log.slots is_live m.found m.opens given some gives.slots)
    (c.what_is_kept_of_the_ways_stays.ensures.undo p scopes old stands workflow m.w m.way m.o at m.sides m.log m.found m.opens kept given some is))
    (λ none sides log.
    subst (CoreStands q scopes) (sym (ap (λ s. with_sides old m.w s (record { number = m.o.number; log = m.log })) sides
    ∙ ap (λ l. with_sides old m.w (record (sides_of old m.w) { workflow = record m.w { way = None } }) (record { number = m.o.number; log = l })) log))
    (closed_stands q scopes old m.w m.way m.o
    reached_next stands.base.scopes_are
    (c.steps_and_undos_leave_the_topology.ensures.closed p scopes old stands.base workflow m.w m.way at m.found m.opens given none)
    (c.an_undo_leaves_the_primaries.ensures.none p scopes old.base stands.base workflow live m.w m.way at is_live m.found m.opens given none)
    (c.an_undo_leaves_the_workflows.ensures.none p reached old.base.workflows stands.base.workflows workflow m.w m.way at m.found m.opens given none)
    (c.what_is_kept_of_the_ways_stays.ensures.closed p scopes old stands workflow m.w m.way m.o at m.found m.opens kept given none)))) in
    λ scopes old new workflow at answer undoes p stands.
    let given = c.an_undo_answers_as_the_definitions_allow.ensures.answers p scopes old new stands workflow at answer undoes in (
      given,
      stands_behind p scopes old new stands (undo workflow at) (IsMade old workflow (UndoneBy old) new) answer given (undo_outcome old new workflow at answer undoes)
          (λ r is. c.an_undo_answers_as_the_definitions_allow.ensures.unchanged old new workflow at r (subst (λ a. UndoesWorkflow old workflow at a new) is undoes))
          (behind scopes old new workflow at p stands),
    )
