-- What the workflow writes is what the live one serves, for which it stands.
use Rattle.std.proofs.Common.{sym, ◌∙◌}
use Rattle.mt_plain.specs.Events.{done, step, undo}
use Rattle.mt_plain.specs.Next.{next}
use Rattle.mt_stands.proofs.StandLemmas.{Laws, stays}
use Rattle.mt_refinement.proofs.TopologyLemmas.{closed_leaves, live_for, stands_for, step_leaves, undo_leaves}
use Rattle.mt_refinement.proofs.records.steps_and_undos_leave_the_topology.Goals as goal

pub returns : goal.returns
returns c =
    let laws : Laws = record {
      owned = c.a_live_workflow_is_found_by_its_part.ensures.owner;
      found = c.a_live_workflow_is_found_by_its_part.ensures.owner_is_live;
      reached = c.each_next_state_is_reached.ensures.next;
      live = c.only_named_events_change_a_workflow.ensures.live;
      sides = c.only_named_events_change_a_workflow.ensures.sides;
      topology = c.only_named_events_change_the_state.ensures.topology;
    } in
    record {
      step = λ p scopes s stands name w way at found opens given.
          let r = live_for p s.base.workflows name w stands.workflows found in
          let opened = sym r.2.way ∙ opens in
          step_leaves p (next p (step name at) done) s.base.topology w r.0 r.2 way (c.ways_keep_their_course.ensures.course p stands.reached name r.0 r.1 way opened).within
          (c.steps_and_undos_write_what_is_theirs.ensures.step p s.base.topology name r.0 way w.kept at stands.reached r.1 opened r.2.kept given stands.topology);
      undo = λ p scopes s stands name live w way at log is_live found opens given some gives.
          let for = stands_for p s.base.workflows name w live stands.workflows found is_live in
          let opened = sym for.way ∙ opens in
          undo_leaves p (next p (undo name at) done) s.base.topology w live for way (c.ways_keep_their_course.ensures.course p stands.reached name live is_live way opened).within
          log gives some
          (c.steps_and_undos_write_what_is_theirs.ensures.undo p s.base.topology name live way w.kept at stands.reached is_live opened for.kept given stands.topology);
      closed = λ p scopes s stands name w way at found opens given none.
          let r = live_for p s.base.workflows name w stands.workflows found in
          let opened = sym r.2.way ∙ opens in
          stays laws p (undo name at) done stands.reached given (λ h. h) s.base.topology stands.topology (λ h. h)
          (closed_leaves p (next p (undo name at) done) s.base.topology r.0 way stands.topology (laws.owned p stands.reached name r.0 r.1) opened none
          (c.steps_and_undos_change_the_state_by_their_numbers.ensures.undo p stands.reached name r.0 way r.1 opened at given));
    }
