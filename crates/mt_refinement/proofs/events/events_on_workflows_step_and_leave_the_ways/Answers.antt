-- A workflow that is gone has no way open; and a stream that advances leaves what is kept of a way as it is.
use Rattle.std.proofs.Common.{ap}
use Rattle.mt_plain.specs.Events.{advance, cancel, show}
use Rattle.mt_stands.specs.Base.{BaseState}
use Rattle.mt_refinement.proofs.WaysAdvanceLemmas.{advance_keeps}
use Rattle.mt_refinement.proofs.WaysCancelLemmas.{cancel_keeps}
use Rattle.mt_refinement.proofs.WaysLemmas.{Laws, site_steps, steps_beside}
use Rattle.mt_refinement.proofs.events.events_on_workflows_step_and_leave_the_ways.Goals as goal

pub returns : goal.returns
returns c =
    let laws : Laws = record {
      ways = c.only_named_events_change_the_state.ensures.ways;
      journal = c.only_named_events_change_the_state.ensures.journal;
      elsewhere = c.only_named_events_change_a_workflow.ensures.elsewhere;
    } in
    let named = c.a_live_workflow_is_found_by_its_part.ensures.named in
    record {
      advance = λ scopes old new workflow name shard at at_most answer is are.
          site_steps laws (advance workflow name shard at at_most) (λ e. e) (λ e. e) scopes old new answer (c.an_advance_steps.ensures scopes old.base new workflow name shard at at_most answer is are)
          (λ p stands given behind. advance_keeps laws p scopes old.base new stands workflow name shard at at_most (named p workflow) (c.ways_keep_their_course.ensures.course p stands.reached workflow) answer is given);
      cancel = λ scopes old new workflow answer is are.
          site_steps laws (cancel workflow) (λ e. e) (λ e. e) scopes old new answer (c.a_cancel_steps.ensures scopes old.base new workflow answer is are)
          (λ p stands given behind. cancel_keeps laws p scopes old.base new stands workflow (named p workflow) answer is behind);
      show = λ scopes old new workflow answer is.
          steps_beside laws (show workflow) (λ e. e) (λ e. e) scopes old new answer (c.a_show_steps.ensures scopes old.base new workflow answer is) (λ n e. e)
          (ap (λ (base : BaseState). base.workflows) is.1);
    }
