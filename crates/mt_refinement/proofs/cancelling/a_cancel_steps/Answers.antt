-- The workflow is gone, and its tables at the target with it.
use Rattle.mt_refinement.proofs.CancelLemmas.{cancel_steps}
use Rattle.mt_refinement.proofs.cancelling.a_cancel_steps.Goals as goal

pub returns : goal.returns
returns c = λ scopes old new workflow answer cancels are p stands.
    let reached = stands.reached in
    cancel_steps p reached
    (c.a_live_workflow_is_found_by_its_part.ensures.named p)
    (c.a_live_workflow_is_found_by_its_part.ensures.mover p reached)
    (c.each_next_state_is_reached.ensures.next p reached)
    (c.live_workflows_stand_in_place.ensures.placed p reached)
    (c.only_named_events_change_a_workflow.ensures.elsewhere p)
    (c.a_cancel_keeps_rows_and_logs.ensures p reached)
    c.tables_made_and_dropped_leave_the_others.ensures.dropped
    c.tables_made_and_dropped_leave_the_others.ensures.gone
    c.tables_made_and_dropped_leave_the_others.ensures.gone_denied
    (λ t name w kept. c.cancel_writes_what_was_kept.ensures p t name w kept reached)
    scopes old new stands are workflow answer cancels
