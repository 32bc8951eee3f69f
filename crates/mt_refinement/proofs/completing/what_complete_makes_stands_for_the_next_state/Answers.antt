-- The workflow is gone, the target has its tables alone, and their rows are those of the clients.
use Rattle.mt_refinement.proofs.CompleteLemmas.{complete_stands}
use Rattle.mt_refinement.proofs.completing.what_complete_makes_stands_for_the_next_state.Goals as goal

pub returns : goal.returns
returns c = λ p scopes s stands name w found are given.
    let reached = stands.base.reached in
    complete_stands p reached
    (c.a_live_workflow_is_found_by_its_part.ensures.named p)
    (c.a_live_workflow_is_found_by_its_part.ensures.mover p reached)
    (c.each_next_state_is_reached.ensures.next p reached)
    (c.live_workflows_stand_in_place.ensures.placed p reached)
    (c.only_named_events_change_a_workflow.ensures.elsewhere p)
    (c.only_what_stands_has_a_place.ensures.lists p reached).places
    (c.a_complete_keeps_rows_and_logs.ensures p reached)
    c.tables_made_and_dropped_leave_the_others.ensures.dropped
    c.tables_made_and_dropped_leave_the_others.ensures.gone
    c.tables_made_and_dropped_leave_the_others.ensures.gone_denied
    (λ t n l. c.complete_writes_the_end.ensures p t n l reached)
    (λ event answer n l v kept. c.what_is_kept_stays_what_stood.ensures p event answer n l v kept reached)
    scopes s stands name w found are given
