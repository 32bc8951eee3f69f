-- The stream is the live workflow's, and the other one stays as it is.
use Rattle.mt_refinement.proofs.AdvanceLemmas.{advance_steps}
use Rattle.mt_refinement.proofs.advancing.an_advance_steps.Goals as goal

pub returns : goal.returns
returns c = λ scopes old new workflow name shard at at_most answer advances are p stands.
    let reached = stands.reached in
    advance_steps p reached
    (c.a_live_workflow_is_found_by_its_part.ensures.named p)
    (c.an_advance_answers_as_the_definitions_allow.ensures p reached)
    (c.an_advance_keeps_rows_and_logs.ensures p reached)
    (c.an_advance_writes_one_log.ensures p)
    (c.each_next_state_is_reached.ensures.next p reached)
    (c.only_named_events_change_the_state.ensures.scopes p)
    (λ t event answer. c.what_changes_no_entry_leaves_the_topology.ensures.rows p t event answer reached)
    (λ event answer name w v kept. c.what_is_kept_stays_what_stood.ensures p event answer name w v kept reached)
    (c.only_named_events_change_a_workflow.ensures.elsewhere p)
    (c.a_lane_holds_its_keys.ensures p reached)
    scopes old new stands are workflow name shard at at_most answer advances
