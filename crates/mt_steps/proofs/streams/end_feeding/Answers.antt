-- One lane more.
use Rattle.std.proofs.Common.{◌≡◌, ◌+◌, ◌++◌, suc, List, None, map, take, drop, ap, arith, ◌∙◌}
use Rattle.mt_plain.specs.Events.{back}
use Rattle.mt_workflow.specs.Workflows.{LaneState, WorkflowState, with_lane_slot, with_slot}
use Rattle.mt_steps.proofs.LaneLemmas.{each_more}
use Rattle.mt_steps.proofs.streams.end_feeding.Goals as goal

pub loop-shard-preserved : goal.loop-shard-preserved
loop-shard-preserved c =
    let w = c.args.workflow.now in
    let i = c.loop-shard.shard in
    let on : suc i ≡ i + 1 = omega arith in
    c.put_slot.ensures.after ∙ ap (λ (v : WorkflowState). with_slot v i back None) c.loop-shard.invariant
    ∙ ap (λ (lanes : List LaneState). record w { lanes = lanes }) (each_more (with_lane_slot back None) w.lanes i (omega arith))
    ∙ ap (λ n. record w { lanes = map (with_lane_slot back None) (take n w.lanes) ++ drop n w.lanes }) on
