-- One lane more; no range changes.
use Rattle.std.proofs.Common.{length, map, ap, sym, subst, ◌∙◌}
use Rattle.std.proofs.lemmas.List.{with_items_is}
use Rattle.mt_stream.specs.Streams.{state_from}
use Rattle.mt_workflow.specs.Workflows.{IsWorkflow, lane_in_state, ranges_in, stream_name}
use Rattle.mt_workflow.proofs.LaneLemmas.{all-changed, lanes-changed, next-changed, range-in_state, ranges-so_far, so_far}
use Rattle.mt_workflow.proofs.workflow.Workflow.set_state.Goals as goal

pub loop-lane-preserved : goal.loop-lane-preserved
loop-lane-preserved c =
    let within = c.loop-lane-test.true in
    next-changed (lane_in_state (stream_name c.args.slot) (state_from c.args.state)) c.deref_mut-lane-items.result.now c.loop-lane.lane-items c.loop-lane.lane-index c.set_state.new.self c.lane-item.result
    within c.loop-lane.invariant c.set_state.ensures

pub invariant_of-self : goal.invariant_of-self
invariant_of-self c =
    let w = c.self.inside in
    let i = c.loop-lane.lane-index in
    let now = c.loop-lane.lane-items in
    let name = stream_name c.args.slot in
    let state = state_from c.args.state in
    let are = with_items_is w.lanes now (c.loop-lane.auto.lane-items ∙ ap length c.deref_mut-lane-items.ensures.value ∙ sym w.lanes.ok.0) in
    let ranges =
    ap ranges_in (are ∙ c.loop-lane.invariant ∙ ap (so_far (lane_in_state name state) i) c.deref_mut-lane-items.ensures.value)
    ∙ ranges-so_far (lane_in_state name state) (range-in_state name state) w.lanes.items i in
    (subst (IsWorkflow w.source w.target w.tables.keys) (sym ranges) c.self.invariant.0, c.self.invariant.1)

pub returns : goal.returns
returns c =
    let w = c.self.inside in
    let i = c.loop-lane.lane-index in
    let now = c.loop-lane.lane-items in
    let change = lane_in_state (stream_name c.args.slot) (state_from c.args.state) in
    let are = with_items_is w.lanes now (c.loop-lane.auto.lane-items ∙ ap length c.deref_mut-lane-items.ensures.value ∙ sym w.lanes.ok.0) in
    lanes-changed change _ _ _ c.self.view_is
    (are ∙ c.loop-lane.invariant ∙ all-changed change c.deref_mut-lane-items.result.now i c.loop-lane-test.false ∙ ap (map change) c.deref_mut-lane-items.ensures.value)
