-- The lane of that shard has another stream there.
use Rattle.std.proofs.Common.{◌<◌, length, ap, sym, subst, ◌∙◌}
use Rattle.std.proofs.Math.Seq.{map-set_same}
use Rattle.mt_workflow.specs.Workflows.{IsWorkflow, LaneState, WorkflowState, slot_of, stream_name, with_lane_slot}
use Rattle.mt_workflow.proofs.LaneLemmas.{lane-changed, range-kept, slot-at}
use Rattle.mt_workflow.proofs.workflow.Workflow.put_slot.Goals as goal

pub invariant_of-self : goal.invariant_of-self
invariant_of-self c =
    let w = c.self.inside in
    let lane = c.index_mut.result.now in
    let same = ap (λ (l : LaneState). l.range) c.put_slot.ensures.after ∙ range-kept (stream_name c.args.slot) c.args.stream lane ∙ ap (λ (l : LaneState). l.range) c.index_mut.ensures.value in
    (subst (IsWorkflow w.source w.target w.tables.keys) (sym (map-set_same (λ (l : LaneState). l.range) w.lanes.items c.from.result c.put_slot.new.self lane same)) c.self.invariant.0, c.self.invariant.1)

pub returns-clause-before : goal.returns-clause-before
returns-clause-before c =
    let within = subst (λ n. n < length c.self.inside.lanes.items) (sym c.from.ensures) (subst (λ (w : WorkflowState). c.args.shard < length w.lanes) (sym c.self.view_is) c.requires) in
    c.put_slot.ensures.before
    ∙ sym (slot-at c.self.inside.lanes.items c.from.result c.args.shard c.index_mut.result.now (stream_name c.args.slot) c.from.ensures within c.index_mut.ensures.value)
    ∙ ap (λ w. slot_of w c.args.shard (stream_name c.args.slot)) c.self.view_is

pub returns-clause-after : goal.returns-clause-after
returns-clause-after c =
    let within = subst (λ n. n < length c.self.inside.lanes.items) (sym c.from.ensures) (subst (λ (w : WorkflowState). c.args.shard < length w.lanes) (sym c.self.view_is) c.requires) in
    lane-changed (with_lane_slot (stream_name c.args.slot) c.args.stream) _ _ c.from.result c.args.shard c.put_slot.new.self c.index_mut.result.now c.self.view_is c.from.ensures within
    c.index_mut.ensures.value c.put_slot.ensures.after
