-- The stream of that lane advances, and stays there.
use Rattle.std.proofs.Common.{◌<◌, List, length, set, slice_get, option_and_then, ap, sym, subst, refl, arith, ◌∙◌}
use Rattle.std.proofs.Math.Seq.{map-set_same}
use Rattle.mt_workflow.specs.Advance.{AdvancesSlot}
use Rattle.mt_workflow.specs.Workflows.{IsWorkflow, LaneState, lane_slot, slot_of, stream_name, with_lane_slot}
use Rattle.mt_workflow.proofs.LaneLemmas.{lane-changed, none-changed, range-kept, slot-at, slot-set}
use Rattle.mt_workflow.proofs.workflow.Workflow.advance.Goals as goal

pub returns-in_err-lane-clause-rest : goal.returns-in_err-lane-clause-rest
returns-in_err-lane-clause-rest c =
    let name = stream_name c.args.slot in
    let items : List LaneState = c.self.inside.lanes.items in
    let isnt : c.from.result < length items → ⊥ = λ below. let h = c.in_err-lane.ensures.variant.1 (subst (λ n. c.from.result < n) (sym c.self.inside.lanes.ok.0) below) in absurd cc in
    none-changed (with_lane_slot name (option_and_then (lane_slot name) (slice_get items c.args.shard))) _ _ c.from.result c.args.shard c.self.view_is c.from.ensures (omega (arith, isnt))

pub advance-requires-clause-kept : goal.advance-requires-clause-kept
advance-requires-clause-kept c =
    let name = stream_name c.args.slot in
    let items : List LaneState = c.self.inside.lanes.items in
    let within : c.from.result < length items = subst (λ n. c.from.result < n) c.self.inside.lanes.ok.0 (c.in_ok-lane.ensures.variant.0 refl) in
    let at = ap (λ w. slot_of w c.args.shard name) (sym c.self.view_is) ∙ slot-at items c.from.result c.args.shard c.in_ok-lane.lane.now name c.from.ensures within c.in_ok-lane.ensures.value in
    λ s is. c.requires.kept s (at ∙ is)

pub advance-requires-clause-within : goal.advance-requires-clause-within
advance-requires-clause-within c =
    let name = stream_name c.args.slot in
    let items : List LaneState = c.self.inside.lanes.items in
    let within : c.from.result < length items = subst (λ n. c.from.result < n) c.self.inside.lanes.ok.0 (c.in_ok-lane.ensures.variant.0 refl) in
    let at = ap (λ w. slot_of w c.args.shard name) (sym c.self.view_is) ∙ slot-at items c.from.result c.args.shard c.in_ok-lane.lane.now name c.from.ensures within c.in_ok-lane.ensures.value in
    λ s is. c.requires.within s (at ∙ is)

pub advance-requires-clause-there : goal.advance-requires-clause-there
advance-requires-clause-there c =
    let name = stream_name c.args.slot in
    let items : List LaneState = c.self.inside.lanes.items in
    let within : c.from.result < length items = subst (λ n. c.from.result < n) c.self.inside.lanes.ok.0 (c.in_ok-lane.ensures.variant.0 refl) in
    let at = ap (λ w. slot_of w c.args.shard name) (sym c.self.view_is) ∙ slot-at items c.from.result c.args.shard c.in_ok-lane.lane.now name c.from.ensures within c.in_ok-lane.ensures.value in
    λ s is. c.requires.there s (at ∙ is)

pub invariant_of-self-2 : goal.invariant_of-self-2
invariant_of-self-2 c =
    let w = c.self.inside in
    let name = stream_name c.args.slot in
    let lane = c.in_ok-lane.lane.now in
    let new = c.advance.new.self in
    let same = ap (λ (l : LaneState). l.range) c.advance.ensures.rest ∙ range-kept name (lane_slot name new) lane ∙ ap (λ (l : LaneState). l.range) c.in_ok-lane.ensures.value in
    (subst (IsWorkflow w.source w.target w.tables.keys) (sym (map-set_same (λ (l : LaneState). l.range) w.lanes.items c.from.result new lane same)) c.self.invariant.0, c.self.invariant.1)

pub returns-clause-advances : goal.returns-clause-advances
returns-clause-advances c =
    let name = stream_name c.args.slot in
    let items : List LaneState = c.self.inside.lanes.items in
    let within : c.from.result < length items = subst (λ n. c.from.result < n) c.self.inside.lanes.ok.0 (c.in_ok-lane.ensures.variant.0 refl) in
    let before = ap (λ w. slot_of w c.args.shard name) (sym c.self.view_is) ∙ slot-at items c.from.result c.args.shard c.in_ok-lane.lane.now name c.from.ensures within c.in_ok-lane.ensures.value in
    let behind = slot-set items c.from.result c.args.shard c.advance.new.self name c.from.ensures within in
    let after = option_and_then (lane_slot name) (slice_get (set items c.from.result c.advance.new.self) c.args.shard) in
    subst (λ slot. AdvancesSlot slot c.args.source.now c.args.sink.now c.args.at c.args.max c.advance.result after c.advance.new.sink) (sym before)
    (subst (λ slot. AdvancesSlot (lane_slot name c.in_ok-lane.lane.now) c.args.source.now c.args.sink.now c.args.at c.args.max c.advance.result slot c.advance.new.sink) (sym behind)
    c.advance.ensures.advances)

pub returns-clause-rest : goal.returns-clause-rest
returns-clause-rest c =
    let name = stream_name c.args.slot in
    let items : List LaneState = c.self.inside.lanes.items in
    let within : c.from.result < length items = subst (λ n. c.from.result < n) c.self.inside.lanes.ok.0 (c.in_ok-lane.ensures.variant.0 refl) in
    let behind = slot-set items c.from.result c.args.shard c.advance.new.self name c.from.ensures within in
    lane-changed (with_lane_slot name _) _ _ c.from.result c.args.shard c.advance.new.self c.in_ok-lane.lane.now c.self.view_is c.from.ensures within c.in_ok-lane.ensures.value
    (c.advance.ensures.rest ∙ ap (λ slot. with_lane_slot name slot c.in_ok-lane.lane.now) (sym behind))
