-- One lane more.
use Rattle.std.proofs.Common.{◌≡◌, ◌∷◌, ◌++◌, [], true, cond, is_ok, ap, ◌∙◌}
use Rattle.mt_workflow.proofs.LaneLemmas.{all_lanes, next_lanes}
use Rattle.mt_workflow.proofs.lane.first_lanes.Goals as goal

pub loop-range-preserved : goal.loop-range-preserved
loop-range-preserved c =
    let lanes = c.loop-range.lanes.items in
    let ok : is_ok c.push.result ≡ true = search (c.if-is_err.ensures) in
    c.push.ensures.items ∙ ap (λ b. cond b (lanes ++ c.new.result ∷ []) lanes) ok
    ∙ next_lanes c.args.tables.now c.args.position c.args.shards.now c.loop-range.range-index c.range-item.result c.new.result lanes c.loop-range-test.true c.range-item.is c.new.ensures c.loop-range.invariant

pub returns-clause-value : goal.returns-clause-value
returns-clause-value c = all_lanes c.args.tables.now c.args.position c.args.shards.now c.loop-range.range-index c.loop-range.lanes.items c.loop-range-test.false c.loop-range.invariant
