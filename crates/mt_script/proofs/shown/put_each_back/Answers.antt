-- Some shard has a back stream, or none has.
use Rattle.std.proofs.Common.{◌++◌, ap, ◌∙◌, arith}
use Rattle.std.proofs.lemmas.List.{take_all}
use Rattle.std.specs.List.{flat_map}
use Rattle.mt_script.specs.Texts.{back_behind}
use Rattle.mt_script.proofs.LaneLemmas.{no-backs, some-backs}
use Rattle.mt_script.proofs.shown.put_each_back.Goals as goal

pub returns-then-len-start-clause-text : goal.returns-then-len-start-clause-text
returns-then-len-start-clause-text c =
    let start = c.args.text.now.items in
    let passed = c.loop-lane.invariant.0 ∙ ap (λ lanes. start ++ flat_map back_behind lanes) (take_all c.loop-lane.lane-index c.args.lanes.now c.loop-lane-test.false) in
    c.put.ensures.text ∙ no-backs start c.loop-lane.text.items c.args.lanes.now passed (omega (arith, c.if-len-start.true, c.len.ensures.value, c.len-start.ensures.value))

pub returns-else-len-start-clause-text : goal.returns-else-len-start-clause-text
returns-else-len-start-clause-text c =
    let start = c.args.text.now.items in
    let passed = c.loop-lane.invariant.0 ∙ ap (λ lanes. start ++ flat_map back_behind lanes) (take_all c.loop-lane.lane-index c.args.lanes.now c.loop-lane-test.false) in
    some-backs start c.loop-lane.text.items c.args.lanes.now passed (λ same. omega (arith, same, c.if-len-start.false, c.len.ensures.value, c.len-start.ensures.value))
