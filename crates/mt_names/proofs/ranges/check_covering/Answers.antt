-- A range more is tested against where it has to start.
use Rattle.std.proofs.Common.{Err, [], ap, sym, ◌∙◌}
use Rattle.std.proofs.lemmas.Result.{err_from_is_err_and}
use Rattle.mt_names.specs.Shards.{outcome}
use Rattle.mt_names.proofs.ShardLemmas.{each-end, each-step, goes_on, left-end, left-fault, left-step}
use Rattle.mt_names.proofs.ranges.check_covering.Goals as goal

pub loop-range-preserved : goal.loop-range-preserved
loop-range-preserved c =
    let i = c.loop-range.range-index in
    let before = c.loop-range.invariant in
    record {
      left = left-step c.args.ranges.now i c.loop-range.start c.range-item.result c.loop-range-test.true c.range-item.is before.left c.in_ok-start.start (sym c.start_behind.ensures.value ∙ c.in_ok-start.was);
      each = each-step c.args.ranges.now i c.loop-range.start c.range-item.result c.loop-range-test.true c.range-item.is before.left before.each c.start_behind.ensures.range;
    }

pub returns-in_err-start-clause-value : goal.returns-in_err-start-clause-value
returns-in_err-start-clause-value c =
    let given = err_from_is_err_and c.from_residual.result c.from_residual.ensures.1 in
    given.1 ∙ ap Err given.2 ∙ left-fault c.args.ranges.now c.loop-range.range-index c.loop-range.start c.range-item.result c.loop-range-test.true c.range-item.is c.loop-range.invariant.left c.in_err-start.field-0.0 (sym c.start_behind.ensures.value ∙ c.in_err-start.was)

pub returns-in-None-clause-value : goal.returns-in-None-clause-value
returns-in-None-clause-value c =
    ap (λ o. outcome (goes_on o [])) (sym c.in-None.is) ∙ left-end c.args.ranges.now c.loop-range.range-index c.loop-range.start c.loop-range-test.false c.loop-range.invariant.left

pub returns-in-None-clause-ranges : goal.returns-in-None-clause-ranges
returns-in-None-clause-ranges c = λ taken. each-end c.args.ranges.now c.loop-range.range-index c.loop-range-test.false c.loop-range.invariant.each

pub returns-in-Some-clause-value : goal.returns-in-Some-clause-value
returns-in-Some-clause-value c =
    ap (λ o. outcome (goes_on o [])) (sym c.in-Some.is) ∙ left-end c.args.ranges.now c.loop-range.range-index c.loop-range.start c.loop-range-test.false c.loop-range.invariant.left
