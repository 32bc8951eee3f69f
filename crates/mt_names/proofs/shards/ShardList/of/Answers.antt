-- Ranges that cover all keys are those between the bounds where they end.
use Rattle.std.proofs.Common.{refl, sym}
use Rattle.mt_names.proofs.ShardLemmas.{taken}
use Rattle.mt_names.proofs.shards.ShardList.of.Goals as goal

pub invariant_of-result : goal.invariant_of-result
invariant_of-result c =
    let all = taken c.args.ranges.items c.as_slice.result.now c.in_ok-check_covering.field-0 c.as_slice.ensures.value c.in_ok-check_covering.ensures.value (c.in_ok-check_covering.ensures.ranges refl) c.as_slice.ensures.fits in
    (all.0.ranges_are, all.0.cuts_are)

pub returns : goal.returns
returns c =
    let all = taken c.args.ranges.items c.as_slice.result.now c.in_ok-check_covering.field-0 c.as_slice.ensures.value c.in_ok-check_covering.ensures.value (c.in_ok-check_covering.ensures.ranges refl) c.as_slice.ensures.fits in
    sym all.1
