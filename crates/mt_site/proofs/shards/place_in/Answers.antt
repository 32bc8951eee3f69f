-- No lane stands before the first one; and one more hasn't the range, or is the first that has.
use Rattle.std.proofs.Common.{arith, sym, ◌∙◌}
use Rattle.mt_names.specs.Shards.{same_range}
use Rattle.mt_site.proofs.ShardLemmas.{none-found, range-found, range-next}
use Rattle.mt_site.proofs.shards.place_in.Goals as goal

pub loop-shard-init : goal.loop-shard-init
loop-shard-init c = λ k within lane at. absurd (omega (arith, within))

pub returns-then-eq : goal.returns-then-eq
returns-then-eq c =
    let lanes = c.shards-shard-end.ensures.value in
    range-found c.args.workflow.now.lanes c.args.range.now c.loop-shard.shard (omega (arith, lanes, c.loop-shard-test.true)) c.loop-shard.invariant c.range.result.now c.range.ensures.lane (sym c.eq.ensures ∙ c.if-eq.true)

pub loop-shard-preserved : goal.loop-shard-preserved
loop-shard-preserved c = range-next c.args.workflow.now.lanes c.args.range.now c.loop-shard.shard c.loop-shard.invariant c.range.result.now c.range.ensures.lane (sym c.eq.ensures ∙ c.if-eq.false)

pub returns : goal.returns
returns c =
    let lanes = c.shards-shard-end.ensures.value in
    none-found (λ lane. same_range c.args.range.now lane.range) c.args.workflow.now.lanes c.loop-shard.shard (omega (arith, lanes, c.loop-shard-test.false)) c.loop-shard.invariant
