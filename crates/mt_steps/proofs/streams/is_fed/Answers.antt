-- Each shard's stream is looked at in turn, up to the first one that is not level.
use Rattle.std.proofs.Common.{sym, arith, ◌∙◌}
use Rattle.mt_workflow.specs.Workflows.{way_from}
use Rattle.mt_steps.specs.Streams.{is_fed_at}
use Rattle.mt_steps.proofs.LaneLemmas.{all_more, all_tested, one_fails}
use Rattle.mt_steps.proofs.streams.is_fed.Goals as goal

pub returns-then-not-is_fed_at : goal.returns-then-not-is_fed_at
returns-then-not-is_fed_at c =
    sym (one_fails (is_fed_at c.args.workflow.now (way_from c.args.way) c.args.source.now c.args.targets.now) _ c.loop-shard.shard (omega arith) (sym c.is_fed_at.ensures ∙ c.if-not-is_fed_at.true))

pub loop-shard-preserved : goal.loop-shard-preserved
loop-shard-preserved c =
    all_more (is_fed_at c.args.workflow.now (way_from c.args.way) c.args.source.now c.args.targets.now) _ c.loop-shard.shard (omega arith) c.loop-shard.invariant (sym c.is_fed_at.ensures ∙ c.if-not-is_fed_at.false)

pub returns : goal.returns
returns c =
    sym (all_tested (is_fed_at c.args.workflow.now (way_from c.args.way) c.args.source.now c.args.targets.now) _ c.loop-shard.shard (omega arith) c.loop-shard.invariant)
