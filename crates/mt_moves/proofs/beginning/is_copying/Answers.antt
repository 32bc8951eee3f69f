-- Each shard is looked at in turn, up to the first one that is not copied.
use Rattle.std.proofs.Common.{ap, not, sym, arith, ◌∙◌}
use Rattle.mt_stands.specs.Switching.{has_copied_at}
use Rattle.mt_moves.proofs.ShardLemmas.{all_more, all_tested, one_fails}
use Rattle.mt_moves.proofs.beginning.is_copying.Goals as goal

pub returns-then-not-has_copied_at : goal.returns-then-not-has_copied_at
returns-then-not-has_copied_at c =
    sym (ap not (one_fails (has_copied_at c.args.workflow.now) _ c.loop-shard.shard (omega arith) (sym c.has_copied_at.ensures ∙ c.if-not-has_copied_at.true)))

pub loop-shard-preserved : goal.loop-shard-preserved
loop-shard-preserved c = all_more (has_copied_at c.args.workflow.now) _ c.loop-shard.shard (omega arith) c.loop-shard.invariant (sym c.has_copied_at.ensures ∙ c.if-not-has_copied_at.false)

pub returns : goal.returns
returns c = sym (ap not (all_tested (has_copied_at c.args.workflow.now) _ c.loop-shard.shard (omega arith) c.loop-shard.invariant))
