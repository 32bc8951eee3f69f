-- Either the target has the shard, or not.
use Rattle.std.proofs.Common.{Err, refl, subst, sym, ◌∙◌}
use Rattle.mt_workflow.specs.Workflows.{stream_name}
use Rattle.mt_site.specs.Advance.{AdvancesLane, advanced_from}
use Rattle.mt_event.specs.declared.reason.Reason.TheVariants as reason
use Rattle.mt_site.proofs.advance.advance_lane.Goals as goal

pub returns-then-has_shard : goal.returns-then-has_shard
returns-then-has_shard c =
    subst (λ b. AdvancesLane b c.args.primaries.now c.args.workflow.now (stream_name c.args.asked.slot) c.args.asked.shard c.args.asked.at c.args.asked.max (advanced_from c.advance_stream.result) c.advance_stream.new.workflow c.advance_stream.new.primaries)
    (sym (sym c.has_shard.ensures ∙ c.if-has_shard.true)) c.advance_stream.ensures

pub returns : goal.returns
returns c =
    subst (λ b. AdvancesLane b c.args.primaries.now c.args.workflow.now (stream_name c.args.asked.slot) c.args.asked.shard c.args.asked.at c.args.asked.max (advanced_from (Err reason.NoShard)) c.args.workflow.now c.args.primaries.now)
    (sym (sym c.has_shard.ensures ∙ c.if-has_shard.false)) (refl, refl, refl)
