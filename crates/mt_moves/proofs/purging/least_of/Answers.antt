-- One lane more each time, up to all of them.
use Rattle.std.proofs.Common.{ap, sym, arith, ◌∙◌}
use Rattle.mt_stands.specs.Purges.{least_at}
use Rattle.mt_moves.proofs.ShardLemmas.{fold_all, fold_next}
use Rattle.mt_moves.proofs.purging.least_of.Goals as goal

pub loop-lane-preserved : goal.loop-lane-preserved
loop-lane-preserved c =
    let w = c.args.workflow.now in
    c.least_at-least.ensures ∙ ap (λ n. least_at c.args.keyspace.now c.args.shard w n c.loop-lane.lane) c.loop-lane.invariant
    ∙ sym (fold_next (least_at c.args.keyspace.now c.args.shard w) c.args.start _ c.loop-lane.lane (omega arith))

pub returns : goal.returns
returns c = c.loop-lane.invariant ∙ fold_all (least_at c.args.keyspace.now c.args.shard c.args.workflow.now) c.args.start _ c.loop-lane.lane (omega arith)
