-- The log of one shard more is purged, up to all.
use Rattle.std.proofs.Common.{◌∙◌}
use Rattle.mt_moves.proofs.PurgeLemmas.{shard-next, shards-all}
use Rattle.mt_moves.proofs.purging.purge_each.Goals as goal

pub loop-shard-preserved : goal.loop-shard-preserved
loop-shard-preserved c =
    shard-next c.args.workflows.now.entries c.args.keyspace.now c.args.primaries.now c.loop-shard.primaries c.loop-shard.shard c.index-primaries-shard.result c.purge_log.new.primary
    c.loop-shard-test.true c.loop-shard.invariant c.purge_log.ensures

pub returns : goal.returns
returns c = c.loop-shard.invariant ∙ shards-all c.args.workflows.now.entries c.args.keyspace.now 0 c.loop-shard.shard c.args.primaries.now c.loop-shard-test.false
