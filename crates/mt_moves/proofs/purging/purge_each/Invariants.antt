-- The logs of the shards before this one are purged.
use Rattle.std.proofs.Common.{◌≡◌}
use Rattle.mt_moves.proofs.PurgeLemmas.{purged_to}
use Rattle.mt_moves.proofs.purging.purge_each.Given as goal

abbrev pub invariant-loop-shard : goal.invariant-loop-shard
invariant-loop-shard l = l.primaries ≡ purged_to l.workflows.entries l.keyspace 0 l.shard l.initial.primaries
