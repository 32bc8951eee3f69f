-- What is least with the lanes before this one.
use Rattle.std.proofs.Common.{◌≡◌, fold, take}
use Rattle.mt_stands.specs.Purges.{least_at}
use Rattle.mt_steps.specs.Shards.{shards_of}
use Rattle.mt_moves.proofs.purging.least_of.Given as goal

abbrev pub invariant-loop-lane : goal.invariant-loop-lane
invariant-loop-lane l = l.least ≡ fold (least_at l.keyspace l.shard l.workflow) l.start (take l.lane (shards_of l.workflow))
