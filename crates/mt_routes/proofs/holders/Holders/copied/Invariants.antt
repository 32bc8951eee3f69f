-- The keyspaces so far.
use Rattle.std.proofs.Common.{◌≡◌, take}
use Rattle.mt_routes.proofs.holders.Holders.copied.Given as goal

abbrev pub invariant-loop-keyspace : goal.invariant-loop-keyspace
invariant-loop-keyspace l = l.list.items ≡ take l.keyspace-index l.keyspace-items
