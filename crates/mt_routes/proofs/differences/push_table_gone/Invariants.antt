-- What was added of the keyspaces so far.
use Rattle.std.proofs.Common.{◌≡◌, ◌++◌, flat_map, take}
use Rattle.mt_routes.specs.Differences.{table_gone}
use Rattle.mt_routes.proofs.differences.push_table_gone.Given as goal

abbrev pub invariant-loop-keyspace : goal.invariant-loop-keyspace
invariant-loop-keyspace g l = l.list.items ≡ l.fn.list.items ++ flat_map (table_gone (g.S.Standing.tables l.standing) l.table) (take l.keyspace-index l.holders)
