-- Those counted, and those that are left, which are 256 a keyspace at most.
use Rattle.std.proofs.Common.{◌≡◌, ◌≤◌, ◌+◌, ◌*◌, flat_map, length}
use Rattle.mt_model.specs.Part.{table_routes}
use Rattle.mt_keyspace.proofs.keyspaces.Keyspaces.route_len.Given as goal

abbrev pub invariant-loop-keyspace : goal.invariant-loop-keyspace
invariant-loop-keyspace l =
    (l.count + length (flat_map table_routes l.keyspace-iterator) ≡ length (flat_map table_routes l.self))
    × (l.count + 256 * length l.keyspace-iterator ≤ 8192)
