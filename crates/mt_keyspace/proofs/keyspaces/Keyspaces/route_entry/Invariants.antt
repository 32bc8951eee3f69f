-- It is that of the index among those that are left.
use Rattle.std.proofs.Common.{◌≡◌, flat_map, slice_get}
use Rattle.mt_model.specs.Part.{table_routes}
use Rattle.mt_keyspace.proofs.keyspaces.Keyspaces.route_entry.Given as goal

abbrev pub invariant-loop-name : goal.invariant-loop-name
invariant-loop-name l = slice_get (flat_map table_routes l.self) l.index ≡ slice_get (flat_map table_routes l.name-iterator) l.before
