-- What was added, and what is still to be.
use Rattle.std.proofs.Common.{◌≡◌, ◌++◌, flat_map}
use Rattle.mt_model.specs.Part.{table_routes}
use Rattle.mt_keyspace.proofs.keyspaces.Keyspaces.push_routes.Given as goal

abbrev pub invariant-loop-name : goal.invariant-loop-name
invariant-loop-name l = l.list.items ++ flat_map table_routes l.name-iterator ≡ l.fn.list.items ++ flat_map table_routes l.self
