-- What was added, and what is still to be.
use Rattle.std.proofs.Common.{◌≡◌, ◌++◌, []}
use Rattle.mt_model.specs.Part.{table_routes}
use Rattle.mt_keyspace.proofs.routes.push_routes.Given as goal

abbrev pub invariant-loop-table : goal.invariant-loop-table
invariant-loop-table l =
    l.list.items ++ table_routes (l.name, record { cuts = []; tables = l.table-iterator; denied = [] })
    ≡ l.fn.list.items ++ table_routes (l.name, record { cuts = []; tables = l.places.entries; denied = [] })
