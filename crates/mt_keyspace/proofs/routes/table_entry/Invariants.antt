-- It is that of the index among those that are left.
use Rattle.std.proofs.Common.{◌≡◌, [], slice_get}
use Rattle.mt_model.specs.Part.{table_routes}
use Rattle.mt_keyspace.proofs.routes.table_entry.Given as goal

abbrev pub invariant-loop-table : goal.invariant-loop-table
invariant-loop-table l =
    slice_get (table_routes (l.name, record { cuts = []; tables = l.places.entries; denied = [] })) l.index
    ≡ slice_get (table_routes (l.name, record { cuts = []; tables = l.table-iterator; denied = [] })) l.before
