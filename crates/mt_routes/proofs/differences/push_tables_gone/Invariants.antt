-- What was added, and what is still to be.
use Rattle.std.proofs.Common.{◌≡◌, ◌++◌, flat_map}
use Rattle.mt_routes.specs.Differences.{tables_gone}
use Rattle.mt_routes.proofs.differences.push_tables_gone.Given as goal

abbrev pub invariant-loop-table : goal.invariant-loop-table
invariant-loop-table g l = l.list.items ++ flat_map (tables_gone (g.S.Standing.tables l.standing)) l.table-iterator ≡ l.fn.list.items ++ flat_map (tables_gone (g.S.Standing.tables l.standing)) l.tables.entries
