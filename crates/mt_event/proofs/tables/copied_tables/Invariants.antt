-- The tables passed.
use Rattle.std.proofs.Common.{◌≡◌, take}
use Rattle.mt_event.proofs.tables.copied_tables.Given as goal

abbrev pub invariant-loop-table : goal.invariant-loop-table
invariant-loop-table l = l.list.items ≡ take l.table-index l.tables
