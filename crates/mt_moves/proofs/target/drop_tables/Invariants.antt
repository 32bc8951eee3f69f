-- The tables before this one are dropped.
use Rattle.std.proofs.Common.{◌≡◌, fold, take}
use Rattle.mt_primary.specs.Writes.{without_table}
use Rattle.mt_moves.proofs.target.drop_tables.Given as goal

abbrev pub invariant-loop-table : goal.invariant-loop-table
invariant-loop-table l = l.primary ≡ fold without_table l.initial.primary (take l.table-index l.tables)
