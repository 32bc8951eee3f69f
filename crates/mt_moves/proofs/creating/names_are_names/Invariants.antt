-- The tables before this one have names.
use Rattle.std.proofs.Common.{take}
use Rattle.std.specs.List.{AllByRecursion}
use Rattle.mt_names.specs.Names.{IsTableName}
use Rattle.mt_moves.proofs.creating.names_are_names.Given as goal

abbrev pub invariant-loop-table : goal.invariant-loop-table
invariant-loop-table l = AllByRecursion IsTableName (take l.table-index l.tables)
