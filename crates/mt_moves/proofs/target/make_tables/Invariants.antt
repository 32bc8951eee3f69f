-- The tables before this one are made.
use Rattle.std.proofs.Common.{◌≡◌, fold, take}
use Rattle.mt_primary.specs.Writes.{with_new_table}
use Rattle.mt_moves.proofs.target.make_tables.Given as goal

abbrev pub invariant-loop-index : goal.invariant-loop-index
invariant-loop-index l = l.primary ≡ fold with_new_table l.initial.primary (take l.index l.tables)
