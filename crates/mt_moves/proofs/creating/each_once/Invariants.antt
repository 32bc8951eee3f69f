-- The tables passed, each once.
use Rattle.std.proofs.Common.{◌≡◌, take}
use Rattle.mt_plain.specs.Plain.{each_once}
use Rattle.mt_moves.proofs.creating.each_once.Given as goal

abbrev pub invariant-loop-table : goal.invariant-loop-table
invariant-loop-table l = l.set.items ≡ each_once (take l.table-index l.tables)
