-- No table before this one is named twice.
use Rattle.std.proofs.Common.{◌≡◌, take}
use Rattle.mt_plain.specs.Plain.{each_once}
use Rattle.mt_moves.proofs.creating.is_set.Given as goal

abbrev pub invariant-loop-index : goal.invariant-loop-index
invariant-loop-index l = each_once (take l.index l.tables) ≡ take l.index l.tables
