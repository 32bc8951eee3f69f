use Rattle.std.proofs.Common.{take}
use Rattle.mt_primary.specs.Denials.{AreDenialsSet, told_by_marks}
use Rattle.mt_primary.proofs.primary.Primary.put_denied.Given as goal

abbrev pub invariant-loop-mark : goal.invariant-loop-mark
invariant-loop-mark l = AreDenialsSet l.fn.self (told_by_marks (take l.mark-index l.mark-items)) l.self
