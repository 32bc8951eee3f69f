use Rattle.std.proofs.Common.{take}
use Rattle.mt_primary.specs.Denials.{AreDenialsSet, told_by_refresh}
use Rattle.mt_primary.proofs.primary.Primary.take_denied.Given as goal

abbrev pub invariant-loop-entry : goal.invariant-loop-entry
invariant-loop-entry l = AreDenialsSet l.fn.self (told_by_refresh l.keyspace (take l.entry-index l.entry-items) l.tables) l.self
