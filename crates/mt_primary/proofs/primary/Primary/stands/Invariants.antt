use Rattle.std.proofs.Common.{◌≡◌, take}
use Rattle.mt_primary.specs.Denials.{marks_of}
use Rattle.mt_primary.proofs.primary.Primary.stands.Given as goal

abbrev pub invariant-loop-table : goal.invariant-loop-table
invariant-loop-table l = l.marks.items ≡ marks_of l.self (take l.table-index l.tables)
