-- The tables before this one have their entries.
use Rattle.std.proofs.Common.{◌≡◌, take}
use Rattle.mt_steps.specs.Refreshes.{denials_at}
use Rattle.mt_steps.proofs.refresh.denials.Given as goal

abbrev pub invariant-loop-table : goal.invariant-loop-table
invariant-loop-table l = l.change ≡ denials_at l.topology l.side (take l.table-index l.tables)
