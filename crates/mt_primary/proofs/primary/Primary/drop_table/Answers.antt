-- The table's entry is removed, and the others stay.
use Rattle.mt_primary.specs.Primary.{PrimaryState}
use Rattle.mt_primary.proofs.PrimaryLemmas.{IsPrimary-dropped}
use Rattle.mt_primary.proofs.primary.Primary.drop_table.Goals as goal

abbrev before : goal.Joined-shift_remove → PrimaryState
before c = record { tables = c.self.inside.tables.entries; log = c.self.inside.log.log }

pub invariant_of-self : goal.invariant_of-self
invariant_of-self c = rw c.shift_remove.ensures.entries (IsPrimary-dropped (before c) c.args.table.now c.self.invariant)
