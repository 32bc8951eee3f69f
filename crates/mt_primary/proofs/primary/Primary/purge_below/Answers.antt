-- The kept entries lead to the rows as before.
use Rattle.mt_primary.specs.Primary.{PrimaryState}
use Rattle.mt_primary.proofs.PrimaryLemmas.{IsPrimary-purged}
use Rattle.mt_primary.proofs.primary.Primary.purge_below.Goals as goal

pub invariant_of-self : goal.invariant_of-self
invariant_of-self c =
    let before : PrimaryState = record { tables = c.self.inside.tables.entries; log = c.self.inside.log.log } in
    rw c.purge_below.ensures (IsPrimary-purged before c.args.position (rw (← c.self.view_is) at c.requires) c.self.invariant)
