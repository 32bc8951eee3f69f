-- The table at the place is marked.
use Rattle.std.proofs.Common.{None}
use Rattle.indexmap.specs.IndexMap.{set_value_at}
use Rattle.mt_primary.specs.Denials.{AreDenialsSet, told_by_mark}
use Rattle.mt_primary.specs.Primary.{IsPrimary, PrimaryState}
use Rattle.mt_primary.proofs.PlacedLemmas.{denial_at}
use Rattle.mt_primary.proofs.primary.Primary.set_denied_at.Goals as goal

abbrev before : goal.After-self-1 → PrimaryState
before c = record { tables = c.self.inside.tables.entries; log = c.self.inside.log.log }

abbrev after : goal.After-self-1 → PrimaryState
after c = record { tables = set_value_at c.self.inside.tables.entries c.args.place c.set_denied.new.self; log = c.self.inside.log.log }

marked : (c : goal.After-self-1) → IsPrimary (after c) × AreDenialsSet (before c) (λ name. told_by_mark name None (c.args.table.now, c.args.denied)) (after c)
marked c =
    let there = rw (← c.self.view_is) at c.requires.there in
    rw c.set_denied.ensures (denial_at (before c) c.args.place c.args.table.now c.pair_mut-rows.result.0.now c.pair_mut-rows.result.1.now c.self.invariant there c.pair_mut-rows.ensures.value c.args.denied)

pub invariant_of-self : goal.invariant_of-self
invariant_of-self c = (marked c).0

pub returns : goal.returns
returns c = rw (← c.self.view_is) (marked c).1
