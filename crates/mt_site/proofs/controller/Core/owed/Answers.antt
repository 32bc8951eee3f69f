-- A core has few workflows.
use Rattle.mt_stands.specs.Ways.{CoreState}
use Rattle.mt_site.proofs.SiteLemmas.{site}
use Rattle.mt_site.proofs.controller.Core.owed.Goals as goal

pub owed-requires : goal.owed-requires
owed-requires c =
    let old : CoreState = site c.self.inside.topology c.self.inside.primaries c.self.inside.workflows.entries c.self.inside.opened.entries c.self.inside.journal c.self.inside.begun in
    c.a_base_owes_what_its_state_owes.ensures.few old.base (c.a_core_stays_one.ensures.base old c.self.invariant)
