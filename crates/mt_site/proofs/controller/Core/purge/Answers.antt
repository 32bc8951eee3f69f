-- The core with all logs purged is one still.
use Rattle.std.proofs.Common.{◌≡◌, ap, subst}
use Rattle.mt_plain.specs.Events.{done}
use Rattle.mt_primary.specs.Primaries.{Primaries}
use Rattle.mt_stands.specs.Base.{BaseState}
use Rattle.mt_stands.specs.Purges.{with_purges}
use Rattle.mt_stands.specs.Ways.{CoreState}
use Rattle.mt_site.proofs.SiteLemmas.{site}
use Rattle.mt_site.proofs.controller.Core.purge.Goals as goal

pub invariant_of-self : goal.invariant_of-self
invariant_of-self c =
    let old : CoreState = site c.self.inside.topology c.self.inside.primaries c.self.inside.workflows.entries c.self.inside.opened.entries c.self.inside.journal c.self.inside.begun in
    let with_primaries : Primaries → BaseState = λ ps. record old.base { primaries = ps } in
    c.a_purged_core_stands.ensures.core old (with_primaries c.purge.new.primaries) c.self.invariant
    (c.a_purged_base_stands.ensures.all old.base (with_primaries c.purge.new.primaries) done (ap with_primaries c.purge.ensures))

pub returns-clause-base : goal.returns-clause-base
returns-clause-base c =
    let old : CoreState = site c.self.inside.topology c.self.inside.primaries c.self.inside.workflows.entries c.self.inside.opened.entries c.self.inside.journal c.self.inside.begun in
    let with_primaries : Primaries → BaseState = λ ps. record old.base { primaries = ps } in
    subst (λ s. with_primaries c.purge.new.primaries ≡ with_purges s.base) c.self.view_is (ap with_primaries c.purge.ensures)
