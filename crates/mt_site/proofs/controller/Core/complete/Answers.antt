-- What Complete writes has places, and the next state is stood for.
use Rattle.std.proofs.Common.{◌≡◌, [], subst}
use Rattle.std.specs.Result.{OnErr}
use Rattle.mt_event.specs.Reasons.{done_by}
use Rattle.mt_plain.specs.Events.{complete}
use Rattle.mt_stands.specs.Base.{workflow_at}
use Rattle.mt_stands.specs.Switching.{Completes}
use Rattle.mt_stands.specs.Ways.{CoreState}
use Rattle.mt_site.proofs.SiteLemmas.{can_complete, completes_leave, site}
use Rattle.mt_site.proofs.controller.Core.complete.Goals as goal

pub complete-requires : goal.complete-requires
complete-requires c =
    let old : CoreState = site c.self.inside.topology c.self.inside.primaries c.self.inside.workflows.entries c.self.inside.opened.entries c.self.inside.journal c.self.inside.begun in
    let core = c.a_core_stays_one.ensures.base old c.self.invariant in
    let place = c.workflows_of_a_base_stand_in_place.ensures in
    let tables = c.primaries_of_a_base_have_the_tables_of_its_topology.ensures in
    let name = c.args.name.now in
    can_complete old.base name (place.named old.base core name) (place.source old.base core name) (place.apart old.base core name) (place.places old.base core name) (place.at_source old.base core name)
    (c.workflows_of_a_base_know_their_shards.ensures.source old.base core name) (tables.tables old.base core) (tables.places old.base core)

pub invariant_of-self : goal.invariant_of-self
invariant_of-self c =
    let old : CoreState = site c.self.inside.topology c.self.inside.primaries c.self.inside.workflows.entries c.self.inside.opened.entries c.self.inside.journal c.self.inside.begun in
    let new : CoreState = site c.complete.new.topology c.complete.new.primaries c.complete.new.workflows.entries c.self.inside.opened.entries c.self.inside.journal c.self.inside.begun in
    c.a_core_stays_one.ensures.stays [] old new (complete c.args.name.now) (done_by c.complete.result) tt
    (λ more. c.a_complete_steps.ensures _ old new c.args.name.now (done_by c.complete.result) (c.complete.ensures (record { opened = c.self.inside.opened.entries; journal = c.self.inside.journal; begun = c.self.inside.begun })) c.each_is_a_primary.ensures) c.self.invariant

pub returns-clause-does : goal.returns-clause-does
returns-clause-does c =
    let new : CoreState = site c.complete.new.topology c.complete.new.primaries c.complete.new.workflows.entries c.self.inside.opened.entries c.self.inside.journal c.self.inside.begun in
    subst (λ s. Completes s c.args.name.now (done_by c.complete.result) new) c.self.view_is (c.complete.ensures (record { opened = c.self.inside.opened.entries; journal = c.self.inside.journal; begun = c.self.inside.begun }))

pub returns-clause-unchanged : goal.returns-clause-unchanged
returns-clause-unchanged c =
    let old : CoreState = site c.self.inside.topology c.self.inside.primaries c.self.inside.workflows.entries c.self.inside.opened.entries c.self.inside.journal c.self.inside.begun in
    let new : CoreState = site c.complete.new.topology c.complete.new.primaries c.complete.new.workflows.entries c.self.inside.opened.entries c.self.inside.journal c.self.inside.begun in
    subst (λ s. OnErr c.complete.result (new ≡ s)) c.self.view_is
    (completes_leave old new c.complete.result (workflow_at old.base.workflows c.args.name.now) (c.complete.ensures (record { opened = c.self.inside.opened.entries; journal = c.self.inside.journal; begun = c.self.inside.begun })))
