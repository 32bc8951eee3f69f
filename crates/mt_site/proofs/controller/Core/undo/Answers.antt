-- The workflow stands in its place, with a record of its open way; and the next state is stood for.
use Rattle.std.proofs.Common.{◌≡◌, [], subst}
use Rattle.std.specs.Result.{OnErr}
use Rattle.mt_event.specs.Reasons.{done_by}
use Rattle.mt_plain.specs.Events.{undo}
use Rattle.mt_stands.specs.Switching.{UndoesWorkflow}
use Rattle.mt_stands.specs.Ways.{CoreState}
use Rattle.mt_site.proofs.SiteLemmas.{can_step, undoes_leave, site}
use Rattle.mt_site.proofs.controller.Core.undo.Goals as goal

pub undo-requires : goal.undo-requires
undo-requires g c =
    let old : CoreState = site c.self.inside.topology c.self.inside.primaries c.self.inside.workflows.entries c.self.inside.opened.entries c.self.inside.journal c.self.inside.begun in
    let core = c.a_core_stays_one.ensures.base old c.self.invariant in
    let place = c.workflows_of_a_base_stand_in_place.ensures in
    let record_of = c.each_open_way_has_a_record.ensures in
    let name = c.args.name.now in
    can_step old name (place.named old.base core name) (place.source old.base core name) (place.target old.base core name) (place.apart old.base core name) (place.places old.base core name)
    (record_of.there old c.self.invariant name) (record_of.kept old c.self.invariant name) (record_of.within old c.self.invariant name) (record_of.unused old c.self.invariant name)
    (c.what_a_step_looks_at_is_kept.ensures old c.self.invariant name) (c.workflows_of_a_base_know_their_shards.ensures.source old.base core name) (c.workflows_of_a_base_know_their_shards.ensures.lanes old.base core name)
    (record_of.shards old c.self.invariant name)

pub invariant_of-self : goal.invariant_of-self
invariant_of-self g c =
    let old : CoreState = site c.self.inside.topology c.self.inside.primaries c.self.inside.workflows.entries c.self.inside.opened.entries c.self.inside.journal c.self.inside.begun in
    let new : CoreState = site c.undo.new.topology c.undo.new.primaries c.undo.new.workflows.entries c.undo.new.opened.entries c.undo.new.journal c.self.inside.begun in
    c.a_core_stays_one.ensures.stays [] old new (undo c.args.name.now c.args.at) (done_by c.undo.result) tt
    (λ more. c.an_undo_steps.ensures _ old new c.args.name.now c.args.at (done_by c.undo.result) (c.undo.ensures c.self.inside.begun)) c.self.invariant

pub returns-clause-does : goal.returns-clause-does
returns-clause-does g c =
    let new : CoreState = site c.undo.new.topology c.undo.new.primaries c.undo.new.workflows.entries c.undo.new.opened.entries c.undo.new.journal c.self.inside.begun in
    subst (λ s. UndoesWorkflow s c.args.name.now c.args.at (done_by c.undo.result) new) c.self.view_is (c.undo.ensures c.self.inside.begun)

pub returns-clause-unchanged : goal.returns-clause-unchanged
returns-clause-unchanged g c =
    let old : CoreState = site c.self.inside.topology c.self.inside.primaries c.self.inside.workflows.entries c.self.inside.opened.entries c.self.inside.journal c.self.inside.begun in
    let new : CoreState = site c.undo.new.topology c.undo.new.primaries c.undo.new.workflows.entries c.undo.new.opened.entries c.undo.new.journal c.self.inside.begun in
    subst (λ s. OnErr c.undo.result (new ≡ s)) c.self.view_is
    (undoes_leave old new c.args.name.now c.args.at c.undo.result (c.undo.ensures c.self.inside.begun))
