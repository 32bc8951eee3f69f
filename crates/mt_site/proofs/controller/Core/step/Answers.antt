-- The workflow stands in its place, with a record of its open way; and the next state is stood for.
use Rattle.std.proofs.Common.{◌≡◌, subst}
use Rattle.std.specs.Result.{OnErr}
use Rattle.mt_event.specs.Reasons.{done_by}
use Rattle.mt_stands.specs.Switching.{StepsWorkflow}
use Rattle.mt_stands.specs.Ways.{CoreState}
use Rattle.mt_site.proofs.SiteLemmas.{can_step, steps_leave, site}
use Rattle.mt_site.proofs.controller.Core.step.Goals as goal

pub step-requires : goal.step-requires
step-requires g c =
    let old : CoreState = site c.self.inside.topology c.self.inside.primaries c.self.inside.workflows.entries c.self.inside.opened.entries c.self.inside.journal c.self.inside.begun in
    let core = c.a_core_stays_one.ensures.base old c.self.invariant in
    let place = c.workflows_of_a_base_stand_in_place.ensures in
    let record_of = c.each_open_way_has_a_record.ensures in
    let name = c.args.name.now in
    can_step old name (place.named old.base core name) (place.source old.base core name) (place.target old.base core name) (place.apart old.base core name) (place.places old.base core name)
    (record_of.there old c.self.invariant name) (record_of.kept old c.self.invariant name) (record_of.within old c.self.invariant name) (record_of.unused old c.self.invariant name)
    (c.what_a_step_looks_at_is_kept.ensures old c.self.invariant name) (c.workflows_of_a_base_know_their_shards.ensures.source old.base core name) (c.workflows_of_a_base_know_their_shards.ensures.lanes old.base core name)
    (record_of.shards old c.self.invariant name)

pub invariant_of-self : goal.invariant_of-self
invariant_of-self g c =
    let old : CoreState = site c.self.inside.topology c.self.inside.primaries c.self.inside.workflows.entries c.self.inside.opened.entries c.self.inside.journal c.self.inside.begun in
    let new : CoreState = site c.step.new.topology c.step.new.primaries c.step.new.workflows.entries c.step.new.opened.entries c.step.new.journal c.self.inside.begun in
    c.a_step_steps.ensures.leaves old new c.args.name.now c.args.at (done_by c.step.result) tt (c.step.ensures c.self.inside.begun) c.self.invariant

pub returns-clause-does : goal.returns-clause-does
returns-clause-does g c =
    let new : CoreState = site c.step.new.topology c.step.new.primaries c.step.new.workflows.entries c.step.new.opened.entries c.step.new.journal c.self.inside.begun in
    subst (λ s. StepsWorkflow s (g.W.Asks.scopes c.args.watchers.now) (g.W.Asks.may_answer c.args.watchers.now) c.args.name.now c.args.at (done_by c.step.result) new) c.self.view_is (c.step.ensures c.self.inside.begun)

pub returns-clause-unchanged : goal.returns-clause-unchanged
returns-clause-unchanged g c =
    let old : CoreState = site c.self.inside.topology c.self.inside.primaries c.self.inside.workflows.entries c.self.inside.opened.entries c.self.inside.journal c.self.inside.begun in
    let new : CoreState = site c.step.new.topology c.step.new.primaries c.step.new.workflows.entries c.step.new.opened.entries c.step.new.journal c.self.inside.begun in
    let core = c.a_core_stays_one.ensures.base old c.self.invariant in
    let place = c.workflows_of_a_base_stand_in_place.ensures in
    subst (λ s. OnErr c.step.result (new ≡ s)) c.self.view_is
    (steps_leave (g.W.Asks.scopes c.args.watchers.now) (g.W.Asks.may_answer c.args.watchers.now) old new c.args.name.now c.args.at c.step.result
    (λ w. place.named old.base core c.args.name.now w)
    (c.step.ensures c.self.inside.begun))
