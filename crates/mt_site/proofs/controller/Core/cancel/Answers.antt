-- The workflow is cancelled in each state that the controller stands for.
use Rattle.std.proofs.Common.{◌≡◌, [], refl, subst}
use Rattle.std.specs.Result.{OnErr}
use Rattle.mt_event.specs.Reasons.{done_by}
use Rattle.mt_stands.specs.Base.{BaseState}
use Rattle.mt_stands.specs.Ways.{CoreState, WaysState}
use Rattle.mt_site.proofs.SiteLemmas.{lifted, site, whole}
use Rattle.mt_plain.specs.Events.{cancel}
use Rattle.mt_stands.specs.Base.{workflow_at}
use Rattle.mt_stands.specs.Workflows.{Cancels}
use Rattle.mt_site.proofs.LeaveLemmas.{cancels_leave}
use Rattle.mt_site.proofs.controller.Core.cancel.Goals as goal

pub cancel-requires : goal.cancel-requires
cancel-requires c =
    let old : CoreState = site c.self.inside.topology c.self.inside.primaries c.self.inside.workflows.entries c.self.inside.opened.entries c.self.inside.journal c.self.inside.begun in
    let core = c.a_core_stays_one.ensures.base old c.self.invariant in
    let place = c.workflows_of_a_base_stand_in_place.ensures in
    λ w found. record {
      named = place.named old.base core c.args.name.now w found;
      places = place.places old.base core c.args.name.now w found;
      target = place.target old.base core c.args.name.now w found;
    }

pub invariant_of-self : goal.invariant_of-self
invariant_of-self c =
    let old : CoreState = site c.self.inside.topology c.self.inside.primaries c.self.inside.workflows.entries c.self.inside.opened.entries c.self.inside.journal c.self.inside.begun in
    let core : BaseState = record { topology = c.cancel.new.topology; primaries = c.cancel.new.primaries; workflows = c.cancel.new.workflows.entries } in
    c.a_core_stays_one.ensures.stays [] old (record old { base = core }) (cancel c.args.name.now) (done_by c.cancel.result) tt
    (λ more. c.events_on_workflows_step_and_leave_the_ways.ensures.cancel _ old core c.args.name.now (done_by c.cancel.result) c.cancel.ensures c.each_is_a_primary.ensures) c.self.invariant

pub returns-clause-does : goal.returns-clause-does
returns-clause-does c =
    let core : BaseState = record { topology = c.cancel.new.topology; primaries = c.cancel.new.primaries; workflows = c.cancel.new.workflows.entries } in
    subst (λ s. Cancels s.base c.args.name.now (done_by c.cancel.result) core) c.self.view_is c.cancel.ensures

pub returns-clause-unchanged : goal.returns-clause-unchanged
returns-clause-unchanged c =
    let old : BaseState = record { topology = c.self.inside.topology; primaries = c.self.inside.primaries; workflows = c.self.inside.workflows.entries } in
    let core : BaseState = record { topology = c.cancel.new.topology; primaries = c.cancel.new.primaries; workflows = c.cancel.new.workflows.entries } in
    let ways : WaysState = record { opened = c.self.inside.opened.entries; journal = c.self.inside.journal; begun = c.self.inside.begun } in
    subst (λ s. OnErr c.cancel.result (whole core ways ≡ s)) c.self.view_is (lifted c.cancel.result ways core old (cancels_leave old core c.args.name.now c.cancel.result (workflow_at old.workflows c.args.name.now) refl c.cancel.ensures))
