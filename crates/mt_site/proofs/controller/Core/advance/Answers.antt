-- The advance leads from each state that the controller stands for to the next one.
use Rattle.std.proofs.Common.{◌≡◌, [], refl, subst}
use Rattle.std.specs.Result.{OnErr}
use Rattle.mt_plain.specs.Events.{advance}
use Rattle.mt_stands.specs.Base.{BaseState, workflow_at}
use Rattle.mt_stands.specs.Ways.{CoreState}
use Rattle.mt_stands.specs.Workflows.{AdvancesWorkflow}
use Rattle.mt_workflow.specs.Workflows.{stream_name}
use Rattle.mt_site.specs.Advance.{advanced_from}
use Rattle.mt_site.proofs.CoreLemmas.{can_advance}
use Rattle.mt_site.proofs.LeaveLemmas.{advances_leave}
use Rattle.mt_site.proofs.SiteLemmas.{lifted, site, whole}
use Rattle.mt_site.proofs.controller.Core.advance.Goals as goal

pub advance-requires : goal.advance-requires
advance-requires c =
    let old : CoreState = site c.self.inside.topology c.self.inside.primaries c.self.inside.workflows.entries c.self.inside.opened.entries c.self.inside.journal c.self.inside.begun in
    let core = c.a_core_stays_one.ensures.base old c.self.invariant in
    let place = c.workflows_of_a_base_stand_in_place.ensures in
    let shards = c.workflows_of_a_base_know_their_shards.ensures in
    let streams = c.streams_of_a_base_lie_in_their_logs.ensures in
    can_advance old.base c.args.workflow.now (stream_name c.args.asked.slot) c.args.asked.shard (place.named old.base core) (shards.source old.base core) (shards.lanes old.base core) (place.apart old.base core)
    (place.at_source old.base core) (place.at_target old.base core) (streams.tables old.base core) (streams.position old.base core) (streams.kept old.base core)

pub invariant_of-self : goal.invariant_of-self
invariant_of-self c =
    let old : CoreState = site c.self.inside.topology c.self.inside.primaries c.self.inside.workflows.entries c.self.inside.opened.entries c.self.inside.journal c.self.inside.begun in
    let core : BaseState = record old.base { primaries = c.advance.new.primaries; workflows = c.advance.new.workflows.entries } in
    c.a_core_stays_one.ensures.stays [] old (record old { base = core }) (advance c.args.workflow.now (stream_name c.args.asked.slot) c.args.asked.shard c.args.asked.at c.args.asked.max) (advanced_from c.advance.result) tt
    (λ more. c.events_on_workflows_step_and_leave_the_ways.ensures.advance _ old core c.args.workflow.now (stream_name c.args.asked.slot) c.args.asked.shard c.args.asked.at c.args.asked.max (advanced_from c.advance.result) (c.advance.ensures core.topology) c.each_is_a_primary.ensures) c.self.invariant

pub returns-clause-does : goal.returns-clause-does
returns-clause-does c =
    let core : BaseState = record { topology = c.self.inside.topology; primaries = c.advance.new.primaries; workflows = c.advance.new.workflows.entries } in
    subst (λ s. AdvancesWorkflow s.base c.args.workflow.now (stream_name c.args.asked.slot) c.args.asked.shard c.args.asked.at c.args.asked.max (advanced_from c.advance.result) core) c.self.view_is (c.advance.ensures core.topology)

pub returns-clause-unchanged : goal.returns-clause-unchanged
returns-clause-unchanged c =
    let old : CoreState = site c.self.inside.topology c.self.inside.primaries c.self.inside.workflows.entries c.self.inside.opened.entries c.self.inside.journal c.self.inside.begun in
    let core : BaseState = record old.base { primaries = c.advance.new.primaries; workflows = c.advance.new.workflows.entries } in
    let place = c.workflows_of_a_base_stand_in_place.ensures in
    let is = c.a_core_stays_one.ensures.base old c.self.invariant in
    subst (λ s. OnErr c.advance.result (whole core old.ways ≡ s)) c.self.view_is (lifted c.advance.result old.ways core old.base
    (advances_leave old.base core c.args.workflow.now (stream_name c.args.asked.slot) c.args.asked.shard c.args.asked.at c.args.asked.max (place.named old.base is c.args.workflow.now)
    c.advance.result (workflow_at old.base.workflows c.args.workflow.now) refl (c.advance.ensures core.topology)))
