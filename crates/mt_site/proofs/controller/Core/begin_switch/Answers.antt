-- A workflow at rest has no record, and the next state is stood for.
use Rattle.std.proofs.Common.{◌≡◌, [], subst}
use Rattle.std.specs.Result.{OnErr}
use Rattle.mt_event.specs.Reasons.{done_by}
use Rattle.mt_plain.specs.Events.{begin_switch}
use Rattle.mt_stands.specs.Base.{workflow_at}
use Rattle.mt_stands.specs.Switching.{BeginsSwitch}
use Rattle.mt_stands.specs.Ways.{CoreState}
use Rattle.mt_site.proofs.SiteLemmas.{begin_switch_leaves, site}
use Rattle.mt_site.proofs.controller.Core.begin_switch.Goals as goal

pub begin_switch-requires : goal.begin_switch-requires
begin_switch-requires c =
    let old : CoreState = site c.self.inside.topology c.self.inside.primaries c.self.inside.workflows.entries c.self.inside.opened.entries c.self.inside.journal c.self.inside.begun in
    let core = c.a_core_stays_one.ensures.base old c.self.invariant in
    λ w found. (
      c.workflows_of_a_base_stand_in_place.ensures.named old.base core c.args.name.now w found,
      λ none. c.each_open_way_has_a_record.ensures.absent old c.self.invariant c.args.name.now w found none,
    )

pub invariant_of-self : goal.invariant_of-self
invariant_of-self c =
    let old : CoreState = site c.self.inside.topology c.self.inside.primaries c.self.inside.workflows.entries c.self.inside.opened.entries c.self.inside.journal c.self.inside.begun in
    let new : CoreState = site c.self.inside.topology c.self.inside.primaries c.begin_switch.new.workflows.entries c.begin_switch.new.opened.entries c.self.inside.journal c.begin_switch.new.begun in
    c.a_core_stays_one.ensures.stays [] old new (begin_switch c.args.name.now c.args.types) (done_by c.begin_switch.result) tt
    (λ more. c.a_begin_steps.ensures.switch _ old new c.args.name.now c.args.types (done_by c.begin_switch.result) (c.begin_switch.ensures c.self.inside.topology c.self.inside.primaries c.self.inside.journal)) c.self.invariant

pub returns-clause-does : goal.returns-clause-does
returns-clause-does c =
    let new : CoreState = site c.self.inside.topology c.self.inside.primaries c.begin_switch.new.workflows.entries c.begin_switch.new.opened.entries c.self.inside.journal c.begin_switch.new.begun in
    subst (λ s. BeginsSwitch s c.args.name.now c.args.types (done_by c.begin_switch.result) new) c.self.view_is (c.begin_switch.ensures c.self.inside.topology c.self.inside.primaries c.self.inside.journal)

pub returns-clause-unchanged : goal.returns-clause-unchanged
returns-clause-unchanged c =
    let old : CoreState = site c.self.inside.topology c.self.inside.primaries c.self.inside.workflows.entries c.self.inside.opened.entries c.self.inside.journal c.self.inside.begun in
    let new : CoreState = site c.self.inside.topology c.self.inside.primaries c.begin_switch.new.workflows.entries c.begin_switch.new.opened.entries c.self.inside.journal c.begin_switch.new.begun in
    subst (λ s. OnErr c.begin_switch.result (new ≡ s)) c.self.view_is
    (begin_switch_leaves old new c.args.types c.begin_switch.result (workflow_at old.base.workflows c.args.name.now) (c.begin_switch.ensures c.self.inside.topology c.self.inside.primaries c.self.inside.journal))
