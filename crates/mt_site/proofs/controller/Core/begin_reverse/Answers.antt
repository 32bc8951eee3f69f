-- A workflow at rest has no record, and the next state is stood for.
use Rattle.std.proofs.Common.{◌≡◌, [], subst}
use Rattle.std.specs.Result.{OnErr}
use Rattle.mt_event.specs.Reasons.{done_by}
use Rattle.mt_plain.specs.Events.{begin_reverse}
use Rattle.mt_stands.specs.Base.{workflow_at}
use Rattle.mt_stands.specs.Switching.{BeginsReverse}
use Rattle.mt_stands.specs.Ways.{CoreState}
use Rattle.mt_site.proofs.SiteLemmas.{begin_reverse_leaves, site}
use Rattle.mt_site.proofs.controller.Core.begin_reverse.Goals as goal

pub begin_reverse-requires : goal.begin_reverse-requires
begin_reverse-requires c =
    let old : CoreState = site c.self.inside.topology c.self.inside.primaries c.self.inside.workflows.entries c.self.inside.opened.entries c.self.inside.journal c.self.inside.begun in
    let core = c.a_core_stays_one.ensures.base old c.self.invariant in
    λ w found. (
      c.workflows_of_a_base_stand_in_place.ensures.named old.base core c.args.name.now w found,
      λ none. c.each_open_way_has_a_record.ensures.absent old c.self.invariant c.args.name.now w found none,
    )

pub invariant_of-self : goal.invariant_of-self
invariant_of-self c =
    let old : CoreState = site c.self.inside.topology c.self.inside.primaries c.self.inside.workflows.entries c.self.inside.opened.entries c.self.inside.journal c.self.inside.begun in
    let new : CoreState = site c.self.inside.topology c.self.inside.primaries c.begin_reverse.new.workflows.entries c.begin_reverse.new.opened.entries c.self.inside.journal c.begin_reverse.new.begun in
    c.a_core_stays_one.ensures.stays [] old new (begin_reverse c.args.name.now c.args.types) (done_by c.begin_reverse.result) tt
    (λ more. c.a_begin_steps.ensures.reverse _ old new c.args.name.now c.args.types (done_by c.begin_reverse.result) (c.begin_reverse.ensures c.self.inside.topology c.self.inside.primaries c.self.inside.journal)) c.self.invariant

pub returns-clause-does : goal.returns-clause-does
returns-clause-does c =
    let new : CoreState = site c.self.inside.topology c.self.inside.primaries c.begin_reverse.new.workflows.entries c.begin_reverse.new.opened.entries c.self.inside.journal c.begin_reverse.new.begun in
    subst (λ s. BeginsReverse s c.args.name.now c.args.types (done_by c.begin_reverse.result) new) c.self.view_is (c.begin_reverse.ensures c.self.inside.topology c.self.inside.primaries c.self.inside.journal)

pub returns-clause-unchanged : goal.returns-clause-unchanged
returns-clause-unchanged c =
    let old : CoreState = site c.self.inside.topology c.self.inside.primaries c.self.inside.workflows.entries c.self.inside.opened.entries c.self.inside.journal c.self.inside.begun in
    let new : CoreState = site c.self.inside.topology c.self.inside.primaries c.begin_reverse.new.workflows.entries c.begin_reverse.new.opened.entries c.self.inside.journal c.begin_reverse.new.begun in
    subst (λ s. OnErr c.begin_reverse.result (new ≡ s)) c.self.view_is
    (begin_reverse_leaves old new c.args.types c.begin_reverse.result (workflow_at old.base.workflows c.args.name.now) (c.begin_reverse.ensures c.self.inside.topology c.self.inside.primaries c.self.inside.journal))
