-- The rule is edited in each state that the controller stands for.
use Rattle.std.proofs.Common.{◌≡◌, [], rules, subst}
use Rattle.std.specs.Option.{option_copied}
use Rattle.std.specs.Result.{OnErr}
use Rattle.mt_event.specs.Reasons.{done_by}
use Rattle.mt_stands.specs.Base.{BaseState}
use Rattle.mt_stands.specs.Ways.{CoreState, WaysState}
use Rattle.mt_site.proofs.SiteLemmas.{lifted, site, whole}
use Rattle.mt_plain.specs.Events.{edit_rule}
use Rattle.mt_stands.specs.ByHand.{EditsRule}
use Rattle.mt_site.proofs.LeaveLemmas.{does_leave}
use Rattle.mt_site.proofs.controller.Core.edit_rule.Goals as goal

pub invariant_of-self : goal.invariant_of-self
invariant_of-self c =
    let old : CoreState = site c.self.inside.topology c.self.inside.primaries c.self.inside.workflows.entries c.self.inside.opened.entries c.self.inside.journal c.self.inside.begun in
    let core : BaseState = record { topology = c.edit_rule.new.topology; primaries = c.self.inside.primaries; workflows = c.self.inside.workflows.entries } in
    c.a_core_stays_one.ensures.stays [] old (record old { base = core }) (edit_rule c.args.key.now c.map.result) (done_by c.edit_rule.result) c.edit_rule.ensures.named
    (λ more. c.events_by_hand_step_and_leave_the_ways.ensures.rule _ old core c.args.key.now c.map.result (done_by c.edit_rule.result) (c.edit_rule.ensures.edits c.self.inside.primaries)) c.self.invariant

pub returns-clause-does : goal.returns-clause-does
returns-clause-does c =
    let core : BaseState = record { topology = c.edit_rule.new.topology; primaries = c.self.inside.primaries; workflows = c.self.inside.workflows.entries } in
    let same : c.map.result ≡ option_copied c.args.target = search rules in
    subst (λ t. EditsRule c.args.self.now.base c.args.key.now t (done_by c.edit_rule.result) core) same
    (subst (λ s. EditsRule s.base c.args.key.now c.map.result (done_by c.edit_rule.result) core) c.self.view_is (c.edit_rule.ensures.edits c.self.inside.primaries))

pub returns-clause-unchanged : goal.returns-clause-unchanged
returns-clause-unchanged c =
    let old : BaseState = record { topology = c.self.inside.topology; primaries = c.self.inside.primaries; workflows = c.self.inside.workflows.entries } in
    let core : BaseState = record { topology = c.edit_rule.new.topology; primaries = c.self.inside.primaries; workflows = c.self.inside.workflows.entries } in
    let ways : WaysState = record { opened = c.self.inside.opened.entries; journal = c.self.inside.journal; begun = c.self.inside.begun } in
    subst (λ s. OnErr c.edit_rule.result (whole core ways ≡ s)) c.self.view_is (lifted c.edit_rule.result ways core old (does_leave old core _ _ _ c.edit_rule.result (c.edit_rule.ensures.edits c.self.inside.primaries)))
