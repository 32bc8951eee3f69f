-- The primaries of both sides are lent at their places.
use Rattle.std.proofs.Common.{ap, length, subst, sym, ◌∙◌}
use Rattle.mt_primary.specs.Primary.{PrimaryState}
use Rattle.mt_primary.specs.Primaries.{primary_of, shards_of}
use Rattle.mt_plain.specs.Plain.{next_step}
use Rattle.mt_steps.specs.Plans.{number}
use Rattle.mt_steps.specs.Steps.{SidesState, open_way}
use Rattle.mt_steps.specs.Streams.{KeepsToTest}
use Rattle.mt_workflow.specs.Workflows.{way_from}
use Rattle.mt_moves.proofs.BetweenLemmas.{stepped, way-is}
use Rattle.mt_moves.proofs.PrimaryLemmas.{sides-written, some-lent, source-lent, targets-lent}
use Rattle.mt_moves.proofs.stepping.step_between.Goals as goal

pub sides_mut-places-requires-clause-apart : goal.sides_mut-places-requires-clause-apart
sides_mut-places-requires-clause-apart g c = λ same. c.requires.stands.apart (sym c.source.ensures ∙ same ∙ c.target.ensures)

pub sides_of-one-requires-clause-some : goal.sides_of-one-requires-clause-some
sides_of-one-requires-clause-some g c = some-lent c.args.primaries.now c.args.workflow.now c.source.ensures c.target.ensures c.sides_mut-places.ensures.sides c.requires.stands.single

pub step_on-requires-clause-targets : goal.step_on-requires-clause-targets
step_on-requires-clause-targets g c =
    let targets_are = targets-lent c.args.primaries.now c.args.workflow.now c.source.ensures c.target.ensures c.sides_mut-places.ensures.sides c.sides_of-one.result.1.now c.sides_of-one.ensures.target in
    ap length targets_are ∙ c.requires.stands.targets

pub step_on-requires-clause-shards : goal.step_on-requires-clause-shards
step_on-requires-clause-shards g c = ap (λ v. v.shards) (way-is c.args.workflow.now (way_from c.args.way) c.requires.way) ∙ c.requires.stands.shards

pub step_on-requires-clause-kept : goal.step_on-requires-clause-kept
step_on-requires-clause-kept g c =
    let ps = c.args.primaries.now in
    let w = c.args.workflow.now in
    let way = way_from c.args.way in
    let one = c.sides_of-one.result.0.now in
    let all = c.sides_of-one.result.1.now in
    let source_is = source-lent c.args.primaries.now c.args.workflow.now c.source.ensures c.target.ensures c.sides_mut-places.ensures.sides one c.sides_of-one.ensures.source in
    let targets_are = targets-lent c.args.primaries.now c.args.workflow.now c.source.ensures c.target.ensures c.sides_mut-places.ensures.sides all c.sides_of-one.ensures.target in
    subst (λ (p : PrimaryState). KeepsToTest w (open_way w) (number c.next_step.result) p all) (sym source_is)
    (subst (λ each. KeepsToTest w (open_way w) (number c.next_step.result) (primary_of ps w.source 0) each) (sym targets_are)
    (subst (λ n. KeepsToTest w (open_way w) n (primary_of ps w.source 0) (shards_of ps w.target).each) (sym c.next_step.ensures.number)
    (subst (λ v. KeepsToTest w v (next_step way) (primary_of ps w.source 0) (shards_of ps w.target).each) (sym (way-is w way c.requires.way)) c.requires.stands.unread)))

pub returns : goal.returns
returns g c =
    let ps = c.args.primaries.now in
    let w = c.args.workflow.now in
    let one = c.sides_of-one.result.0.now in
    let all = c.sides_of-one.result.1.now in
    let after = c.step_on.new in
    let done : SidesState = record { topology = after.topology; source = after.source; targets = after.targets; workflow = after.workflow; journal = after.journal } in
    let source_is = source-lent c.args.primaries.now c.args.workflow.now c.source.ensures c.target.ensures c.sides_mut-places.ensures.sides one c.sides_of-one.ensures.source in
    let targets_are = targets-lent c.args.primaries.now c.args.workflow.now c.source.ensures c.target.ensures c.sides_mut-places.ensures.sides all c.sides_of-one.ensures.target in
    let become = sides-written c.args.primaries.now c.args.workflow.now c.source.ensures c.target.ensures c.sides_mut-places.ensures.sides after.source after.targets (c.step_on.auto.targets ∙ ap length targets_are) in
    stepped c.args.topology.now ps w c.args.journal.now one all source_is targets_are
    (g.W.Asks.scopes c.args.watchers.now) (g.W.Asks.may_answer c.args.watchers.now) (way_from c.args.way) c.args.kept.now c.next_step.result c.step_on.result done after.log _
    c.requires.way c.next_step.ensures.step become c.step_on.ensures
