-- The primaries of both sides are lent at their places.
use Rattle.std.proofs.Common.{ap, length, sym, ◌∙◌}
use Rattle.mt_steps.specs.Steps.{SidesState}
use Rattle.mt_workflow.specs.Workflows.{way_from}
use Rattle.mt_moves.proofs.BetweenLemmas.{undone, way-is}
use Rattle.mt_moves.proofs.PrimaryLemmas.{sides-written, some-lent, source-lent, targets-lent}
use Rattle.mt_moves.proofs.undoing.undo_done.Goals as goal

pub sides_mut-places-requires-clause-apart : goal.sides_mut-places-requires-clause-apart
sides_mut-places-requires-clause-apart g c = λ same. c.requires.stands.apart (sym c.source.ensures ∙ same ∙ c.target.ensures)

pub sides_of-one-requires-clause-some : goal.sides_of-one-requires-clause-some
sides_of-one-requires-clause-some g c = some-lent c.args.primaries.now c.args.workflow.now c.source.ensures c.target.ensures c.sides_mut-places.ensures.sides c.requires.stands.single

pub undo_on-requires-clause-targets : goal.undo_on-requires-clause-targets
undo_on-requires-clause-targets g c =
    let targets_are = targets-lent c.args.primaries.now c.args.workflow.now c.source.ensures c.target.ensures c.sides_mut-places.ensures.sides c.sides_of-one.result.1.now c.sides_of-one.ensures.target in
    ap length targets_are ∙ c.requires.stands.targets

pub undo_on-requires-clause-shards : goal.undo_on-requires-clause-shards
undo_on-requires-clause-shards g c = ap (λ v. v.shards) (way-is c.args.workflow.now (way_from c.args.way) c.requires.way) ∙ c.requires.stands.shards

pub returns : goal.returns
returns g c =
    let ps = c.args.primaries.now in
    let w = c.args.workflow.now in
    let one = c.sides_of-one.result.0.now in
    let all = c.sides_of-one.result.1.now in
    let after = c.undo_on.new in
    let done : SidesState = record { topology = after.topology; source = after.source; targets = after.targets; workflow = after.workflow; journal = after.journal } in
    let source_is = source-lent c.args.primaries.now c.args.workflow.now c.source.ensures c.target.ensures c.sides_mut-places.ensures.sides one c.sides_of-one.ensures.source in
    let targets_are = targets-lent c.args.primaries.now c.args.workflow.now c.source.ensures c.target.ensures c.sides_mut-places.ensures.sides all c.sides_of-one.ensures.target in
    let become = sides-written c.args.primaries.now c.args.workflow.now c.source.ensures c.target.ensures c.sides_mut-places.ensures.sides after.source after.targets (c.undo_on.auto.targets ∙ ap length targets_are) in
    undone c.args.topology.now ps w c.args.journal.now one all source_is targets_are
    (way_from c.args.way) c.args.kept.now done after.log _
    c.requires.way c.requires.some become c.undo_on.ensures
