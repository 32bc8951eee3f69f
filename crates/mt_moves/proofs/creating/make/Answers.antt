-- The new workflow is put behind the others.
use Rattle.std.proofs.Common.{◌≡◌, Ok, ap, subst, ◌∙◌}
use Rattle.mt_names.specs.Types.{no_types}
use Rattle.mt_model.specs.Part.{with_entries}
use Rattle.mt_model.specs.Topology.{TopologyState}
use Rattle.mt_primary.specs.Primary.{end_of}
use Rattle.mt_workflow.specs.Workflows.{WorkflowState, live_of, new_workflow}
use Rattle.mt_stands.specs.Keys.{part_entries}
use Rattle.mt_primary.specs.Primaries.{Primaries, primary_of, with_all}
use Rattle.mt_stands.specs.Base.{BaseState, Workflows}
use Rattle.mt_stands.specs.Workflows.{target_made}
use Rattle.mt_moves.specs.Create.{Prepares}
use Rattle.mt_moves.proofs.MakeLemmas.{workflow_pushed}
use Rattle.mt_moves.proofs.creating.make.Goals as goal

pub returns-in-Ok-insert : goal.returns-in-Ok-insert
returns-in-Ok-insert g c =
    let made : WorkflowState = new_workflow c.args.topology.now c.args.asked.name.now c.args.asked.source.now c.args.asked.target.now c.args.asked.tables.now (end_of (primary_of c.args.primaries.now c.args.asked.source.now 0)) in
    let is : c.in-Ok.workflow ≡ made =
    c.in-Ok.ensures.value
    ∙ ap (λ ts. new_workflow c.args.topology.now c.args.asked.name.now c.args.asked.source.now c.args.asked.target.now ts c.position_of-position.result) c.requires.ready.once
    ∙ ap (new_workflow c.args.topology.now c.args.asked.name.now c.args.asked.source.now c.args.asked.target.now c.args.asked.tables.now) c.position_of-position.ensures in
    let after =
    subst (λ w. Prepares (g.W.Asks.scopes c.args.watchers.now) (g.W.Asks.may_answer c.args.watchers.now) w c.args.primaries.now (Ok tt) c.prepare.new.primaries) is c.in-Ok-prepare.ensures.made in
    let written : c.write_part.new.topology ≡ with_entries c.args.topology.now (part_entries made.kept (live_of made) no_types) =
    c.write_part.ensures ∙ ap (λ (w : WorkflowState). with_entries c.args.topology.now (part_entries w.kept (live_of w) no_types)) is in
    let pushed = c.in-Ok-insert.ensures.entries ∙ workflow_pushed c.prepare.new.workflows c.args.workflows.now.entries c.args.asked.name.now c.copied.result c.in-Ok.workflow made c.in-Ok-prepare.ensures.workflows c.copied.ensures is c.requires.new in
    let by_topology : TopologyState → BaseState = λ t. record { topology = t; primaries = c.prepare.new.primaries; workflows = c.insert.new.self.entries } in
    let by_primaries : Primaries → BaseState = λ ps. record { topology = with_entries c.args.topology.now (part_entries made.kept (live_of made) no_types); primaries = ps; workflows = c.insert.new.self.entries } in
    let primaries = with_all c.args.primaries.now made.target (target_made made after.0) in
    let by_workflows : Workflows → BaseState = λ ws. record { topology = with_entries c.args.topology.now (part_entries made.kept (live_of made) no_types); primaries = primaries; workflows = ws } in
    (after.0, after.1, ap by_topology written ∙ ap by_primaries after.2 ∙ ap by_workflows pushed)
