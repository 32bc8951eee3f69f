-- No test refuses it.
use Rattle.std.proofs.Common.{◌≡◌, All, None, true, false, ap, arith, is_some, length, option_map, subst, sym, ◌∙◌, ◌||◌}
use Rattle.std.proofs.lemmas.Bool.{lt-leb}
use Rattle.std.specs.Prelude.{nat_le}
use Rattle.mt_primary.specs.Primary.{end_of}
use Rattle.mt_event.specs.Events.{refusal_from}
use Rattle.mt_model.specs.Part.{part_keys}
use Rattle.mt_model.specs.Topology.{TopologyState, has_place}
use Rattle.mt_model.proofs.PartLemmas.{part_places}
use Rattle.mt_plain.specs.Events.{full}
use Rattle.mt_plain.specs.Refuse.{most_workflows, or_else, refuse_if}
use Rattle.mt_topology.specs.Part.{reserve_refusal}
use Rattle.mt_workflow.specs.Workflows.{new_workflow}
use Rattle.mt_primary.specs.Primaries.{primary_of}
use Rattle.mt_stands.specs.Base.{BaseState}
use Rattle.mt_stands.specs.Workflows.{create_refusal, is_full, new_of}
use Rattle.mt_moves.specs.Create.{Makes}
use Rattle.mt_moves.proofs.CreateLemmas.{refused-set}
use Rattle.mt_moves.proofs.MakeLemmas.{made-set, new-placed, sides-there}
use Rattle.mt_moves.proofs.creating.create_set.Goals as goal

pub returns-in-Some : goal.returns-in-Some
returns-in-Some g c =
    let base : BaseState = record { topology = c.args.topology.now; primaries = c.args.primaries.now; workflows = c.args.workflows.now.entries } in
    refused-set base (g.W.Asks.scopes c.args.watchers.now) (g.W.Asks.may_answer c.args.watchers.now) c.args.asked.name.now c.args.asked.source.now c.args.asked.target.now c.args.asked.tables.now (refusal_from c.in-Some.refusal)
    (c.refusal_before.ensures ∙ ap (λ o. or_else (option_map refusal_from o) (refuse_if (is_full base c.args.asked.source.now c.args.asked.target.now c.args.asked.tables.now) full)) c.in-Some.is)

pub make-requires-clause-places : goal.make-requires-clause-places
make-requires-clause-places g c =
    let there = sides-there c.args.topology.now c.args.asked.source.now c.args.asked.target.now c.args.asked.tables.now c.in-Ok.ensures.0 in
    subst (λ t. All (λ key. has_place t key ≡ true) (part_keys c.args.asked.source.now c.args.asked.target.now c.args.asked.tables.now)) (sym c.in-Ok.ensures.1)
    (part_places c.args.topology.now c.args.asked.source.now c.args.asked.target.now c.args.asked.tables.now there.0 there.1)

pub returns-in-Ok : goal.returns-in-Ok
returns-in-Ok g c =
    let base : BaseState = record { topology = c.args.topology.now; primaries = c.args.primaries.now; workflows = c.args.workflows.now.entries } in
    let few : nat_le most_workflows (length base.workflows) ≡ false = lt-leb most_workflows (length base.workflows) (omega (arith, c.len.ensures.len)) in
    let fits : is_full base c.args.asked.source.now c.args.asked.target.now c.args.asked.tables.now ≡ false =
    ap (λ b. b || is_some (reserve_refusal c.args.topology.now c.args.asked.source.now c.args.asked.target.now c.args.asked.tables.now)) few ∙ ap is_some c.in-Ok.ensures.0 in
    let none : create_refusal base (g.W.Asks.scopes c.args.watchers.now) c.args.asked.name.now c.args.asked.source.now c.args.asked.target.now c.args.asked.tables.now ≡ None =
    c.refusal_before.ensures ∙ ap (λ o. or_else (option_map refusal_from o) (refuse_if (is_full base c.args.asked.source.now c.args.asked.target.now c.args.asked.tables.now) full)) c.in_default.is
    ∙ ap (λ b. refuse_if b full) fits in
    let position = end_of (primary_of c.args.primaries.now c.args.asked.source.now 0) in
    let is : new_workflow c.reserve_part.new.self c.args.asked.name.now c.args.asked.source.now c.args.asked.target.now c.args.asked.tables.now position ≡ new_of base c.args.asked.name.now c.args.asked.source.now c.args.asked.target.now c.args.asked.tables.now =
    ap (λ (t : TopologyState). new_workflow t c.args.asked.name.now c.args.asked.source.now c.args.asked.target.now c.args.asked.tables.now position) c.in-Ok.ensures.1
    ∙ new-placed c.args.topology.now (part_keys c.args.asked.source.now c.args.asked.target.now c.args.asked.tables.now) c.args.asked.name.now c.args.asked.source.now c.args.asked.target.now c.args.asked.tables.now position in
    rw c.answer_by_reason.ensures (
    made-set base (g.W.Asks.scopes c.args.watchers.now) (g.W.Asks.may_answer c.args.watchers.now) c.args.asked.name.now c.args.asked.source.now c.args.asked.target.now c.args.asked.tables.now c.reserve_part.new.self c.make.result
    (record { topology = c.make.new.topology; primaries = c.make.new.primaries; workflows = c.make.new.workflows.entries })
    none c.in-Ok.ensures.1 (c.requires.can.back none)
    (subst (λ w. Makes (g.W.Asks.scopes c.args.watchers.now) (g.W.Asks.may_answer c.args.watchers.now) w (record base { topology = c.reserve_part.new.self }) c.make.result
    (record { topology = c.make.new.topology; primaries = c.make.new.primaries; workflows = c.make.new.workflows.entries })) is c.make.ensures))
