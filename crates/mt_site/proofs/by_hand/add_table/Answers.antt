-- Where the primary has no memory, the topology is as it was.
use Rattle.std.proofs.Common.{◌≡◌, ap, refl, subst, sym, true, ◌∙◌}
use Rattle.std.specs.Option.{option_map}
use Rattle.mt_model.specs.declared.entries.EntryKey.TheVariants as about
use Rattle.mt_model.specs.Topology.{TopologyState, has_place}
use Rattle.mt_stands.specs.ByHand.{refusal_by_topology}
use Rattle.mt_primary.specs.Primaries.{Primaries}
use Rattle.mt_stands.specs.Base.{BaseState, Workflows}
use Rattle.mt_site.specs.ByHand.{without_table}
use Rattle.mt_site.proofs.HandLemmas.{has-primary, table-free, table_has_place, taken_back}
use Rattle.mt_site.proofs.PrimaryLemmas.{not_created}
use Rattle.mt_site.proofs.by_hand.add_table.Goals as goal

pub create_table_at-requires-clause-there : goal.create_table_at-requires-clause-there
create_table_at-requires-clause-there c = has-primary c.args.topology.now c.args.primaries.now c.args.keyspace.now c.args.table.now c.requires c.in_ok-add_table.ensures.0

pub create_table_at-requires-clause-absent : goal.create_table_at-requires-clause-absent
create_table_at-requires-clause-absent c = λ shard within.
    c.requires.tables c.args.keyspace.now shard within c.args.table.now ∙ (table-free c.args.topology.now.keyspaces c.args.keyspace.now c.args.table.now c.in_ok-add_table.ensures.0).1

pub take_table-requires : goal.take_table-requires
take_table-requires c =
    let made = c.in_ok-add_table.ensures in
    subst (λ t. has_place t (about.Present c.args.keyspace.now c.args.table.now) ≡ true) (sym made.1)
    (table_has_place c.args.topology.now c.args.primaries.now c.args.keyspace.now c.args.table.now c.requires made.0)

pub returns-then-is_err : goal.returns-then-is_err
returns-then-is_err c = λ (workflows : Workflows).
    let made = c.in_ok-add_table.ensures in
    let back : c.take_table.new.topology ≡ c.args.topology.now =
    c.take_table.ensures ∙ ap (λ t. without_table t c.args.keyspace.now c.args.table.now) made.1
    ∙ taken_back c.args.topology.now c.args.primaries.now c.args.keyspace.now c.args.table.now c.requires made.0 in
    let kept = not_created c.args.primaries.now c.create_table_at.new.primaries c.args.keyspace.now c.args.table.now c.create_table_at.result (sym c.is_err.ensures.value ∙ c.if-is_err.true) c.create_table_at.ensures in
    let by_topology : TopologyState → BaseState = λ t. record { topology = t; primaries = c.create_table_at.new.primaries; workflows = workflows } in
    let by_primaries : Primaries → BaseState = λ ps. record { topology = c.args.topology.now; primaries = ps; workflows = workflows } in
    (ap (option_map refusal_by_topology) made.0, refl, ap by_topology back ∙ ap by_primaries kept)
