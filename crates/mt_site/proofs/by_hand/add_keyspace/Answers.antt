-- The primaries are added first; where the topology has no memory, they are as they were.
use Rattle.std.proofs.Common.{◌≡◌, ap, refl, sym, take, length, ◌-◌, ◌∙◌}
use Rattle.std.specs.Option.{option_map}
use Rattle.mt_model.specs.Topology.{TopologyState, with_keyspace}
use Rattle.mt_topology.specs.Edits.{add_keyspace_refusal}
use Rattle.mt_primary.specs.Primaries as primaries
use Rattle.mt_primary.specs.Primaries.{Primaries, has_primaries, new_shards}
use Rattle.mt_stands.specs.ByHand.{refusal_by_topology}
use Rattle.mt_stands.specs.Base.{BaseState, Workflows}
use Rattle.mt_moves.proofs.PrimaryLemmas.{there-or-not}
use Rattle.mt_site.proofs.HandLemmas.{keyspace-exists, keyspace-free, keyspace-full, keyspace-left, keyspace-refused}
use Rattle.mt_site.proofs.PrimaryLemmas.{added, not_added, popped}
use Rattle.mt_site.proofs.by_hand.add_keyspace.Goals as goal

pub returns-then-is_some : goal.returns-then-is_some
returns-then-is_some c = λ (workflows : Workflows).
    let name = c.args.name.now in
    let there = there-or-not c.args.primaries.now name c.place.result c.place.ensures.found in
    (keyspace-exists c.args.topology.now.keyspaces name (sym (c.requires.there name) ∙ sym there ∙ sym c.is_some.ensures ∙ c.if-is_some.true), refl)

pub returns-then-len-eq-MAX_KEYSPACES : goal.returns-then-len-eq-MAX_KEYSPACES
returns-then-len-eq-MAX_KEYSPACES c = λ (workflows : Workflows).
    let name = c.args.name.now in
    let there = there-or-not c.args.primaries.now name c.place.result c.place.ensures.found in (
      keyspace-full c.args.topology.now.keyspaces name (sym (c.requires.there name) ∙ sym there ∙ sym c.is_some.ensures ∙ c.if-is_some.false)
          (sym c.requires.count ∙ sym c.len.ensures ∙ c.if-len-eq-MAX_KEYSPACES.true),
      refl,
    )

pub add-requires : goal.add-requires
add-requires c =
    let there = there-or-not c.args.primaries.now c.args.name.now c.place.result c.place.ensures.found in
    ap (has_primaries c.args.primaries.now) c.copied.ensures ∙ sym there ∙ sym c.is_some.ensures ∙ c.if-is_some.false

pub returns-then-is_err : goal.returns-then-is_err
returns-then-is_err c = λ (workflows : Workflows).
    let name = c.args.name.now in
    let there = there-or-not c.args.primaries.now name c.place.result c.place.ensures.found in
    let by_primaries : Primaries → BaseState = λ ps. record { topology = c.args.topology.now; primaries = ps; workflows = workflows } in (
      keyspace-free c.args.topology.now.keyspaces name (sym (c.requires.there name) ∙ sym there ∙ sym c.is_some.ensures ∙ c.if-is_some.false)
          (λ e. c.if-len-eq-MAX_KEYSPACES.false (c.len.ensures ∙ c.requires.count ∙ e)),
      refl,
      ap by_primaries (not_added _ _ c.add.result (sym c.is_err.ensures.value ∙ c.if-is_err.true) c.add.ensures),
    )

pub returns-in-Err : goal.returns-in-Err
returns-in-Err c = λ (workflows : Workflows).
    let ps = c.args.primaries.now in
    let now = c.add.new.self in
    let made : now ≡ primaries.with_keyspace ps c.copied.result c.copied-2.result = added _ _ c.add.result (sym c.is_err.ensures.value ∙ c.if-is_err.false) c.add.ensures in
    let back : c.pop.new.self ≡ ps = c.pop.ensures ∙ ap (λ (l : Primaries). take (length l - 1) l) made ∙ popped ps (c.copied.result, new_shards c.copied-2.result) in
    let t = c.args.topology.now in
    let name = c.args.name.now in
    let refusal = add_keyspace_refusal t.keyspaces name in
    let wanted = with_keyspace t name c.copied-3.result in
    let left = keyspace-left t c.add_keyspace.new.self refusal wanted c.in-Err.fault c.in-Err.ensures in
    let by_topology : TopologyState → BaseState = λ u. record { topology = u; primaries = c.pop.new.self; workflows = workflows } in
    let by_primaries : Primaries → BaseState = λ l. record { topology = t; primaries = l; workflows = workflows } in
    let done : BaseState = record { topology = with_keyspace t name c.args.shards.now; primaries = primaries.with_keyspace ps name c.args.shards.now; workflows = workflows } in
    rw c.from.ensures (keyspace-refused t c.add_keyspace.new.self refusal wanted c.in-Err.fault c.in-Err.ensures (by_primaries ps) (by_topology c.add_keyspace.new.self) done (ap by_topology left ∙ ap by_primaries back))

pub returns : goal.returns
returns c = λ (workflows : Workflows).
    let ps = c.args.primaries.now in
    let name = c.args.name.now in
    let cuts = c.args.shards.now in
    let done = c.in_default.ensures in
    let made = added _ _ c.add.result (sym c.is_err.ensures.value ∙ c.if-is_err.false) c.add.ensures
    ∙ ap (λ n. primaries.with_keyspace ps n c.copied-2.result) c.copied.ensures ∙ ap (primaries.with_keyspace ps name) c.copied-2.ensures in
    let by_topology : TopologyState → BaseState = λ t. record { topology = t; primaries = c.add.new.self; workflows = workflows } in
    let by_primaries : Primaries → BaseState = λ l. record { topology = with_keyspace c.args.topology.now name cuts; primaries = l; workflows = workflows } in
    (ap (option_map refusal_by_topology) done.0, ap by_topology (done.1 ∙ ap (with_keyspace c.args.topology.now name) c.copied-3.ensures) ∙ ap by_primaries made)
