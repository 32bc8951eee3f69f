-- A table more in one keyspace.
use Rattle.std.proofs.Common.{sym, subst}
use Rattle.mt_model.specs.Topology.{with_keyspace_state, with_new_table}
use Rattle.mt_model.proofs.DistinctLemmas.{distinct-with_table}
use Rattle.mt_keyspace.specs.Edits.{Edits, grows_at, refusal_at, lacks_table_place, new_table_refusal}
use Rattle.mt_keyspace.proofs.EditLemmas.{edited_at}
use Rattle.mt_keyspace.proofs.InvariantLemmas.{kept_edit}
use Rattle.mt_keyspace.proofs.keyspaces.Keyspaces.add_table.Goals as goal

pub invariant_of-self-2 : goal.invariant_of-self-2
invariant_of-self-2 c =
    kept_edit (with_new_table c.args.table.now) c.self.inside.places.entries c.args.keyspace.now c.in-Some.keyspace.now c.add_table.new.self _ _ _ c.add_table.result
    (distinct-with_table _ c.args.keyspace.now c.args.table.now c.self.invariant.distinct) c.self.invariant (sym c.in-Some.ensures.value) (c.get_mut.follows.holds c.add_table.new.self).0 c.add_table.ensures

pub returns : goal.returns
returns c =
    let table = c.args.table.now in
    subst (λ ks. Edits ks (refusal_at (λ state. new_table_refusal state table) ks c.args.keyspace.now) (grows_at (λ state. lacks_table_place state table) ks c.args.keyspace.now) (with_keyspace_state (with_new_table table) ks c.args.keyspace.now) c.add_table.result (c.get_mut.follows.lender c.add_table.new.self).entries) c.self.view_is
    (edited_at (λ state. new_table_refusal state table) (λ state. lacks_table_place state table) (with_new_table table) c.self.inside.places.entries _ c.args.keyspace.now c.in-Some.keyspace.now c.add_table.new.self c.add_table.result
    (sym c.in-Some.ensures.value) (c.get_mut.follows.holds c.add_table.new.self).0 c.add_table.ensures)
