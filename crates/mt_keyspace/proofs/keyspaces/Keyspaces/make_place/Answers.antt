-- A place more in one keyspace.
use Rattle.std.proofs.Common.{sym, subst}
use Rattle.mt_model.specs.Topology.{with_keyspace_state, with_table_place}
use Rattle.mt_model.proofs.DistinctLemmas.{distinct-table_made}
use Rattle.mt_denied.specs.Denied.{done}
use Rattle.mt_keyspace.specs.Edits.{Edits, answer_of, grows_at, refusal_at}
use Rattle.mt_keyspace.specs.Room.{lacks_mark_place, mark_place_refusal}
use Rattle.mt_keyspace.proofs.EditLemmas.{edited_at}
use Rattle.mt_keyspace.proofs.InvariantLemmas.{kept_edit}
use Rattle.mt_keyspace.proofs.keyspaces.Keyspaces.make_place.Goals as goal

pub invariant_of-self : goal.invariant_of-self
invariant_of-self c =
    kept_edit (with_table_place c.args.table.now) c.self.inside.places.entries c.args.keyspace.now c.in-Some.keyspace.now c.make_place.new.self _ _ _ (answer_of (done c.make_place.result))
    (distinct-table_made _ c.args.keyspace.now c.args.table.now c.self.invariant.distinct) c.self.invariant (sym c.in-Some.ensures.value) (c.get_mut.follows.holds c.make_place.new.self).0 c.make_place.ensures.edits

pub returns-clause-edits : goal.returns-clause-edits
returns-clause-edits c =
    let table = c.args.table.now in
    subst (λ ks. Edits ks (refusal_at (λ state. mark_place_refusal state.tables table) ks c.args.keyspace.now) (grows_at (λ state. lacks_mark_place state.tables table) ks c.args.keyspace.now) (with_keyspace_state (with_table_place table) ks c.args.keyspace.now) (answer_of (done c.make_place.result)) (c.get_mut.follows.lender c.make_place.new.self).entries) c.self.view_is
    (edited_at (λ state. mark_place_refusal state.tables table) (λ state. lacks_mark_place state.tables table) (with_table_place table) c.self.inside.places.entries _ c.args.keyspace.now c.in-Some.keyspace.now c.make_place.new.self (answer_of (done c.make_place.result))
    (sym c.in-Some.ensures.value) (c.get_mut.follows.holds c.make_place.new.self).0 c.make_place.ensures.edits)
