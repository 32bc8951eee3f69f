-- A place more in one keyspace.
use Rattle.std.proofs.Common.{sym, subst}
use Rattle.mt_model.specs.Topology.{with_keyspace_state, with_denied_place}
use Rattle.mt_model.proofs.DistinctLemmas.{distinct-denial_made}
use Rattle.mt_denied.specs.Denied.{done}
use Rattle.mt_keyspace.specs.Edits.{Edits, answer_of, grows_at, refusal_at}
use Rattle.mt_keyspace.specs.Room.{lacks_mark_place, mark_place_refusal}
use Rattle.mt_keyspace.proofs.EditLemmas.{edited_at}
use Rattle.mt_keyspace.proofs.InvariantLemmas.{kept_edit}
use Rattle.mt_keyspace.proofs.keyspaces.Keyspaces.make_denied_place.Goals as goal

pub invariant_of-self : goal.invariant_of-self
invariant_of-self c =
    kept_edit (with_denied_place c.args.table.now) c.self.inside.places.entries c.args.keyspace.now c.in-Some.keyspace.now c.make_denied_place.new.self _ _ _ (answer_of (done c.make_denied_place.result))
    (distinct-denial_made _ c.args.keyspace.now c.args.table.now c.self.invariant.distinct) c.self.invariant (sym c.in-Some.ensures.value) (c.get_mut.follows.holds c.make_denied_place.new.self).0 c.make_denied_place.ensures.edits

pub returns-clause-edits : goal.returns-clause-edits
returns-clause-edits c =
    let table = c.args.table.now in
    subst (λ ks. Edits ks (refusal_at (λ state. mark_place_refusal state.denied table) ks c.args.keyspace.now) (grows_at (λ state. lacks_mark_place state.denied table) ks c.args.keyspace.now) (with_keyspace_state (with_denied_place table) ks c.args.keyspace.now) (answer_of (done c.make_denied_place.result)) (c.get_mut.follows.lender c.make_denied_place.new.self).entries) c.self.view_is
    (edited_at (λ state. mark_place_refusal state.denied table) (λ state. lacks_mark_place state.denied table) (with_denied_place table) c.self.inside.places.entries _ c.args.keyspace.now c.in-Some.keyspace.now c.make_denied_place.new.self (answer_of (done c.make_denied_place.result))
    (sym c.in-Some.ensures.value) (c.get_mut.follows.holds c.make_denied_place.new.self).0 c.make_denied_place.ensures.edits)
