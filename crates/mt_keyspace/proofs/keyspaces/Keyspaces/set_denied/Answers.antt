-- A mark that is set makes no place.
use Rattle.std.proofs.Common.{is_some, sym, ap, ◌∙◌}
use Rattle.std.specs.Map.{lookup}
use Rattle.mt_names.specs.Names.{same_text}
use Rattle.mt_model.specs.declared.entries.Entry.TheVariants as entry
use Rattle.mt_model.specs.Topology.{keyspace_at, with_denied_mark}
use Rattle.mt_model.proofs.DistinctLemmas.{distinct-with_entry}
use Rattle.mt_keyspace.proofs.InvariantLemmas.{found_part, kept}
use Rattle.mt_keyspace.proofs.keyspaces.Keyspaces.set_denied.Goals as goal

pub set_denied-requires : goal.set_denied-requires
set_denied-requires c =
    found_part (λ state. is_some (lookup (same_text c.args.table.now) state.denied)) c.args.self.now c.args.keyspace.now c.in-Some.keyspace.now
    (ap (λ ks. keyspace_at ks c.args.keyspace.now) (sym c.self.view_is) ∙ sym c.in-Some.ensures.value) c.requires

pub invariant_of-self-2 : goal.invariant_of-self-2
invariant_of-self-2 c =
    kept (with_denied_mark c.args.table.now c.args.mark) c.self.inside.places.entries c.args.keyspace.now c.in-Some.keyspace.now c.set_denied.new.self _
    (distinct-with_entry _ (entry.Denied c.args.keyspace.now c.args.table.now c.args.mark) c.self.invariant.distinct) c.self.invariant (sym c.in-Some.ensures.value) (c.get_mut.follows.holds c.set_denied.new.self).0 c.set_denied.ensures.after
