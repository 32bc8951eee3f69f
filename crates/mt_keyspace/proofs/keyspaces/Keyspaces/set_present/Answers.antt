-- A mark that is set makes no place.
use Rattle.std.proofs.Common.{is_some, sym, ap, ◌∙◌}
use Rattle.std.specs.Map.{lookup}
use Rattle.mt_names.specs.Names.{same_text}
use Rattle.mt_model.specs.declared.entries.Entry.TheVariants as entry
use Rattle.mt_model.specs.Topology.{keyspace_at, with_table_mark}
use Rattle.mt_model.proofs.DistinctLemmas.{distinct-with_entry}
use Rattle.mt_keyspace.proofs.InvariantLemmas.{found_part, kept}
use Rattle.mt_keyspace.proofs.keyspaces.Keyspaces.set_present.Goals as goal

pub set_present-requires : goal.set_present-requires
set_present-requires c =
    found_part (λ state. is_some (lookup (same_text c.args.table.now) state.tables)) c.args.self.now c.args.keyspace.now c.in-Some.keyspace.now
    (ap (λ ks. keyspace_at ks c.args.keyspace.now) (sym c.self.view_is) ∙ sym c.in-Some.ensures.value) c.requires

pub invariant_of-self-2 : goal.invariant_of-self-2
invariant_of-self-2 c =
    kept (with_table_mark c.args.table.now c.args.mark) c.self.inside.places.entries c.args.keyspace.now c.in-Some.keyspace.now c.set_present.new.self _
    (distinct-with_entry _ (entry.Present c.args.keyspace.now c.args.table.now c.args.mark) c.self.invariant.distinct) c.self.invariant (sym c.in-Some.ensures.value) (c.get_mut.follows.holds c.set_present.new.self).0 c.set_present.ensures.after
