-- Tables of a topology that stands, and of a state.
use Rattle.std.proofs.Common.{◌≡◌, ℕ, Bool, true, false, cond, List, Option, None, Some, is_some, refl, sym, ap, ◌∙◌}
use Rattle.std.specs.Option.{option_map_or}
use Rattle.std.specs.Prelude.{◌||◌, ◌&&◌}
use Rattle.mt_names.specs.Names.{same_text}
use Rattle.mt_model.specs.declared.entries.EntryKey.TheVariants as about
use Rattle.mt_model.specs.Topology.{TopologyState, has_place, is_present, value_of}
use Rattle.mt_plain.specs.Plain.{Live, Plain, moves, part_owner}
use Rattle.mt_plain.specs.Serve.{has_table, mark_in, served_by}
use Rattle.mt_stands.specs.Topologies.{TopologyStands}
use Rattle.mt_refinement.proofs.FoundLemmas.{found_any}

module _ (p : Plain) (keyspace table : List ℕ) where
  -- a table is there where one was made, or a workflow moves it there
  abbrev there : Bool
  there = is_some (part_owner p (about.Present keyspace table)) || is_present p.topology.keyspaces keyspace table

  pub table_is : has_table p keyspace table ≡ there
  table_is =
      ap (λ b. cond b true (is_present p.topology.keyspaces keyspace table)) (sym (found_any (λ (w : Live). moves w table && same_text w.target keyspace) p.lives))
      ∙ by (is_some (part_owner p (about.Present keyspace table)))
    where
      by : (b : Bool) → cond b true (is_present p.topology.keyspaces keyspace table) ≡ (b || is_present p.topology.keyspaces keyspace table)
      by true = refl
      by false = refl

  module _ (t : TopologyState) (stands : TopologyStands p t) where
    present_is : is_present t.keyspaces keyspace table ≡ there
    present_is = ap mark_in (stands.served.entries (about.Present keyspace table)) ∙ by (part_owner p (about.Present keyspace table))
      where
        by : (o : Option Live) → mark_in (option_map_or (λ w. served_by p.topology w (about.Present keyspace table)) o (value_of p.topology (about.Present keyspace table))) ≡ (is_some o || is_present p.topology.keyspaces keyspace table)
        by None = refl
        by (Some w) = refl

    pub has_present : has_table p keyspace table ≡ is_present t.keyspaces keyspace table
    has_present = table_is ∙ sym present_is

    pub place_present : has_place p.topology (about.Present keyspace table) ≡ is_present p.topology.keyspaces keyspace table → has_place t (about.Present keyspace table) ≡ is_present t.keyspaces keyspace table
    place_present is =
        stands.places (about.Present keyspace table) ∙ ap (λ b. is_some (part_owner p (about.Present keyspace table)) || b) is ∙ sym present_is
