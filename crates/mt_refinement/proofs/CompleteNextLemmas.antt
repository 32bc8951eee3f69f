-- The state behind Complete: which tables are there, who moves them, what numbers they have, and what the own lists refuse.
use Rattle.std.proofs.Common.{◌≡◌, ◌≢◌, ℕ, Bool, true, false, not, cond, List, [], ◌∷◌, Option, None, Some, refl, sym, ap, ◌∙◌}
use Rattle.std.proofs.Math.Bool.{and-false}
use Rattle.std.proofs.lemmas.Bool.{and_from}
use Rattle.std.specs.List.{list_any}
use Rattle.std.specs.Option.{option_map_or}
use Rattle.std.specs.Prelude.{◌&&◌, ◌||◌, is_some, unwrap_or}
use Rattle.mt_names.specs.declared.types.TypeSet.{TypeSet}
use Rattle.mt_names.specs.Names.{same_text}
use Rattle.mt_names.proofs.SameLemmas.{same_text_decides}
use Rattle.mt_model.specs.declared.entries.EntryKey.TheVariants as about
use Rattle.mt_model.specs.Topology.{HasDistinctPlaces, KeyspaceState, is_present, with_keyspace_state, with_new_table}
use Rattle.mt_plain.specs.Events.{Way, not_all_switched, under_way}
use Rattle.mt_plain.specs.Next.{with_completed, with_tables, without_tables}
use Rattle.mt_plain.specs.Plain.{Live, Plain, cuts_of, is_side, mover, moves, number_of, owner, stands_done_at}
use Rattle.mt_plain.specs.Refuse.{complete_refusal, or_else, refuse_if}
use Rattle.mt_plain.specs.Serve.{has_table, is_listed_at, list_types, refuses, refuses_by, step_of_list}
use Rattle.mt_plain.specs.Writes.{client_number}
use Rattle.mt_laws.specs.Reached.{IsInPlace}
use Rattle.mt_laws.proofs.CompleteLemmas.{absent_at_source, number-elsewhere, number-unmoved, present_at_target, present_elsewhere}
use Rattle.mt_laws.proofs.CutLemmas.{cuts_changed}
use Rattle.mt_laws.proofs.EntryValueLemmas.{present_from_value, value_of-completed}
use Rattle.mt_laws.proofs.LiveLemmas.{Apart, IsIn, any-in, any-nowhere, find_none, text_apart, text_differs, unique}
use Rattle.mt_laws.proofs.ReachLemmas.{named}
use Rattle.mt_stands.proofs.KnownLemmas.{source_is_side}
use Rattle.mt_refinement.proofs.GoneLemmas.{allowed_gone, mover_gone, mover_stays, refused_stays, table_stays}

-- ---- at rest with all switched

pub at_target : (w : Live) → complete_refusal w ≡ None → (w.way ≡ None) × (w.switched.primary ≡ true)
at_target w none = by w.way refl w.switched.primary refl none
  where
    by : (o : Option Way) → w.way ≡ o → (b : Bool) → w.switched.primary ≡ b
        → or_else (refuse_if (is_some o) under_way) (refuse_if (not (b && w.switched.replica && w.switched.rdonly)) not_all_switched) ≡ None → (w.way ≡ None) × (w.switched.primary ≡ true)
    by (Some way) e b f none = absurd cc
    by None e true f none = (e, f)
    by None e false f none = absurd cc

pub owner_at_target : (w : Live) → complete_refusal w ≡ None → owner w ≡ w.target
owner_at_target w none = ap (λ b. cond b w.target w.source) (at_target w none).1

-- no keyspace but the source refuses a table of the workflow
pub allowed_before : (w : Live) → complete_refusal w ≡ None → (keyspace : List ℕ) (shard : ℕ) → w.source ≢ keyspace → refuses_by w keyspace shard ≡ false
allowed_before w none keyspace shard other =
    ap (λ (t : TypeSet). is_listed_at w t keyspace) types_at_rest
    ∙ ap (λ b. (b || same_text w.target keyspace) && cond b w.switched.primary (not w.switched.primary)) (text_differs w.source keyspace other)
    ∙ ap (λ b. same_text w.target keyspace && not b) (at_target w none).1
    ∙ and-false (same_text w.target keyspace)
  where
    types_at_rest : list_types w keyspace shard ≡ w.switched
    types_at_rest = ap (λ o. option_map_or (λ (way : Way). cond (stands_done_at way (step_of_list w keyspace) shard) way.after way.before) o w.switched) (at_target w none).0

-- ---- the state

module _ (p : Plain) (apart : Apart p.lives) (w : Live) (is_in : IsIn w p.lives) where
  abbrev pub q : Plain
  q = with_completed p (Some w)

  pub none_moves : (table : List ℕ) → moves w table ≡ true → mover q table ≡ None
  none_moves = mover_gone p apart w.name w is_in refl

  pub same_mover : (table : List ℕ) → moves w table ≡ false → mover q table ≡ mover p table
  same_mover = mover_stays p apart w.name w is_in refl

  pub none_refuses : (keyspace : List ℕ) (shard : ℕ) (table : List ℕ) → moves w table ≡ true → refuses q keyspace shard table ≡ false
  none_refuses = allowed_gone p apart w.name w is_in refl

  pub same_refuses : (keyspace : List ℕ) (shard : ℕ) (table : List ℕ) → moves w table ≡ false → refuses q keyspace shard table ≡ refuses p keyspace shard table
  same_refuses = refused_stays p apart w.name w is_in refl

  -- ---- shards

  pub same_cuts : (keyspace : List ℕ) → cuts_of q keyspace ≡ cuts_of p keyspace
  same_cuts keyspace =
      cuts_changed (with_tables w.tables) (tables_cut w.tables) (with_keyspace_state (without_tables w.tables) p.topology.keyspaces w.source) w.target keyspace
      ∙ cuts_changed (without_tables w.tables) (λ state. refl) p.topology.keyspaces w.source keyspace
    where
      tables_cut : (tables : List (List ℕ)) (state : KeyspaceState) → (with_tables tables state).cuts ≡ state.cuts
      tables_cut [] state = refl
      tables_cut (table ∷ tables) state = tables_cut tables (with_new_table table state)

  -- ---- numbers

  -- a table that it did not move keeps its number
  pub number_stays : (keyspace table : List ℕ) → moves w table ≡ false → number_of q keyspace table ≡ number_of p keyspace table
  number_stays keyspace table other = ap (λ o. unwrap_or o p.made) (number-unmoved w p.numbers keyspace table other)

  -- and so does any table of a keyspace that is none of its sides
  pub number_away : (keyspace table : List ℕ) → w.source ≢ keyspace → w.target ≢ keyspace → number_of q keyspace table ≡ number_of p keyspace table
  number_away keyspace table from to = ap (λ o. unwrap_or o p.made) (number-elsewhere w p.numbers keyspace table from to)

  pub client_stays : (keyspace table : List ℕ) → moves w table ≡ false → client_number q keyspace table ≡ client_number p keyspace table
  client_stays keyspace table other =
      number_stays (option_map_or (λ (u : Live). cond (is_side u keyspace) u.source keyspace) (mover q table) keyspace) table other
      ∙ ap (λ o. number_of p (option_map_or (λ (u : Live). cond (is_side u keyspace) u.source keyspace) o keyspace) table) (same_mover table other)

  -- ---- tables

  -- the target alone is where it moves its tables
  moved_there : (keyspace table : List ℕ) → moves w table ≡ true → list_any (λ (v : Live). moves v table && same_text v.target keyspace) p.lives ≡ same_text w.target keyspace
  moved_there keyspace table moved = by (same_text w.target keyspace) refl
    where
      none : same_text w.target keyspace ≡ false → (v : Live) → IsIn v p.lives → (b : Bool) → moves v table ≡ b → (moves v table && same_text v.target keyspace) ≡ false
      none e v is true m =
          ap (λ b. b && same_text v.target keyspace) m
          ∙ ap (λ (u : Live). same_text u.target keyspace) (unique p.lives v w apart is is_in (λ one. one.tables table m moved)) ∙ e
      none e v is false m = ap (λ b. b && same_text v.target keyspace) m

      by : (b : Bool) → same_text w.target keyspace ≡ b → list_any (λ (v : Live). moves v table && same_text v.target keyspace) p.lives ≡ same_text w.target keyspace
      by true e =
          any-in (λ (v : Live). moves v table && same_text v.target keyspace) p.lives w is_in (and_from (moves w table) (same_text w.target keyspace) moved e) ∙ sym e
      by false e =
          any-nowhere (λ (v : Live). moves v table && same_text v.target keyspace) p.lives (λ v is. none e v is (moves v table) refl) ∙ sym e

  module _ (placed : IsInPlace p.topology w) (distinct : HasDistinctPlaces p.topology) where
    present_moved : (keyspace table : List ℕ) → moves w table ≡ true
        → is_present q.topology.keyspaces keyspace table ≡ cond (is_side w keyspace) (same_text w.target keyspace) (is_present p.topology.keyspaces keyspace table)
    present_moved keyspace table moved = by (same_text w.target keyspace) refl (same_text w.source keyspace) refl
      where
        before : Bool
        before = is_present p.topology.keyspaces keyspace table

        read : (a b : Bool) → same_text w.target keyspace ≡ a → same_text w.source keyspace ≡ b
            → cond (b || a) a before ≡ cond (is_side w keyspace) (same_text w.target keyspace) before
        read a b e f = ap (λ x. cond (x || a) a before) (sym f) ∙ ap (λ x. cond (same_text w.source keyspace || x) x before) (sym e)

        at_the_target : same_text w.target keyspace ≡ true → is_present q.topology.keyspaces keyspace table ≡ true
        at_the_target e =
            ap (λ k. is_present q.topology.keyspaces k table) (sym ((same_text_decides w.target keyspace).0 e))
            ∙ present_at_target p.topology w placed.sides.apart placed.sides.target table (named w.tables table moved)

        at_the_source : same_text w.source keyspace ≡ true → is_present q.topology.keyspaces keyspace table ≡ false
        at_the_source e =
            ap (λ k. is_present q.topology.keyspaces k table) (sym ((same_text_decides w.source keyspace).0 e))
            ∙ absent_at_source p.topology w placed.sides.apart distinct placed.sides.source table (named w.tables table moved)

        by : (a : Bool) → same_text w.target keyspace ≡ a → (b : Bool) → same_text w.source keyspace ≡ b
            → is_present q.topology.keyspaces keyspace table ≡ cond (is_side w keyspace) (same_text w.target keyspace) before
        by true e true f = at_the_target e ∙ read true true e f
        by true e false f = at_the_target e ∙ read true false e f
        by false e true f = at_the_source f ∙ read false true e f
        by false e false f =
            present_elsewhere p.topology w placed.sides.apart keyspace table (text_apart w.source keyspace f) (text_apart w.target keyspace e) ∙ read false false e f

    pub table_unmoved : (keyspace table : List ℕ) → moves w table ≡ false → has_table q keyspace table ≡ has_table p keyspace table
    table_unmoved keyspace table other =
        ap (cond (list_any (λ (v : Live). moves v table && same_text v.target keyspace) q.lives) true)
        (present_from_value q.topology p.topology keyspace table (value_of-completed p.topology w (about.Present keyspace table) other))
        ∙ table_stays p apart w.name w is_in refl keyspace table (ap (λ b. b && same_text w.target keyspace) other)

    -- a table that it moved is at the target, and at the source no more; elsewhere there is what was there as if no workflow were live
    pub table_moved : (keyspace table : List ℕ) → moves w table ≡ true
        → has_table q keyspace table ≡ cond (is_side w keyspace) (same_text w.target keyspace) (is_present p.topology.keyspaces keyspace table)
    table_moved keyspace table moved =
        ap (λ b. cond b true (is_present q.topology.keyspaces keyspace table))
        (any-nowhere (λ (v : Live). moves v table && same_text v.target keyspace) q.lives
        (λ v is. ap (λ b. b && same_text v.target keyspace) (find_none (λ (u : Live). moves u table) q.lives (none_moves table moved) v is)))
        ∙ present_moved keyspace table moved

    pub table_left : (table : List ℕ) → moves w table ≡ true → has_table q w.source table ≡ false
    table_left table moved =
        table_moved w.source table moved
        ∙ ap (λ b. cond b (same_text w.target w.source) (is_present p.topology.keyspaces w.source table)) (source_is_side w)
        ∙ text_differs w.target w.source (λ e. placed.sides.apart (sym e))

    -- each keyspace but the source has what it had
    pub table_away : (keyspace table : List ℕ) → moves w table ≡ true → w.source ≢ keyspace → has_table q keyspace table ≡ has_table p keyspace table
    table_away keyspace table moved other =
        table_moved keyspace table moved
        ∙ ap (λ b. cond (b || same_text w.target keyspace) (same_text w.target keyspace) (is_present p.topology.keyspaces keyspace table)) (text_differs w.source keyspace other)
        ∙ by (same_text w.target keyspace)
        ∙ sym (ap (λ b. cond b true (is_present p.topology.keyspaces keyspace table)) (moved_there keyspace table moved))
      where
        by : (b : Bool) → cond b b (is_present p.topology.keyspaces keyspace table) ≡ cond b true (is_present p.topology.keyspaces keyspace table)
        by true = refl
        by false = refl
