-- Whether there is room for a Create, counted by places and counted by the definitions.
use Rattle.std.proofs.Common.{◌≡◌, ◌⊎◌, inl, inr, ℕ, ◌+◌, ◌≤◌, Bool, true, false, not, cond, ◌&&◌, ◌||◌, List, [], ◌∷◌, ◌++◌, filter, flat_map, fold, length, Option, None, Some, is_some, refl, sym, ap, ◌∙◌, arith, ltb-false, length-append}
use Rattle.std.proofs.lemmas.Bool.{and_parts, le-ltb, or_cases, or_right, true≢false}
use Rattle.std.proofs.lemmas.List.{length-map}
use Rattle.std.proofs.lemmas.List.Elements.{filter-append}
use Rattle.std.proofs.lemmas.List.Folds.{list_any-append}
use Rattle.std.proofs.lemmas.List.Sums.{count_by-le-length, length-filter}
use Rattle.std.proofs.lemmas.Map.Made.{AllPairs-from_IsDistinct, IsDistinct-from_AllPairs, is_some-lookup, is_member-filter, length-le_from_is_member}
use Rattle.std.proofs.lemmas.List.Kept.{AllPairs-filter}
use Rattle.std.specs.List.{AllByRecursion, IsDistinct, list_any}
use Rattle.std.specs.Map.{keys_of, lookup}
use Rattle.std.specs.Option.{option_map_or}
use Rattle.std.specs.Prelude.{nat_lt, unwrap_or, ◌≢◌}
use Rattle.mt_names.specs.declared.keys.RuleKey.{RuleKey}
use Rattle.mt_names.specs.Names.{same_text}
use Rattle.mt_names.specs.Same.{same_key}
use Rattle.mt_names.proofs.SameLemmas.{same_text_decides}
use Rattle.mt_model.specs.declared.entries.EntryKey.{EntryKey}
use Rattle.mt_model.specs.declared.entries.EntryKey.TheVariants as about
use Rattle.mt_model.specs.declared.faults.TopologyFault.{TopologyFault}
use Rattle.mt_model.specs.declared.faults.TopologyFault.TheVariants.{Full}
use Rattle.mt_model.specs.Limits.{most_rules, most_tables_in_keyspace}
use Rattle.mt_model.specs.Part.{table_rule_keys}
use Rattle.mt_model.specs.Topology.{KeyspaceState, Marks, Rules, TopologyState, has_place, is_marked, is_present, keyspace_at}
use Rattle.mt_model.proofs.TopologyLemmas.{denied_distinct}
use Rattle.mt_keyspace.specs.Room.{has_mark_room, lacking_marks}
use Rattle.mt_topology.specs.Part.{has_rule_room, lacking_rules, reserve_refusal}
use Rattle.mt_plain.specs.Plain.{Live, Plain, has_part, is_side, live_at, mover, moves, part_owner, twelve_keys}
use Rattle.mt_plain.specs.Refuse.{keys_without_rule, rule_count, table_count}
use Rattle.mt_plain.specs.Serve.{has_table, mark_in}
use Rattle.mt_laws.specs.Reached.{IsInPlace}
use Rattle.mt_stands.specs.Topologies.{TopologyStands}
use Rattle.mt_stands.proofs.CountLemmas.{any_turned, distinct_append, equivalence}
use Rattle.mt_refinement.proofs.FreeLemmas.{free_place, free_value, present_there}
use Rattle.mt_refinement.proofs.ListLemmas.{all_more, at_named, each_key, filter_all, filter_same}

-- what is known of a state that a run reaches
pub record Knows (p : Plain) : Type 0 where
  pub owner : (name : List ℕ) (w : Live) → live_at p name ≡ Some w → (key : EntryKey) → has_part w key ≡ true → part_owner p key ≡ Some w
  pub owned : (key : EntryKey) (w : Live) → part_owner p key ≡ Some w → (has_part w key ≡ true) × (live_at p w.name ≡ Some w)
  pub placed : (name : List ℕ) (w : Live) → live_at p name ≡ Some w → IsInPlace p.topology w
  pub tables : (keyspace table : List ℕ) → has_place p.topology (about.Present keyspace table) ≡ is_present p.topology.keyspaces keyspace table
  pub denials : (keyspace table : List ℕ) → has_place p.topology (about.Denied keyspace table) ≡ false

-- a table that can move: no workflow moves it, the source has it, and the target doesn't
pub record CanMove (p : Plain) (source target table : List ℕ) : Type 0 where
  pub free : mover p table ≡ None
  pub here : has_table p source table ≡ true
  pub there : has_table p target table ≡ false

none_twice : IsDistinct same_text []
unfolding IsDistinct
none_twice = tt

-- a mark that stands has a place
marked_place : (marks : Marks) (name : List ℕ) → is_marked marks name ≡ true → is_some (lookup (same_text name) marks) ≡ true
marked_place marks name = by (lookup (same_text name) marks)
  where
    by : (o : Option Bool) → unwrap_or o false ≡ true → is_some o ≡ true
    by None is = is
    by (Some mark) is = refl

module _ (p : Plain) (t : TopologyState) (stands : TopologyStands p t) (knows : Knows p) where
  -- ---- denials

  -- a denial has a place only where the table has one
  denied_there : (keyspace table : List ℕ) → has_place t (about.Denied keyspace table) ≡ true → has_place t (about.Present keyspace table) ≡ true
  denied_there keyspace table is = by (part_owner p (about.Denied keyspace table)) refl
    where
      by : (o : Option Live) → part_owner p (about.Denied keyspace table) ≡ o → has_place t (about.Present keyspace table) ≡ true
      by None none =
          absurd (true≢false (sym is ∙ stands.places (about.Denied keyspace table)
          ∙ ap (λ (o : Option Live). is_some o || has_place p.topology (about.Denied keyspace table)) none ∙ knows.denials keyspace table))
      by (Some w) some =
          let (part, live) = knows.owned (about.Denied keyspace table) w some in
          let (m, side) = and_parts (moves w table) (is_side w keyspace) part in
          at live m (or_cases (same_text w.source keyspace) (same_text w.target keyspace) side)
        where
          at : live_at p w.name ≡ Some w → moves w table ≡ true → (same_text w.source keyspace ≡ true) ⊎ (same_text w.target keyspace ≡ true) → has_place t (about.Present keyspace table) ≡ true
          at live m (inl e) =
              stands.places (about.Present keyspace table)
              ∙ or_right (is_some (part_owner p (about.Present keyspace table))) (has_place p.topology (about.Present keyspace table))
              (knows.tables keyspace table ∙ ap (λ k. is_present p.topology.keyspaces k table) (sym ((same_text_decides w.source keyspace).0 e)) ∙ (knows.placed w.name w live).at_source table m)
          at live m (inr e) =
              stands.places (about.Present keyspace table)
              ∙ ap (λ (o : Option Live). is_some o || has_place p.topology (about.Present keyspace table)) (knows.owner w.name w live (about.Present keyspace table) (ap (λ b. b && same_text w.target keyspace) m ∙ e))

  module _ (keyspace : List ℕ) (state : KeyspaceState) (found : keyspace_at t.keyspaces keyspace ≡ Some state) where
    denied_named : (table : List ℕ) → list_any (same_text table) (keys_of state.denied) ≡ has_place t (about.Denied keyspace table)
    denied_named table =
        sym (is_some-lookup (same_text table) state.denied)
        ∙ sym (ap (λ (o : Option KeyspaceState). option_map_or (λ s. is_some (lookup (same_text table) s.denied)) o false) found)

    tables_named : (table : List ℕ) → list_any (same_text table) (keys_of state.tables) ≡ has_place t (about.Present keyspace table)
    tables_named table =
        sym (is_some-lookup (same_text table) state.tables)
        ∙ sym (ap (λ (o : Option KeyspaceState). option_map_or (λ s. is_some (lookup (same_text table) s.tables)) o false) found)

    abbrev lacks : List ℕ → Bool
    lacks name = not (is_some (lookup (same_text name) state.denied))

    in_lacking : (tables : List (List ℕ)) (name : List ℕ) → list_any (same_text name) (filter lacks tables) ≡ (list_any (same_text name) tables && lacks name)
    in_lacking tables name = is_member-filter (equivalence same_text same_text_decides) lacks name (λ x e. ap lacks ((same_text_decides name x).0 e)) tables

    -- denied places, and those that tables lack which are there, are at most as many as the places of tables
    denied_fit : (tables : List (List ℕ)) → IsDistinct same_text tables → ((table : List ℕ) → list_any (same_text table) tables ≡ true → has_place t (about.Present keyspace table) ≡ true)
        → length state.denied + lacking_marks state.denied tables ≤ length state.tables
    denied_fit tables distinct there =
        let fits = length-le_from_is_member (equivalence same_text same_text_decides) (keys_of state.denied ++ filter lacks tables) (keys_of state.tables) all_distinct each in
        let denied = length-map state.denied (λ (e : List ℕ × Bool). e.0) in
        let placed = length-map state.tables (λ (e : List ℕ × Bool). e.0) in
        let more = length-append (keys_of state.denied) (filter lacks tables) in
        omega arith
      where
        apart : (name : List ℕ) → list_any (same_text name) (keys_of state.denied) ≡ true → list_any (same_text name) (filter lacks tables) ≡ true → ⊥
        apart name one two =
            let lacking = (and_parts (list_any (same_text name) tables) (lacks name) (sym (in_lacking tables name) ∙ two)).1 in
            true≢false (sym lacking ∙ ap not (is_some-lookup (same_text name) state.denied ∙ one))

        all_distinct : IsDistinct same_text (keys_of state.denied ++ filter lacks tables)
        all_distinct =
            distinct_append same_text same_text_decides (keys_of state.denied) (filter lacks tables) (denied_distinct t keyspace state stands.served.places found)
            (IsDistinct-from_AllPairs same_text_decides (filter lacks tables) (AllPairs-filter (λ a b. a ≢ b) lacks tables (AllPairs-from_IsDistinct same_text_decides tables distinct))) apart

        each : (name : List ℕ) → list_any (same_text name) (keys_of state.denied ++ filter lacks tables) ≡ true → list_any (same_text name) (keys_of state.tables) ≡ true
        each name is = tables_named name ∙ at (or_cases (list_any (same_text name) (keys_of state.denied)) (list_any (same_text name) (filter lacks tables)) (sym (list_any-append (same_text name) (keys_of state.denied) (filter lacks tables)) ∙ is))
          where
            at : (list_any (same_text name) (keys_of state.denied) ≡ true) ⊎ (list_any (same_text name) (filter lacks tables) ≡ true) → has_place t (about.Present keyspace name) ≡ true
            at (inl e) = denied_there keyspace name (sym (denied_named name) ∙ e)
            at (inr e) = there name (and_parts (list_any (same_text name) tables) (lacks name) (sym (in_lacking tables name) ∙ e)).0

  -- ---- rules

  abbrev lacks_rule : Rules → RuleKey → Bool
  lacks_rule rules key = not (is_some (lookup (same_key key) rules))

  module _ (source target : List ℕ) where
    lacking_of : (table : List ℕ) → mover p table ≡ None → keys_without_rule p.topology.rules (twelve_keys source target table) ≡ length (filter (lacks_rule t.rules) (table_rule_keys source target table))
    lacking_of table none =
        sym (length-filter (lacks_rule p.topology.rules) (twelve_keys source target table))
        ∙ ap length (filter_same (lacks_rule p.topology.rules) (lacks_rule t.rules) (table_rule_keys source target table)
        (each_key (λ key. lacks_rule p.topology.rules key ≡ lacks_rule t.rules key) source target table
        (λ keyspace tablet_type. ap not (sym (free_place p t stands (about.Rule (record { keyspace = keyspace; table = table; tablet_type = tablet_type })) none)))))

    rules_lacking : (n : ℕ) (tables : List (List ℕ)) → AllByRecursion (λ table. mover p table ≡ None) tables
        → fold (λ n table. n + keys_without_rule p.topology.rules (twelve_keys source target table)) n tables ≡ n + lacking_rules t.rules (flat_map (table_rule_keys source target) tables)
    rules_lacking n [] free = omega arith
    rules_lacking n (table ∷ tables) free =
        rules_lacking (n + keys_without_rule p.topology.rules (twelve_keys source target table)) tables free.1
        ∙ by (keys_without_rule p.topology.rules (twelve_keys source target table)) (length (filter (lacks_rule t.rules) (table_rule_keys source target table)))
        (lacking_rules t.rules (flat_map (table_rule_keys source target) tables)) (lacking_rules t.rules (flat_map (table_rule_keys source target) (table ∷ tables))) (lacking_of table free.0)
        (ap length (filter-append (lacks_rule t.rules) (table_rule_keys source target table) (flat_map (table_rule_keys source target) tables))
        ∙ length-append (filter (lacks_rule t.rules) (table_rule_keys source target table)) (filter (lacks_rule t.rules) (flat_map (table_rule_keys source target) tables)))
      where
        by : (a b c d : ℕ) → a ≡ b → d ≡ b + c → (n + a) + c ≡ n + d
        by a b c d one two = omega arith

  -- ---- a Create whose tables can move

  -- the tests of room, where the denials find theirs
  rooms : (d lr lt : Bool) → (lt ≡ false → d ≡ true) → is_some (cond {A = Option TopologyFault} (not lr && true && d && not lt) None (Some Full)) ≡ (lt || lr)
  rooms d true true fits = refl
  rooms d true false fits = refl
  rooms true false true fits = refl
  rooms false false true fits = refl
  rooms true false false fits = refl
  rooms false false false fits = absurd (true≢false (sym (fits refl)))

  module _ (source target : List ℕ) (tables : List (List ℕ)) (distinct : IsDistinct same_text tables) (can : AllByRecursion (CanMove p source target) tables)
      (s g : KeyspaceState) (found_s : keyspace_at t.keyspaces source ≡ Some s) (found_g : keyspace_at t.keyspaces target ≡ Some g)
      (rules : length t.rules ≡ rule_count p) (at_source : length s.tables ≡ table_count p source) (at_target : length g.tables ≡ table_count p target)
      (within : table_count p source ≤ most_tables_in_keyspace) where
    abbrev rules_needed : ℕ
    rules_needed = fold (λ n table. n + keys_without_rule p.topology.rules (twelve_keys source target table)) (rule_count p) tables

    abbrev tables_needed : ℕ
    tables_needed = table_count p target + length tables

    marks_fit : (marks : Marks) → length marks + lacking_marks marks tables ≤ most_tables_in_keyspace → has_mark_room marks tables ≡ true
    marks_fit marks fits = ap not (le-ltb most_tables_in_keyspace (length marks + lacking_marks marks tables) fits)

    room_of_rules : has_rule_room t.rules (flat_map (table_rule_keys source target) tables) ≡ not (nat_lt most_rules rules_needed)
    room_of_rules =
        ap (λ n. not (nat_lt most_rules n))
        (ap (λ n. n + lacking_rules t.rules (flat_map (table_rule_keys source target) tables)) rules
        ∙ sym (rules_lacking source target (rule_count p) tables (all_more (CanMove p source target) (λ table. mover p table ≡ None) (λ table each. each.free) tables can)))

    placed_at_source : (table : List ℕ) → list_any (same_text table) tables ≡ true → has_place t (about.Present source table) ≡ true
    placed_at_source table is = by (keyspace_at t.keyspaces source) (present_there p t stands source table ∙ (at_named (CanMove p source target) tables can table (sym (any_turned same_text same_text_decides tables table) ∙ is)).here)
      where
        by : (o : Option KeyspaceState) → option_map_or (λ k. is_marked k.tables table) o false ≡ true → option_map_or (λ k. is_some (lookup (same_text table) k.tables)) o false ≡ true
        by None is = is
        by (Some k) is = marked_place k.tables table is

    denials_at_source : has_mark_room s.denied tables ≡ true
    denials_at_source =
        let fits = denied_fit source s found_s tables distinct placed_at_source in
        marks_fit s.denied (omega arith)

    denials_at_target : nat_lt most_tables_in_keyspace tables_needed ≡ false → has_mark_room g.denied tables ≡ true
    denials_at_target room =
        let fits = denied_fit target g found_g [] none_twice (λ table is. absurd (true≢false (sym is))) in
        let more = length-filter (λ name. not (is_some (lookup (same_text name) g.denied))) tables in
        let fewer = count_by-le-length (λ name. not (is_some (lookup (same_text name) g.denied))) tables in
        let all = ltb-false most_tables_in_keyspace tables_needed room in
        marks_fit g.denied (omega arith)

    lacks_at_target : (table : List ℕ) → CanMove p source target table → not (is_some (lookup (same_text table) g.tables)) ≡ true
    lacks_at_target table each =
        ap not (ap (λ (o : Option KeyspaceState). option_map_or (λ k. is_some (lookup (same_text table) k.tables)) o false) (sym found_g)
        ∙ free_place p t stands (about.Present target table) each.free ∙ knows.tables target table
        ∙ sym (ap mark_in (free_value p t stands (about.Present target table) each.free)) ∙ present_there p t stands target table ∙ each.there)

    room_of_tables : has_mark_room g.tables tables ≡ not (nat_lt most_tables_in_keyspace tables_needed)
    room_of_tables =
        ap (λ n. not (nat_lt most_tables_in_keyspace n))
        (ap (λ n. n + lacking_marks g.tables tables) at_target
        ∙ ap (λ l. table_count p target + length l) (filter_all (λ name. not (is_some (lookup (same_text name) g.tables))) tables
        (all_more (CanMove p source target) (λ name. not (is_some (lookup (same_text name) g.tables)) ≡ true) lacks_at_target tables can)))

    pub same_room : is_some (reserve_refusal t source target tables) ≡ (nat_lt most_tables_in_keyspace tables_needed || nat_lt most_rules rules_needed)
    same_room =
        rw (found_s, found_g) (rw (room_of_rules, denials_at_source, room_of_tables)
        (rooms (has_mark_room g.denied tables) (nat_lt most_rules rules_needed) (nat_lt most_tables_in_keyspace tables_needed) denials_at_target))
