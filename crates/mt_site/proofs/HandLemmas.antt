-- When a keyspace or a table is refused, and a table that is taken back.
use Rattle.std.proofs.Common.{◌≡◌, ◌≢◌, ℕ, Bool, true, false, List, [], ◌∷◌, ◌++◌, length, Option, None, Some, Err, is_some, unwrap_or, refl, sym, ap, ◌∙◌}
use Rattle.std.proofs.lemmas.Bool.{eqb-true}
use Rattle.std.proofs.lemmas.Map.Steps.{set_value_same}
use Rattle.std.specs.Map.{lookup, set_value}
use Rattle.std.specs.Option.{option_map, option_map_or}
use Rattle.std.specs.Prelude.{◌==◌, if◌then◌else◌}
use Rattle.mt_names.specs.Names.{same_text}
use Rattle.mt_names.proofs.EntryLemmas.{is_some-set_value, lookup-push_here, none_from, remove_entry-push, set_value-back, set_value-twice}
use Rattle.mt_names.proofs.SameLemmas.{same_text_decides}
use Rattle.mt_model.specs.declared.entries.EntryKey.TheVariants as about
use Rattle.mt_model.specs.declared.faults.TopologyFault.{TopologyFault}
use Rattle.mt_model.specs.declared.faults.TopologyFault.TheVariants as topology
use Rattle.mt_model.specs.Limits.{most_keyspaces}
use Rattle.mt_model.specs.Topology.{KeyspaceState, Keyspaces, Marks, TopologyState, has_place, is_marked, is_present, keyspace_at, with_keyspace_state, with_mark_place, with_new_table, with_table, with_table_mark, without_mark_place, without_table_place}
use Rattle.mt_model.proofs.TopologyLemmas.{keyspace_at-changed_here, with_keyspace_state-found, with_mark_place-there}
use Rattle.mt_topology.specs.Edits.{add_keyspace_refusal, add_table_refusal}
use Rattle.mt_event.specs.Reasons.{reason_by_topology, reason_from}
use Rattle.mt_keyspace.specs.Edits.{Edits}
use Rattle.mt_plain.specs.Events.{exists, full, refused}
use Rattle.mt_stands.specs.ByHand.{refusal_by_topology}
use Rattle.mt_primary.specs.Primaries.{Primaries, has_primaries}
use Rattle.mt_stands.specs.Base.{BaseState, Does}
use Rattle.mt_site.specs.ByHand.{AreTables, without_table}

-- ---- keyspaces

pub keyspace-exists : (keyspaces : Keyspaces) (name : List ℕ) → is_some (keyspace_at keyspaces name) ≡ true → option_map refusal_by_topology (add_keyspace_refusal keyspaces name) ≡ Some exists
keyspace-exists keyspaces name is = rw is refl

pub keyspace-full : (keyspaces : Keyspaces) (name : List ℕ) → is_some (keyspace_at keyspaces name) ≡ false → length keyspaces ≡ most_keyspaces → option_map refusal_by_topology (add_keyspace_refusal keyspaces name) ≡ Some full
keyspace-full keyspaces name is all = rw (is, all) refl

pub keyspace-free : (keyspaces : Keyspaces) (name : List ℕ) → is_some (keyspace_at keyspaces name) ≡ false → length keyspaces ≢ most_keyspaces → option_map refusal_by_topology (add_keyspace_refusal keyspaces name) ≡ None
keyspace-free keyspaces name is few = rw is (by (length keyspaces == most_keyspaces) refl)
  where
    by : (t : Bool) → (length keyspaces == most_keyspaces) ≡ t → option_map refusal_by_topology (if t then Some topology.Full else None) ≡ None
    by true e = absurd (few (eqb-true (length keyspaces) most_keyspaces e))
    by false e = refl

-- a topology that is refused a keyspace is as it was, and the core tells the refusal
pub keyspace-refused : (old new : TopologyState) (refusal : Option TopologyFault) (made : TopologyState) (fault : TopologyFault) → Edits old refusal true made (Err fault) new
    → (core later goal : BaseState) → later ≡ core → Does core (option_map refusal_by_topology refusal) true goal (refused (reason_from (reason_by_topology fault))) later
keyspace-refused old new refusal made topology.Memory edits core later goal same = (ap (option_map refusal_by_topology) edits.0, refl, same)
keyspace-refused old new refusal made topology.NoKeyspace edits core later goal same = (ap (option_map refusal_by_topology) edits.0, same)
keyspace-refused old new refusal made topology.NoTable edits core later goal same = (ap (option_map refusal_by_topology) edits.0, same)
keyspace-refused old new refusal made topology.Ambiguous edits core later goal same = (ap (option_map refusal_by_topology) edits.0, same)
keyspace-refused old new refusal made topology.Exists edits core later goal same = (ap (option_map refusal_by_topology) edits.0, same)
keyspace-refused old new refusal made topology.Full edits core later goal same = (ap (option_map refusal_by_topology) edits.0, same)
keyspace-refused old new refusal made topology.BadDump edits core later goal same = (ap (option_map refusal_by_topology) edits.0, same)

pub keyspace-left : (old new : TopologyState) (refusal : Option TopologyFault) (made : TopologyState) (fault : TopologyFault) → Edits old refusal true made (Err fault) new → new ≡ old
keyspace-left old new refusal made topology.Memory edits = edits.2
keyspace-left old new refusal made other edits = edits.1

-- ---- a table that may be added

-- its keyspace is there, and doesn't have it
pub table-free : (keyspaces : Keyspaces) (keyspace table : List ℕ) → add_table_refusal keyspaces keyspace table ≡ None
    → (is_some (keyspace_at keyspaces keyspace) ≡ true) × (is_present keyspaces keyspace table ≡ false)
table-free keyspaces keyspace table free = by (keyspace_at keyspaces keyspace) refl
  where
    by : (o : Option KeyspaceState) → keyspace_at keyspaces keyspace ≡ o → (is_some (keyspace_at keyspaces keyspace) ≡ true) × (is_present keyspaces keyspace table ≡ false)
    by None at = absurd (let h = rw at at free in cc)
    by (Some state) at = (ap is_some at, rw at (unmarked (is_marked state.tables table) refl))
      where
        unmarked : (t : Bool) → is_marked state.tables table ≡ t → is_marked state.tables table ≡ false
        unmarked false e = e
        unmarked true e = absurd (let h = rw (at, e) at free in cc)

-- ---- a table taken back

-- a place that is made, marked, unmarked and dropped
marks_back : (marks : Marks) (name : List ℕ) → lookup (same_text name) marks ≡ None
    → without_mark_place (set_value (same_text name) (set_value (same_text name) (with_mark_place marks name) true) false) name ≡ marks
marks_back marks name none =
    let pushed : with_mark_place marks name ≡ marks ++ (name, false) ∷ [] = rw none refl in
    let there : lookup (same_text name) (marks ++ (name, false) ∷ []) ≡ Some false = lookup-push_here same_text same_text_decides marks name false none in
    let back : set_value (same_text name) (set_value (same_text name) (with_mark_place marks name) true) false ≡ marks ++ (name, false) ∷ [] =
    ap (λ l. set_value (same_text name) (set_value (same_text name) l true) false) pushed ∙ set_value-back same_text same_text_decides (marks ++ (name, false) ∷ []) name true false there in
    let unmarked : is_marked (marks ++ (name, false) ∷ []) name ≡ false = ap (λ o. unwrap_or o false) there in
    ap (λ l. without_mark_place l name) back ∙ dropped unmarked
  where
    dropped : is_marked (marks ++ (name, false) ∷ []) name ≡ false → without_mark_place (marks ++ (name, false) ∷ []) name ≡ marks
    dropped unmarked = rw unmarked (remove_entry-push same_text same_text_decides marks name false none)

state_back : (state : KeyspaceState) (table : List ℕ) → lookup (same_text table) state.tables ≡ None → without_table_place table (with_table_mark table false (with_new_table table state)) ≡ state
state_back state table none =
    let with_tables : Marks → KeyspaceState = λ marks. record state { tables = marks } in
    ap with_tables (marks_back state.tables table none)

keyspaces_back : (keyspaces : Keyspaces) (keyspace table : List ℕ) (state : KeyspaceState) → keyspace_at keyspaces keyspace ≡ Some state → lookup (same_text table) state.tables ≡ None
    → with_keyspace_state (without_table_place table) (with_keyspace_state (with_table_mark table false) (with_keyspace_state (with_new_table table) keyspaces keyspace) keyspace) keyspace ≡ keyspaces
keyspaces_back keyspaces keyspace table state found none =
    with_keyspace_state-found (without_table_place table) second keyspace state_two at_second
    ∙ ap (λ s. set_value (same_text keyspace) second s) (state_back state table none)
    ∙ ap (λ ks. set_value (same_text keyspace) ks state) (with_keyspace_state-found (with_table_mark table false) first keyspace state_one at_first ∙ ap (λ ks. set_value (same_text keyspace) ks state_two) is_first ∙ set_value-twice (same_text keyspace) keyspaces state_one state_two)
    ∙ set_value-twice (same_text keyspace) keyspaces state_two state
    ∙ set_value_same (same_text keyspace) keyspaces state found
  where
    state_one : KeyspaceState
    state_one = with_new_table table state

    state_two : KeyspaceState
    state_two = with_table_mark table false state_one

    first : Keyspaces
    first = with_keyspace_state (with_new_table table) keyspaces keyspace

    second : Keyspaces
    second = with_keyspace_state (with_table_mark table false) first keyspace

    is_first : first ≡ set_value (same_text keyspace) keyspaces state_one
    is_first = with_keyspace_state-found (with_new_table table) keyspaces keyspace state found

    at_first : keyspace_at first keyspace ≡ Some state_one
    at_first = keyspace_at-changed_here (with_new_table table) keyspaces keyspace state found

    at_second : keyspace_at second keyspace ≡ Some state_two
    at_second = keyspace_at-changed_here (with_table_mark table false) first keyspace state_one at_first

module _ (t : TopologyState) (primaries : Primaries) (keyspace table : List ℕ) (are : AreTables t primaries) (free : add_table_refusal t.keyspaces keyspace table ≡ None) where
  -- the keyspace is there, and has no place for the table
  found : (state : KeyspaceState) × (keyspace_at t.keyspaces keyspace ≡ Some state) × (lookup (same_text table) state.tables ≡ None)
  found = by (keyspace_at t.keyspaces keyspace) refl
    where
      by : (o : Option KeyspaceState) → keyspace_at t.keyspaces keyspace ≡ o → (state : KeyspaceState) × (keyspace_at t.keyspaces keyspace ≡ Some state) × (lookup (same_text table) state.tables ≡ None)
      by None at = absurd (let h = rw at at (table-free t.keyspaces keyspace table free).0 in cc)
      by (Some state) at = (
        state,
        at,
        none_from (lookup (same_text table) state.tables)
            (ap (λ (o : Option KeyspaceState). option_map_or (λ s. is_some (lookup (same_text table) s.tables)) o false) (sym at) ∙ are.places keyspace table ∙ (table-free t.keyspaces keyspace table free).1),
      )

  pub taken_back : without_table (with_table t keyspace table) keyspace table ≡ t
  taken_back =
      let with_keyspaces : Keyspaces → TopologyState = λ keyspaces. record t { keyspaces = keyspaces } in
      ap with_keyspaces (keyspaces_back t.keyspaces keyspace table found.0 found.1 found.2)

  pub table_has_place : has_place (with_table t keyspace table) (about.Present keyspace table) ≡ true
  table_has_place =
      ap (λ (o : Option KeyspaceState). option_map_or (λ state. is_some (lookup (same_text table) state.tables)) o false) (keyspace_at-changed_here (with_new_table table) t.keyspaces keyspace found.0 found.1)
      ∙ is_some-set_value same_text (with_mark_place found.0.tables table) table table true ∙ with_mark_place-there found.0.tables table

  pub has-primary : has_primaries primaries keyspace ≡ true
  has-primary = are.there keyspace ∙ (table-free t.keyspaces keyspace table free).0
