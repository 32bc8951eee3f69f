-- Which keys have places once some are made or dropped.
use Rattle.std.proofs.Common.{◌≡◌, ◌≢◌, ℕ, Bool, true, false, not, cond, ◌&&◌, ◌||◌, List, [], ◌∷◌, ◌++◌, Option, None, Some, is_some, refl, sym, ap, ◌∙◌}
use Rattle.std.proofs.Math.Bool.{and-false, and-true}
use Rattle.std.specs.List.{IsDistinct}
use Rattle.std.specs.Map.{keys_of, lookup, remove_entry}
use Rattle.std.specs.Option.{option_map_or}
use Rattle.mt_names.specs.declared.keys.RuleKey.{RuleKey}
use Rattle.mt_names.specs.declared.keys.RuleTarget.{RuleTarget}
use Rattle.mt_names.specs.Names.{same_text}
use Rattle.mt_names.specs.Same.{DecidesEquality, same_key}
use Rattle.mt_names.proofs.EntryLemmas.{lookup-push_elsewhere, lookup-remove_entry_elsewhere, lookup-remove_entry_here, none_from, other_from}
use Rattle.mt_names.proofs.SameLemmas.{same_key_decides, same_text_decides}
use Rattle.mt_model.specs.declared.entries.Entry.{Entry}
use Rattle.mt_model.specs.declared.entries.Entry.TheVariants as entry
use Rattle.mt_model.specs.declared.entries.EntryKey.{EntryKey}
use Rattle.mt_model.specs.declared.entries.EntryKey.TheVariants as about
use Rattle.mt_model.specs.Order.{key_before}
use Rattle.mt_model.proofs.OrderLemmas.{put_placed-elsewhere}
use Rattle.mt_model.specs.Part.{with_place, with_places, without_place, without_places}
use Rattle.mt_model.specs.Topology.{HasDistinctPlaces, KeyspaceState, Keyspaces, Marks, Rules, TopologyState, has_place, is_marked, keyspace_at, rule_at, value_of, with_denied_place, with_keyspace_state, with_table_place, without_denied_place, without_mark_place, without_rule_place, without_table_place}
use Rattle.mt_model.proofs.PlaceLemmas.{distinct-with_place, distinct-without_place, fold-keeps, keyspace_at-stays, same-without_places}
use Rattle.mt_model.proofs.TopologyLemmas.{denied_distinct, keyspace_at-changed_here, read_at-unchanged, tables_distinct}
use Rattle.mt_stands.specs.Keys.{lists, same_about}
use Rattle.mt_model.proofs.AboutLemmas.{same_about_decides}

-- ---- places made

pub placed_elsewhere : {K V : Type 0} (same : K → K → Bool) → DecidesEquality same → (es : List (K × V)) (n k : K) (v : V) → n ≢ k
    → is_some (lookup (same k) (option_map_or (λ found. es) (lookup (same n) es) (es ++ (n, v) ∷ []))) ≡ is_some (lookup (same k) es)
placed_elsewhere {V = V} same decides es n k v other = by (lookup (same n) es)
  where
    by : (o : Option V) → is_some (lookup (same k) (option_map_or (λ found. es) o (es ++ (n, v) ∷ []))) ≡ is_some (lookup (same k) es)
    by None = ap is_some (lookup-push_elsewhere same decides es n k v other)
    by (Some found) = refl

pub place_elsewhere : (t : TopologyState) (k key : EntryKey) → k ≢ key → has_place (with_place t k) key ≡ has_place t key
place_elsewhere t (about.Rule j) (about.Rule key) other = ap is_some (put_placed-elsewhere key_before same_key same_key_decides None t.rules j key (λ e. other (ap about.Rule e)))
place_elsewhere t (about.Rule j) (about.Denied keyspace table) other = refl
place_elsewhere t (about.Rule j) (about.Present keyspace table) other = refl
place_elsewhere t (about.Denied k n) (about.Rule key) other = refl
place_elsewhere t (about.Denied k n) (about.Denied keyspace table) other =
    read_at-unchanged (λ state. is_some (lookup (same_text table) state.denied)) false (with_denied_place n) t.keyspaces k keyspace
    (λ state found is. placed_elsewhere same_text same_text_decides state.denied n table false (λ e. other (ap (λ x. about.Denied x n) is ∙ ap (about.Denied keyspace) e)))
place_elsewhere t (about.Denied k n) (about.Present keyspace table) other =
    read_at-unchanged (λ state. is_some (lookup (same_text table) state.tables)) false (with_denied_place n) t.keyspaces k keyspace (λ state found is. refl)
place_elsewhere t (about.Present k n) (about.Rule key) other = refl
place_elsewhere t (about.Present k n) (about.Denied keyspace table) other =
    read_at-unchanged (λ state. is_some (lookup (same_text table) state.denied)) false (with_table_place n) t.keyspaces k keyspace (λ state found is. refl)
place_elsewhere t (about.Present k n) (about.Present keyspace table) other =
    read_at-unchanged (λ state. is_some (lookup (same_text table) state.tables)) false (with_table_place n) t.keyspaces k keyspace
    (λ state found is. placed_elsewhere same_text same_text_decides state.tables n table false (λ e. other (ap (λ x. about.Present x n) is ∙ ap (about.Present keyspace) e)))

pub places_elsewhere : (t : TopologyState) (keys : List EntryKey) (key : EntryKey) → lists keys key ≡ false → has_place (with_places t keys) key ≡ has_place t key
places_elsewhere t [] key unlisted = refl
places_elsewhere t (k ∷ keys) key unlisted = by (places_elsewhere (with_place t k) keys key) (same_about k key) refl
  where
    by : (lists keys key ≡ false → has_place (with_places (with_place t k) keys) key ≡ has_place (with_place t k) key) → (b : Bool) → same_about k key ≡ b → has_place (with_places (with_place t k) keys) key ≡ has_place t key
    by again true b = let is : true ≡ false = sym (ap (λ x. x || lists keys key) b) ∙ unlisted in absurd cc
    by again false b =
        again (sym (ap (λ x. x || lists keys key) b) ∙ unlisted)
        ∙ place_elsewhere t k key (other_from same_about same_about_decides k key b)

pub distinct_placed : (t : TopologyState) (keys : List EntryKey) → HasDistinctPlaces t → HasDistinctPlaces (with_places t keys)
distinct_placed t keys distinct = fold-keeps with_place HasDistinctPlaces (λ u k. distinct-with_place u k) t keys distinct

pub distinct_dropped : (t : TopologyState) (keys : List EntryKey) → HasDistinctPlaces t → HasDistinctPlaces (without_places t keys)
distinct_dropped t keys distinct = fold-keeps without_place HasDistinctPlaces (λ u k. distinct-without_place u k) t keys distinct

-- ---- places dropped

-- whether an entry says a rule, a denial or a table
abbrev pub holds : Entry → Bool
holds (entry.Rule key target) = is_some target
holds (entry.Denied keyspace table mark) = mark
holds (entry.Present keyspace table mark) = mark

removed_elsewhere : {K V : Type 0} (same : K → K → Bool) → DecidesEquality same → (es : List (K × V)) (n k : K) (b : Bool) → n ≢ k
    → is_some (lookup (same k) (cond b es (remove_entry (same n) es))) ≡ is_some (lookup (same k) es)
removed_elsewhere same decides es n k true other = refl
removed_elsewhere same decides es n k false other = ap is_some (lookup-remove_entry_elsewhere same decides es n k other)

unruled_elsewhere : (rules : Rules) (n k : RuleKey) → n ≢ k → is_some (lookup (same_key k) (without_rule_place rules n)) ≡ is_some (lookup (same_key k) rules)
unruled_elsewhere rules n k other = by (rule_at rules n)
  where
    by : (o : Option RuleTarget) → is_some (lookup (same_key k) (option_map_or (λ target. rules) o (remove_entry (same_key n) rules))) ≡ is_some (lookup (same_key k) rules)
    by None = removed_elsewhere same_key same_key_decides rules n k false other
    by (Some target) = refl

drop_elsewhere : (t : TopologyState) (k key : EntryKey) → k ≢ key → has_place (without_place t k) key ≡ has_place t key
drop_elsewhere t (about.Rule j) (about.Rule key) other = unruled_elsewhere t.rules j key (λ e. other (ap about.Rule e))
drop_elsewhere t (about.Rule j) (about.Denied keyspace table) other = refl
drop_elsewhere t (about.Rule j) (about.Present keyspace table) other = refl
drop_elsewhere t (about.Denied k n) (about.Rule key) other = refl
drop_elsewhere t (about.Denied k n) (about.Denied keyspace table) other =
    read_at-unchanged (λ state. is_some (lookup (same_text table) state.denied)) false (without_denied_place n) t.keyspaces k keyspace
    (λ state found is. removed_elsewhere same_text same_text_decides state.denied n table (is_marked state.denied n) (λ e. other (ap (λ x. about.Denied x n) is ∙ ap (about.Denied keyspace) e)))
drop_elsewhere t (about.Denied k n) (about.Present keyspace table) other =
    read_at-unchanged (λ state. is_some (lookup (same_text table) state.tables)) false (without_denied_place n) t.keyspaces k keyspace (λ state found is. refl)
drop_elsewhere t (about.Present k n) (about.Rule key) other = refl
drop_elsewhere t (about.Present k n) (about.Denied keyspace table) other =
    read_at-unchanged (λ state. is_some (lookup (same_text table) state.denied)) false (without_table_place n) t.keyspaces k keyspace (λ state found is. refl)
drop_elsewhere t (about.Present k n) (about.Present keyspace table) other =
    read_at-unchanged (λ state. is_some (lookup (same_text table) state.tables)) false (without_table_place n) t.keyspaces k keyspace
    (λ state found is. removed_elsewhere same_text same_text_decides state.tables n table (is_marked state.tables n) (λ e. other (ap (λ x. about.Present x n) is ∙ ap (about.Present keyspace) e)))

-- the place itself stays where it holds something
dropped_mark : (marks : Marks) (name : List ℕ) → IsDistinct same_text (keys_of marks) → is_some (lookup (same_text name) (without_mark_place marks name)) ≡ (is_some (lookup (same_text name) marks) && is_marked marks name)
dropped_mark marks name distinct = by (is_marked marks name)
  where
    by : (b : Bool) → is_some (lookup (same_text name) (cond b marks (remove_entry (same_text name) marks))) ≡ (is_some (lookup (same_text name) marks) && b)
    by true = sym (and-true (is_some (lookup (same_text name) marks)))
    by false = ap is_some (lookup-remove_entry_here same_text same_text_decides marks name distinct) ∙ sym (and-false (is_some (lookup (same_text name) marks)))

-- a mark that is read in a keyspace, or in none
here_in : (read : KeyspaceState → Marks) (change : KeyspaceState → KeyspaceState) (keyspaces : Keyspaces) (k n : List ℕ)
    → ((state : KeyspaceState) → keyspace_at keyspaces k ≡ Some state → is_some (lookup (same_text n) (read (change state))) ≡ (is_some (lookup (same_text n) (read state)) && is_marked (read state) n))
    → option_map_or (λ state. is_some (lookup (same_text n) (read state))) (keyspace_at (with_keyspace_state change keyspaces k) k) false
    ≡ (option_map_or (λ state. is_some (lookup (same_text n) (read state))) (keyspace_at keyspaces k) false && option_map_or (λ state. is_marked (read state) n) (keyspace_at keyspaces k) false)
here_in read change keyspaces k n each = by (keyspace_at keyspaces k) refl
  where
    places : Option KeyspaceState → Bool
    places o = option_map_or (λ state. is_some (lookup (same_text n) (read state))) o false

    both : Option KeyspaceState → Bool
    both o = places o && option_map_or (λ state. is_marked (read state) n) o false

    by : (o : Option KeyspaceState) → keyspace_at keyspaces k ≡ o → places (keyspace_at (with_keyspace_state change keyspaces k) k) ≡ both (keyspace_at keyspaces k)
    by None none =
        ap places (none_from (keyspace_at (with_keyspace_state change keyspaces k) k) (keyspace_at-stays change keyspaces k k ∙ ap is_some none)) ∙ sym (ap both none)
    by (Some state) found = ap places (keyspace_at-changed_here change keyspaces k state found) ∙ each state found ∙ sym (ap both found)

drop_here : (t : TopologyState) (key : EntryKey) → HasDistinctPlaces t → has_place (without_place t key) key ≡ (has_place t key && holds (value_of t key))
drop_here t (about.Rule key) distinct = by (rule_at t.rules key)
  where
    by : (o : Option RuleTarget) → is_some (lookup (same_key key) (option_map_or (λ target. t.rules) o (remove_entry (same_key key) t.rules))) ≡ (is_some (lookup (same_key key) t.rules) && is_some o)
    by None = ap is_some (lookup-remove_entry_here same_key same_key_decides t.rules key distinct.rules) ∙ sym (and-false (is_some (lookup (same_key key) t.rules)))
    by (Some target) = sym (and-true (is_some (lookup (same_key key) t.rules)))
drop_here t (about.Denied k n) distinct =
    here_in (λ state. state.denied) (without_denied_place n) t.keyspaces k n (λ state found. dropped_mark state.denied n (denied_distinct t k state distinct found))
drop_here t (about.Present k n) distinct =
    here_in (λ state. state.tables) (without_table_place n) t.keyspaces k n (λ state found. dropped_mark state.tables n (tables_distinct t k state distinct found))

drop_at : (t : TopologyState) (k key : EntryKey) → HasDistinctPlaces t → has_place (without_place t k) key ≡ (has_place t key && (not (same_about k key) || holds (value_of t key)))
drop_at t k key distinct = by (same_about k key) refl
  where
    by : (b : Bool) → same_about k key ≡ b → has_place (without_place t k) key ≡ (has_place t key && (not (same_about k key) || holds (value_of t key)))
    by true b =
        ap (λ x. has_place (without_place t x) key) ((same_about_decides k key).0 b) ∙ drop_here t key distinct
        ∙ sym (ap (λ x. has_place t key && (not x || holds (value_of t key))) b)
    by false b =
        drop_elsewhere t k key (other_from same_about same_about_decides k key b) ∙ sym (and-true (has_place t key))
        ∙ sym (ap (λ x. has_place t key && (not x || holds (value_of t key))) b)

merged : (x a b h : Bool) → ((x && (not a || h)) && (not b || h)) ≡ (x && (not (a || b) || h))
merged false a b h = refl
merged true false b h = refl
merged true true true true = refl
merged true true false true = refl
merged true true b false = refl

pub places_dropped : (t : TopologyState) (keys : List EntryKey) (key : EntryKey) → HasDistinctPlaces t → has_place (without_places t keys) key ≡ (has_place t key && (not (lists keys key) || holds (value_of t key)))
places_dropped t [] key distinct = sym (and-true (has_place t key))
places_dropped t (k ∷ keys) key distinct =
    let stays : value_of (without_place t k) key ≡ value_of t key = (same-without_places t (k ∷ []) distinct).values key in
    places_dropped (without_place t k) keys key (distinct-without_place t k distinct)
    ∙ ap (λ v. has_place (without_place t k) key && (not (lists keys key) || holds v)) stays
    ∙ ap (λ x. x && (not (lists keys key) || holds (value_of t key))) (drop_at t k key distinct)
    ∙ merged (has_place t key) (same_about k key) (lists keys key) (holds (value_of t key))
