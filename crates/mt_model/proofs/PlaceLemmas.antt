-- What places made, places dropped and writes leave: other places, values and look-ups.
use Rattle.std.proofs.Common.{◌≡◌, ℕ, Bool, true, false, cond, List, [], ◌∷◌, ◌++◌, map, filter, fold, reverse, Option, None, Some, is_some, unwrap_or, All, Ok, slice_index_or, refl, sym, ap, subst, ◌∙◌}
use Rattle.std.proofs.lemmas.Bool.{true≢false}
use Rattle.std.proofs.lemmas.Grind.{reverse_onto}
use Rattle.std.proofs.lemmas.List.Elements.{All-cons, All-head, All-nil, All-tail}
use Rattle.std.proofs.lemmas.List.Sums.{fold_push}
use Rattle.std.specs.Map.{lookup, remove_entry, set_value}
use Rattle.std.specs.Option.{option_map_or, option_or}
use Rattle.mt_names.specs.declared.keys.RuleKey.{RuleKey}
use Rattle.mt_names.specs.declared.types.TabletType.{TabletType}
use Rattle.mt_names.specs.Names.{same_text}
use Rattle.mt_names.specs.Same.{same_key}
use Rattle.mt_names.proofs.EntryLemmas.{is_some-set_value, none_from, other_from, remove_entry-push, some_from}
use Rattle.mt_names.proofs.SameLemmas.{same_key_decides, same_text_decides}
use Rattle.mt_model.specs.Order.{key_before}
use Rattle.mt_model.proofs.OrderLemmas.{put_placed-stays, remove_entry-put_by}
use Rattle.mt_model.specs.declared.entries.Entry.{Entry}
use Rattle.mt_model.specs.declared.entries.Entry.TheVariants as entry
use Rattle.mt_model.specs.declared.entries.EntryKey.{EntryKey}
use Rattle.mt_model.specs.declared.entries.EntryKey.TheVariants as about
use Rattle.mt_model.specs.Part.{IsSameTopology, befores, with_entries, with_place, with_places, without_place, without_places}
use Rattle.mt_model.specs.Topology.{TopologyState, HasDistinctPlaces, Keyspaces, KeyspaceState, Marks, Rules, put_rule, key_of, value_of, has_place, holders, is_marked, rule_at, rule_for, resolution, unruled, sole_holder, for_type, for_all_types, keyspace_at, cuts_at, with_entry, with_keyspace_state, with_table_mark, with_denied_mark, with_mark_place, without_mark_place, with_rule_place, without_rule_place, with_table_place, without_table_place, with_denied_place, without_denied_place}
use Rattle.mt_model.proofs.DistinctLemmas.{distinct-rules, distinct-with_rule_place, distinct-without_rule_place, distinct-table_made, distinct-table_dropped, distinct-denial_made, distinct-denial_dropped}
use Rattle.mt_model.proofs.TopologyLemmas.{keyspace_at-changed_here, keyspace_at-changed_elsewhere, found_at, is_marked-with_mark_place, is_marked-without_mark_place, read_at-unchanged, rule_at-with_rule_place, rule_at-without_rule_place, tables_distinct, denied_distinct, value_of-keyspace_changed, value_of-rules_changed, with_entry-back, with_keyspace_state-back, with_mark_place-there, with_rule_place-there}

-- ---- a view that no step changes

module _ {A B C : Type 0} (f : B → A → B) (view : B → C) where
  pub fold-unchanged : ((b : B) (x : A) → view (f b x) ≡ view b) → (b : B) (xs : List A) → view (fold f b xs) ≡ view b
  fold-unchanged step b [] = refl
  fold-unchanged step b (x ∷ xs) = fold-unchanged step (f b x) xs ∙ step b x

  pub fold-unchanged_while : (P : B → Type 0) → ((b : B) (x : A) → P b → P (f b x)) → ((b : B) (x : A) → P b → view (f b x) ≡ view b) → (b : B) (xs : List A) → P b → view (fold f b xs) ≡ view b
  fold-unchanged_while P keeps step b [] p = refl
  fold-unchanged_while P keeps step b (x ∷ xs) p = fold-unchanged_while P keeps step (f b x) xs (keeps b x p) ∙ step b x p

module _ {A B : Type 0} (f : B → A → B) (P : B → Type 0) where
  pub fold-keeps : ((b : B) (x : A) → P b → P (f b x)) → (b : B) (xs : List A) → P b → P (fold f b xs)
  fold-keeps keeps b [] p = p
  fold-keeps keeps b (x ∷ xs) p = fold-keeps keeps (f b x) xs (keeps b x p)

-- ---- places after a write

pub has_place-written : (t : TopologyState) (e : Entry) (k : EntryKey) → has_place (with_entry t e) k ≡ has_place t k
has_place-written t (entry.Rule key target) (about.Rule other) = is_some-set_value same_key t.rules key other target
has_place-written t (entry.Rule key target) (about.Denied keyspace table) = refl
has_place-written t (entry.Rule key target) (about.Present keyspace table) = refl
has_place-written t (entry.Denied keyspace table mark) (about.Rule other) = refl
has_place-written t (entry.Denied keyspace table mark) (about.Denied here other) =
    read_at-unchanged (λ state. is_some (lookup (same_text other) state.denied)) false (with_denied_mark table mark) t.keyspaces keyspace here (λ state found is. is_some-set_value same_text state.denied table other mark)
has_place-written t (entry.Denied keyspace table mark) (about.Present here other) =
    read_at-unchanged (λ state. is_some (lookup (same_text other) state.tables)) false (with_denied_mark table mark) t.keyspaces keyspace here (λ state found is. refl)
has_place-written t (entry.Present keyspace table mark) (about.Rule other) = refl
has_place-written t (entry.Present keyspace table mark) (about.Denied here other) =
    read_at-unchanged (λ state. is_some (lookup (same_text other) state.denied)) false (with_table_mark table mark) t.keyspaces keyspace here (λ state found is. refl)
has_place-written t (entry.Present keyspace table mark) (about.Present here other) =
    read_at-unchanged (λ state. is_some (lookup (same_text other) state.tables)) false (with_table_mark table mark) t.keyspaces keyspace here (λ state found is. is_some-set_value same_text state.tables table other mark)

-- ---- writes taken back

pub with_entries-back : (t : TopologyState) (es : List Entry) → All (λ e. has_place t (key_of e) ≡ true) es → with_entries (with_entries t es) (reverse (befores t es)) ≡ t
with_entries-back t [] places = refl
with_entries-back t (e ∷ es) places =
    let before = value_of t (key_of e) in
    let later : All (λ x. has_place (with_entry t e) (key_of x) ≡ true) es =
    λ i d inside. has_place-written t e (key_of (slice_index_or es i d)) ∙ All-tail (λ x. has_place t (key_of x) ≡ true) e es places i d inside in
    ap (fold with_entry (with_entries (with_entry t e) es)) (reverse_onto (befores (with_entry t e) es) before [])
    ∙ fold_push with_entry (with_entries (with_entry t e) es) (reverse (befores (with_entry t e) es)) before
    ∙ ap (λ u. with_entry u before) (with_entries-back (with_entry t e) es later)
    ∙ with_entry-back t e (All-head (λ x. has_place t (key_of x) ≡ true) e es places)

-- ---- places after a place more

pub place-push : {K V : Type 0} (p : K → Bool) (es : List (K × V)) (e : K × V) → is_some (lookup p es) ≡ true → is_some (lookup p (es ++ e ∷ [])) ≡ true
place-push p [] e there = absurd (true≢false (sym there))
place-push {K} {V} p (x ∷ es) e there = by (place-push p es e) (p x.0) refl
  where
    by : (is_some (lookup p es) ≡ true → is_some (lookup p (es ++ e ∷ [])) ≡ true) → (b : Bool) → p x.0 ≡ b → is_some (lookup p ((x ∷ es) ++ e ∷ [])) ≡ true
    by again true b = rw b refl
    by again false b = rw b (again (rw b at there))

place-placed : {K V : Type 0} (same : K → K → Bool) (blank : V) (es : List (K × V)) (k other : K) → is_some (lookup (same other) es) ≡ true
    → is_some (lookup (same other) (option_map_or (λ old. es) (lookup (same k) es) (es ++ (k, blank) ∷ []))) ≡ true
place-placed {K} {V} same blank es k other there = by (lookup (same k) es)
  where
    by : (r : Option V) → is_some (lookup (same other) (option_map_or (λ old. es) r (es ++ (k, blank) ∷ []))) ≡ true
    by None = place-push (same other) es (k, blank) there
    by (Some old) = there

-- what a change of a keyspace leaves true of it stays true of each
read_at-kept : (read : KeyspaceState → Bool) (change : KeyspaceState → KeyspaceState) (keyspaces : Keyspaces) (name other : List ℕ) → ((state : KeyspaceState) → read state ≡ true → read (change state) ≡ true)
    → option_map_or read (keyspace_at keyspaces other) false ≡ true → option_map_or read (keyspace_at (with_keyspace_state change keyspaces name) other) false ≡ true
read_at-kept read change keyspaces name other keeps there = by (same_text name other) refl
  where
    found : (state : KeyspaceState) × (keyspace_at keyspaces other ≡ Some state) × (read state ≡ true)
    found = found_at read keyspaces other there

    by : (t : Bool) → same_text name other ≡ t → option_map_or read (keyspace_at (with_keyspace_state change keyspaces name) other) false ≡ true
    by false f = ap (λ s. option_map_or read s false) (keyspace_at-changed_elsewhere change keyspaces name other (other_from same_text same_text_decides name other f)) ∙ there
    by true t =
        let e : name ≡ other = (same_text_decides name other).0 t in
        subst (λ o. option_map_or read (keyspace_at (with_keyspace_state change keyspaces name) o) false ≡ true) e
        (ap (λ s. option_map_or read s false) (keyspace_at-changed_here change keyspaces name found.0 (ap (keyspace_at keyspaces) e ∙ found.1)) ∙ keeps found.0 found.2)

pub has_place-kept : (t : TopologyState) (key k : EntryKey) → has_place t k ≡ true → has_place (with_place t key) k ≡ true
has_place-kept t (about.Rule key) (about.Rule other) there = put_placed-stays key_before same_key same_key_decides None t.rules key other there
has_place-kept t (about.Rule key) (about.Denied keyspace table) there = there
has_place-kept t (about.Rule key) (about.Present keyspace table) there = there
has_place-kept t (about.Denied keyspace table) (about.Rule other) there = there
has_place-kept t (about.Denied keyspace table) (about.Denied here other) there =
    read_at-kept (λ state. is_some (lookup (same_text other) state.denied)) (with_denied_place table) t.keyspaces keyspace here (λ state. place-placed same_text false state.denied table other) there
has_place-kept t (about.Denied keyspace table) (about.Present here other) there =
    read_at-kept (λ state. is_some (lookup (same_text other) state.tables)) (with_denied_place table) t.keyspaces keyspace here (λ state s. s) there
has_place-kept t (about.Present keyspace table) (about.Rule other) there = there
has_place-kept t (about.Present keyspace table) (about.Denied here other) there =
    read_at-kept (λ state. is_some (lookup (same_text other) state.denied)) (with_table_place table) t.keyspaces keyspace here (λ state s. s) there
has_place-kept t (about.Present keyspace table) (about.Present here other) there =
    read_at-kept (λ state. is_some (lookup (same_text other) state.tables)) (with_table_place table) t.keyspaces keyspace here (λ state. place-placed same_text false state.tables table other) there

-- ---- the place that is made

-- the keyspace of a key is there
abbrev pub has_keyspace : TopologyState → EntryKey → Bool
has_keyspace t (about.Rule key) = true
has_keyspace t (about.Denied keyspace table) = is_some (keyspace_at t.keyspaces keyspace)
has_keyspace t (about.Present keyspace table) = is_some (keyspace_at t.keyspaces keyspace)

some_by_cases : {A : Type 0} (r : Option A) → is_some r ≡ option_map_or (λ x. true) r false
some_by_cases None = refl
some_by_cases (Some x) = refl

pub keyspace_at-stays : (change : KeyspaceState → KeyspaceState) (keyspaces : Keyspaces) (name other : List ℕ) → is_some (keyspace_at (with_keyspace_state change keyspaces name) other) ≡ is_some (keyspace_at keyspaces other)
keyspace_at-stays change keyspaces name other =
    some_by_cases (keyspace_at (with_keyspace_state change keyspaces name) other) ∙ read_at-unchanged (λ state. true) false change keyspaces name other (λ state found is. refl)
    ∙ sym (some_by_cases (keyspace_at keyspaces other))

keyspace-with_place : (t : TopologyState) (key : EntryKey) (name : List ℕ) → is_some (keyspace_at (with_place t key).keyspaces name) ≡ is_some (keyspace_at t.keyspaces name)
keyspace-with_place t (about.Rule key) name = refl
keyspace-with_place t (about.Denied keyspace table) name = keyspace_at-stays (with_denied_place table) t.keyspaces keyspace name
keyspace-with_place t (about.Present keyspace table) name = keyspace_at-stays (with_table_place table) t.keyspaces keyspace name

keyspace-without_place : (t : TopologyState) (key : EntryKey) (name : List ℕ) → is_some (keyspace_at (without_place t key).keyspaces name) ≡ is_some (keyspace_at t.keyspaces name)
keyspace-without_place t (about.Rule key) name = refl
keyspace-without_place t (about.Denied keyspace table) name = keyspace_at-stays (without_denied_place table) t.keyspaces keyspace name
keyspace-without_place t (about.Present keyspace table) name = keyspace_at-stays (without_table_place table) t.keyspaces keyspace name

cuts-with_place : (t : TopologyState) (key : EntryKey) (name : List ℕ) → cuts_at (with_place t key).keyspaces name ≡ cuts_at t.keyspaces name
cuts-with_place t (about.Rule key) name = refl
cuts-with_place t (about.Denied keyspace table) name = read_at-unchanged (λ state. state.cuts) [] (with_denied_place table) t.keyspaces keyspace name (λ state found is. refl)
cuts-with_place t (about.Present keyspace table) name = read_at-unchanged (λ state. state.cuts) [] (with_table_place table) t.keyspaces keyspace name (λ state found is. refl)

cuts-without_place : (t : TopologyState) (key : EntryKey) (name : List ℕ) → cuts_at (without_place t key).keyspaces name ≡ cuts_at t.keyspaces name
cuts-without_place t (about.Rule key) name = refl
cuts-without_place t (about.Denied keyspace table) name = read_at-unchanged (λ state. state.cuts) [] (without_denied_place table) t.keyspaces keyspace name (λ state found is. refl)
cuts-without_place t (about.Present keyspace table) name = read_at-unchanged (λ state. state.cuts) [] (without_table_place table) t.keyspaces keyspace name (λ state found is. refl)

has_keyspace-kept : (t : TopologyState) (key k : EntryKey) → has_keyspace t k ≡ true → has_keyspace (with_place t key) k ≡ true
has_keyspace-kept t key (about.Rule k) there = refl
has_keyspace-kept t key (about.Denied keyspace table) there = keyspace-with_place t key keyspace ∙ there
has_keyspace-kept t key (about.Present keyspace table) there = keyspace-with_place t key keyspace ∙ there

pub has_place-made : (t : TopologyState) (key : EntryKey) → has_keyspace t key ≡ true → has_place (with_place t key) key ≡ true
has_place-made t (about.Rule key) there = with_rule_place-there t.rules key
has_place-made t (about.Denied keyspace table) there =
    let found = some_from (keyspace_at t.keyspaces keyspace) there in
    ap (λ r. option_map_or (λ state. is_some (lookup (same_text table) state.denied)) r false) (keyspace_at-changed_here (with_denied_place table) t.keyspaces keyspace found.0 found.1) ∙ with_mark_place-there found.0.denied table
has_place-made t (about.Present keyspace table) there =
    let found = some_from (keyspace_at t.keyspaces keyspace) there in
    ap (λ r. option_map_or (λ state. is_some (lookup (same_text table) state.tables)) r false) (keyspace_at-changed_here (with_table_place table) t.keyspaces keyspace found.0 found.1) ∙ with_mark_place-there found.0.tables table

pub places_made : (t : TopologyState) (keys : List EntryKey) → All (λ k. has_keyspace t k ≡ true) keys → All (λ k. has_place (with_places t keys) k ≡ true) keys
places_made t [] there = All-nil (λ k. has_place t k ≡ true)
places_made t (key ∷ keys) there =
    All-cons (λ k. has_place (with_places (with_place t key) keys) k ≡ true) key keys
    (fold-keeps with_place (λ u. has_place u key ≡ true) (λ u other. has_place-kept u other key) (with_place t key) keys (has_place-made t key (All-head (λ k. has_keyspace t k ≡ true) key keys there)))
    (places_made (with_place t key) keys (λ i d inside. has_keyspace-kept t key (slice_index_or keys i d) (All-tail (λ k. has_keyspace t k ≡ true) key keys there i d inside)))

-- ---- places stay distinct

pub distinct-with_place : (t : TopologyState) (key : EntryKey) → HasDistinctPlaces t → HasDistinctPlaces (with_place t key)
distinct-with_place t (about.Rule key) distinct = distinct-rules t (with_rule_place t.rules key) (distinct-with_rule_place t.rules key distinct.rules) distinct
distinct-with_place t (about.Denied keyspace table) distinct = distinct-denial_made t keyspace table distinct
distinct-with_place t (about.Present keyspace table) distinct = distinct-table_made t keyspace table distinct

pub distinct-without_place : (t : TopologyState) (key : EntryKey) → HasDistinctPlaces t → HasDistinctPlaces (without_place t key)
distinct-without_place t (about.Rule key) distinct = distinct-rules t (without_rule_place t.rules key) (distinct-without_rule_place t.rules key distinct.rules) distinct
distinct-without_place t (about.Denied keyspace table) distinct = distinct-denial_dropped t keyspace table distinct
distinct-without_place t (about.Present keyspace table) distinct = distinct-table_dropped t keyspace table distinct

-- ---- values

value_of-with_place : (t : TopologyState) (key k : EntryKey) → value_of (with_place t key) k ≡ value_of t k
value_of-with_place t (about.Rule key) k = value_of-rules_changed t (with_rule_place t.rules key) k (λ other is. rule_at-with_rule_place t.rules key other)
value_of-with_place t (about.Denied keyspace table) k = value_of-keyspace_changed t (with_denied_place table) keyspace k (λ state other found is. refl) (λ state other found is. is_marked-with_mark_place state.denied table other)
value_of-with_place t (about.Present keyspace table) k = value_of-keyspace_changed t (with_table_place table) keyspace k (λ state other found is. is_marked-with_mark_place state.tables table other) (λ state other found is. refl)

value_of-without_place : (t : TopologyState) (key k : EntryKey) → HasDistinctPlaces t → value_of (without_place t key) k ≡ value_of t k
value_of-without_place t (about.Rule key) k distinct = value_of-rules_changed t (without_rule_place t.rules key) k (λ other is. rule_at-without_rule_place t.rules key other distinct.rules)
value_of-without_place t (about.Denied keyspace table) k distinct =
    value_of-keyspace_changed t (without_denied_place table) keyspace k (λ state other found is. refl) (λ state other found is. is_marked-without_mark_place state.denied table other (denied_distinct t keyspace state distinct found))
value_of-without_place t (about.Present keyspace table) k distinct =
    value_of-keyspace_changed t (without_table_place table) keyspace k (λ state other found is. is_marked-without_mark_place state.tables table other (tables_distinct t keyspace state distinct found)) (λ state other found is. refl)

pub same-with_places : (t : TopologyState) (keys : List EntryKey) → IsSameTopology (with_places t keys) t
same-with_places t keys = record {
  keyspaces = λ name. fold-unchanged with_place (λ u. is_some (keyspace_at u.keyspaces name)) (λ u key. keyspace-with_place u key name) t keys;
  shards = λ name. fold-unchanged with_place (λ u. cuts_at u.keyspaces name) (λ u key. cuts-with_place u key name) t keys;
  values = λ k. fold-unchanged with_place (λ u. value_of u k) (λ u key. value_of-with_place u key k) t keys;
}

pub same-without_places : (t : TopologyState) (keys : List EntryKey) → HasDistinctPlaces t → IsSameTopology (without_places t keys) t
same-without_places t keys distinct = record {
  keyspaces = λ name. fold-unchanged without_place (λ u. is_some (keyspace_at u.keyspaces name)) (λ u key. keyspace-without_place u key name) t keys;
  shards = λ name. fold-unchanged without_place (λ u. cuts_at u.keyspaces name) (λ u key. cuts-without_place u key name) t keys;
  values = λ k. fold-unchanged_while without_place (λ u. value_of u k) HasDistinctPlaces (λ u key d. distinct-without_place u key d) (λ u key d. value_of-without_place u key k d) t keys distinct;
}

-- ---- look-ups

holders-set_value : (keyspaces : Keyspaces) (name : List ℕ) (old new : KeyspaceState) (table : List ℕ) → keyspace_at keyspaces name ≡ Some old → is_marked new.tables table ≡ is_marked old.tables table → holders (set_value (same_text name) keyspaces new) table ≡ holders keyspaces table
holders-set_value [] name old new table found same = refl
holders-set_value (k ∷ ks) name old new table found same = by (holders-set_value ks name old new table) (same_text name k.0) refl (is_marked k.1.tables table) refl
  where
    by : (keyspace_at ks name ≡ Some old → is_marked new.tables table ≡ is_marked old.tables table → holders (set_value (same_text name) ks new) table ≡ holders ks table) → (b : Bool) → same_text name k.0 ≡ b → (c : Bool) → is_marked k.1.tables table ≡ c → holders (set_value (same_text name) (k ∷ ks) new) table ≡ holders (k ∷ ks) table
    by again true b c marked =
        let is : Some k.1 ≡ Some old = rw b at found in
        let e : k.1 ≡ old = cc in
        rw b (ap (λ m. map (λ x. x.0) (cond m ((k.0, new) ∷ filter (λ x. is_marked x.1.tables table) ks) (filter (λ x. is_marked x.1.tables table) ks))) (same ∙ ap (λ s. is_marked s.tables table) (sym e)) ∙ both c marked)
      where
        both : (c : Bool) → is_marked k.1.tables table ≡ c → map (λ x. x.0) (cond (is_marked k.1.tables table) ((k.0, new) ∷ filter (λ x. is_marked x.1.tables table) ks) (filter (λ x. is_marked x.1.tables table) ks)) ≡ holders (k ∷ ks) table
        both true m = rw m refl
        both false m = rw m refl
    by again false b true marked = rw (b, marked) (ap (λ l. k.0 ∷ l) (again (rw b at found) same))
    by again false b false marked = rw (b, marked) (again (rw b at found) same)

holders-changed : (change : KeyspaceState → KeyspaceState) (keyspaces : Keyspaces) (name table : List ℕ) → ((state : KeyspaceState) → keyspace_at keyspaces name ≡ Some state → is_marked (change state).tables table ≡ is_marked state.tables table) → holders (with_keyspace_state change keyspaces name) table ≡ holders keyspaces table
holders-changed change keyspaces name table same = by (keyspace_at keyspaces name) refl
  where
    by : (r : Option KeyspaceState) → keyspace_at keyspaces name ≡ r → holders (option_map_or (λ state. set_value (same_text name) keyspaces (change state)) r keyspaces) table ≡ holders keyspaces table
    by None none = refl
    by (Some state) some = holders-set_value keyspaces name state (change state) table some (same state some)

-- where rules and holders are the same, names lead to the same
resolution-rules : (t : TopologyState) (rules : Rules) (key : RuleKey) (type : TabletType) → ((k : RuleKey) → rule_at rules k ≡ rule_at t.rules k) → resolution (record t { rules = rules }) key type ≡ resolution t key type
resolution-rules t rules key type same =
    ap (λ r. option_map_or Ok (option_or r (rule_at rules (for_all_types key))) (unruled t.keyspaces key.keyspace key.table)) (same (for_type key type))
    ∙ ap (λ r. option_map_or Ok (option_or (rule_at t.rules (for_type key type)) r) (unruled t.keyspaces key.keyspace key.table)) (same (for_all_types key))

resolution-keyspaces : (t : TopologyState) (keyspaces : Keyspaces) (key : RuleKey) (type : TabletType) → ((table : List ℕ) → holders keyspaces table ≡ holders t.keyspaces table) → resolution (record t { keyspaces = keyspaces }) key type ≡ resolution t key type
resolution-keyspaces t keyspaces key type same = ap (λ u. option_map_or Ok (rule_for t.rules key type) u) (by key.keyspace)
  where
    by : (k : Option (List ℕ)) → unruled keyspaces k key.table ≡ unruled t.keyspaces k key.table
    by None = ap (λ h. sole_holder h key.table) (same key.table)
    by (Some k) = refl

resolution-with_place : (t : TopologyState) (key : EntryKey) (name : RuleKey) (type : TabletType) → resolution (with_place t key) name type ≡ resolution t name type
resolution-with_place t (about.Rule key) name type = resolution-rules t (with_rule_place t.rules key) name type (rule_at-with_rule_place t.rules key)
resolution-with_place t (about.Denied keyspace table) name type = resolution-keyspaces t (with_keyspace_state (with_denied_place table) t.keyspaces keyspace) name type (λ other. holders-changed (with_denied_place table) t.keyspaces keyspace other (λ state found. refl))
resolution-with_place t (about.Present keyspace table) name type =
    resolution-keyspaces t (with_keyspace_state (with_table_place table) t.keyspaces keyspace) name type (λ other. holders-changed (with_table_place table) t.keyspaces keyspace other (λ state found. is_marked-with_mark_place state.tables table other))

resolution-without_place : (t : TopologyState) (key : EntryKey) (name : RuleKey) (type : TabletType) → HasDistinctPlaces t → resolution (without_place t key) name type ≡ resolution t name type
resolution-without_place t (about.Rule key) name type distinct = resolution-rules t (without_rule_place t.rules key) name type (λ k. rule_at-without_rule_place t.rules key k distinct.rules)
resolution-without_place t (about.Denied keyspace table) name type distinct = resolution-keyspaces t (with_keyspace_state (without_denied_place table) t.keyspaces keyspace) name type (λ other. holders-changed (without_denied_place table) t.keyspaces keyspace other (λ state found. refl))
resolution-without_place t (about.Present keyspace table) name type distinct =
    resolution-keyspaces t (with_keyspace_state (without_table_place table) t.keyspaces keyspace) name type
    (λ other. holders-changed (without_table_place table) t.keyspaces keyspace other (λ state found. is_marked-without_mark_place state.tables table other (tables_distinct t keyspace state distinct found)))

pub resolution-with_places : (t : TopologyState) (keys : List EntryKey) (name : RuleKey) (type : TabletType) → resolution (with_places t keys) name type ≡ resolution t name type
resolution-with_places t keys name type = fold-unchanged with_place (λ u. resolution u name type) (λ u key. resolution-with_place u key name type) t keys

pub resolution-without_places : (t : TopologyState) (keys : List EntryKey) (name : RuleKey) (type : TabletType) → HasDistinctPlaces t → resolution (without_places t keys) name type ≡ resolution t name type
resolution-without_places t keys name type distinct = fold-unchanged_while without_place (λ u. resolution u name type) HasDistinctPlaces (λ u key d. distinct-without_place u key d) (λ u key d. resolution-without_place u key name type d) t keys distinct

pub resolution-denied : (t : TopologyState) (keyspace table : List ℕ) (mark : Bool) (name : RuleKey) (type : TabletType) → resolution (with_entry t (entry.Denied keyspace table mark)) name type ≡ resolution t name type
resolution-denied t keyspace table mark name type = resolution-keyspaces t (with_keyspace_state (with_denied_mark table mark) t.keyspaces keyspace) name type (λ other. holders-changed (with_denied_mark table mark) t.keyspaces keyspace other (λ state found. refl))

-- ---- a place that is made and dropped

marks_back : (marks : Marks) (name : List ℕ) → is_some (lookup (same_text name) marks) ≡ false → without_mark_place (with_mark_place marks name) name ≡ marks
marks_back marks name lacks =
    let none = none_from (lookup (same_text name) marks) lacks in
    let unmarked : is_marked (with_mark_place marks name) name ≡ false = is_marked-with_mark_place marks name name ∙ ap (λ r. unwrap_or r false) none in
    ap (λ b. cond b (with_mark_place marks name) (remove_entry (same_text name) (with_mark_place marks name))) unmarked
    ∙ ap (λ r. remove_entry (same_text name) (option_map_or (λ mark. marks) r (marks ++ (name, false) ∷ []))) none
    ∙ remove_entry-push same_text same_text_decides marks name false none

rules_back : (rules : Rules) (key : RuleKey) → is_some (lookup (same_key key) rules) ≡ false → without_rule_place (with_rule_place rules key) key ≡ rules
rules_back rules key lacks =
    let none = none_from (lookup (same_key key) rules) lacks in
    let unruled_here : rule_at (with_rule_place rules key) key ≡ None = rule_at-with_rule_place rules key key ∙ ap (λ r. unwrap_or r None) none in
    ap (λ r. option_map_or (λ target. with_rule_place rules key) r (remove_entry (same_key key) (with_rule_place rules key))) unruled_here
    ∙ ap (λ r. remove_entry (same_key key) (option_map_or (λ rule. rules) r (put_rule rules (key, None)))) none
    ∙ remove_entry-put_by key_before same_key same_key_decides rules key None none

-- of one keyspace, or of none
keyspace_back : (change back : KeyspaceState → KeyspaceState) (keyspaces : Keyspaces) (name : List ℕ) → ((state : KeyspaceState) → keyspace_at keyspaces name ≡ Some state → back (change state) ≡ state) → with_keyspace_state back (with_keyspace_state change keyspaces name) name ≡ keyspaces
keyspace_back change back keyspaces name is = by (keyspace_at keyspaces name) refl
  where
    by : (r : Option KeyspaceState) → keyspace_at keyspaces name ≡ r → with_keyspace_state back (with_keyspace_state change keyspaces name) name ≡ keyspaces
    by None none = rw (none, none) refl
    by (Some state) some = with_keyspace_state-back change back keyspaces name state some (is state some)

pub place_back : (t : TopologyState) (key : EntryKey) → has_place t key ≡ false → without_place (with_place t key) key ≡ t
place_back t (about.Rule key) lacks = ap (λ rules. record t { rules = rules }) (rules_back t.rules key lacks)
place_back t (about.Denied keyspace table) lacks =
    ap (λ keyspaces. record t { keyspaces = keyspaces })
    (keyspace_back (with_denied_place table) (without_denied_place table) t.keyspaces keyspace
    (λ state found. ap (λ marks. record state { denied = marks }) (marks_back state.denied table (ap (λ r. option_map_or (λ s. is_some (lookup (same_text table) s.denied)) r false) (sym found) ∙ lacks))))
place_back t (about.Present keyspace table) lacks =
    ap (λ keyspaces. record t { keyspaces = keyspaces })
    (keyspace_back (with_table_place table) (without_table_place table) t.keyspaces keyspace
    (λ state found. ap (λ marks. record state { tables = marks }) (marks_back state.tables table (ap (λ r. option_map_or (λ s. is_some (lookup (same_text table) s.tables)) r false) (sym found) ∙ lacks))))
