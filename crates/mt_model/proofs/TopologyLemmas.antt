-- What a topology says after a write, after a place is made or dropped, and after what is made by hand.
use Rattle.std.proofs.Common.{◌≡◌, ◌≢◌, ℕ, Bool, true, false, cond, List, [], ◌∷◌, ◌++◌, Option, None, Some, is_some, unwrap_or, All, refl, sym, ap, subst, ◌∙◌}
use Rattle.std.proofs.lemmas.Bool.{true≢false}
use Rattle.std.proofs.lemmas.List.Elements.{All-head, All-tail}
use Rattle.std.specs.Bool.{Decides}
use Rattle.std.specs.List.{IsDistinct}
use Rattle.std.specs.Option.{option_map_or}
use Rattle.std.specs.Map.{keys_of, lookup, remove_entry, set_value}
use Rattle.mt_names.specs.Names.{same_text}
use Rattle.mt_names.specs.Same.{same_key}
use Rattle.mt_names.specs.declared.keys.RuleKey.{RuleKey}
use Rattle.mt_names.specs.declared.keys.RuleTarget.{RuleTarget}
use Rattle.mt_names.proofs.SameLemmas.{same_key_decides, same_text_decides}
use Rattle.mt_names.proofs.EntryLemmas.{other_from, some_from, lookup-set_value_here, lookup-set_value_elsewhere, set_value-back, lookup-push_here, lookup-remove_entry_here, lookup-remove_entry_elsewhere}
use Rattle.mt_model.specs.Order.{key_before}
use Rattle.mt_model.proofs.OrderLemmas.{at-put_placed, put_placed-there}
use Rattle.mt_model.specs.declared.entries.Entry.{Entry}
use Rattle.mt_model.specs.declared.entries.Entry.TheVariants as entry
use Rattle.mt_model.specs.declared.entries.EntryKey.{EntryKey}
use Rattle.mt_model.specs.declared.entries.EntryKey.TheVariants as about
use Rattle.mt_names.specs.Shards.{Cuts}
use Rattle.mt_model.specs.Topology.{TopologyState, HasDistinctPlaces, Keyspaces, KeyspaceState, Marks, Rules, key_of, value_of, has_place, is_marked, rule_at, keyspace_at, with_entry, with_keyspace_state, with_table_mark, with_denied_mark, with_mark_place, without_mark_place, with_rule_place, without_rule_place, new_keyspace, with_keyspace, with_new_table, with_table, with_rule}

-- ---- places of names or keys, each with a value; one without a place has the blank

module _ {K V : Type 0} (same : K → K → Bool) (decides : (a b : K) → Decides (same a b) (a ≡ b)) (blank : V) where
  abbrev at : List (K × V) → K → V
  at es k = unwrap_or (lookup (same k) es) blank

  at-set_here : (es : List (K × V)) (k : K) (v : V) → is_some (lookup (same k) es) ≡ true → at (set_value (same k) es v) k ≡ v
  at-set_here es k v there =
      let old = some_from (lookup (same k) es) there in
      ap (λ r. unwrap_or r blank) (lookup-set_value_here same decides es k v old.0 old.1)

  at-set_elsewhere : (es : List (K × V)) (k j : K) (v : V) → k ≢ j → at (set_value (same k) es v) j ≡ at es j
  at-set_elsewhere es k j v other = ap (λ r. unwrap_or r blank) (lookup-set_value_elsewhere same decides es k j v other)

  at-set_back : (es : List (K × V)) (k : K) (v : V) → is_some (lookup (same k) es) ≡ true → set_value (same k) (set_value (same k) es v) (at es k) ≡ es
  at-set_back es k v there =
      let old = some_from (lookup (same k) es) there in
      ap (λ r. set_value (same k) (set_value (same k) es v) (unwrap_or r blank)) old.1 ∙ set_value-back same decides es k v old.0 old.1

  -- a blank at the end
  at-push : (es : List (K × V)) (k j : K) → at (es ++ (k, blank) ∷ []) j ≡ at es j
  at-push [] k j = by (same j k)
    where
      by : (t : Bool) → unwrap_or (cond t (Some blank) None) blank ≡ blank
      by true = refl
      by false = refl
  at-push (e ∷ es) k j = by (at-push es k j) (same j e.0)
    where
      by : at (es ++ (k, blank) ∷ []) j ≡ at es j → (t : Bool) → unwrap_or (cond t (Some e.1) (lookup (same j) (es ++ (k, blank) ∷ []))) blank ≡ unwrap_or (cond t (Some e.1) (lookup (same j) es)) blank
      by again true = refl
      by again false = again

  -- a place made, unless there is one: it is there, and says nothing
  abbrev placed : List (K × V) → K → List (K × V)
  placed es k = option_map_or (λ old. es) (lookup (same k) es) (es ++ (k, blank) ∷ [])

  at-placed : (es : List (K × V)) (k j : K) → at (placed es k) j ≡ at es j
  at-placed es k j = by (lookup (same k) es)
    where
      by : (r : Option V) → at (option_map_or (λ old. es) r (es ++ (k, blank) ∷ [])) j ≡ at es j
      by None = at-push es k j
      by (Some old) = refl

  placed-there : (es : List (K × V)) (k : K) → is_some (lookup (same k) (placed es k)) ≡ true
  placed-there es k = by (lookup (same k) es) refl
    where
      by : (r : Option V) → lookup (same k) es ≡ r → is_some (lookup (same k) (option_map_or (λ old. es) r (es ++ (k, blank) ∷ []))) ≡ true
      by None none = ap is_some (lookup-push_here same decides es k blank none)
      by (Some old) some = ap is_some some

  -- a blank taken out
  at-remove_blank : (es : List (K × V)) (k j : K) → IsDistinct same (keys_of es) → at es k ≡ blank → at (remove_entry (same k) es) j ≡ at es j
  at-remove_blank es k j distinct is = by (same k j) refl
    where
      by : (t : Bool) → same k j ≡ t → at (remove_entry (same k) es) j ≡ at es j
      by true t = subst (λ i. at (remove_entry (same k) es) i ≡ at es i) ((decides k j).0 t) (ap (λ r. unwrap_or r blank) (lookup-remove_entry_here same decides es k distinct) ∙ sym is)
      by false t = ap (λ r. unwrap_or r blank) (lookup-remove_entry_elsewhere same decides es k j (other_from same decides k j t))

-- ---- rules

pub rule_at-set_here : (rules : Rules) (key : RuleKey) (target : Option RuleTarget) → is_some (lookup (same_key key) rules) ≡ true → rule_at (set_value (same_key key) rules target) key ≡ target
rule_at-set_here = at-set_here same_key same_key_decides None

pub rule_at-set_elsewhere : (rules : Rules) (key other : RuleKey) (target : Option RuleTarget) → key ≢ other → rule_at (set_value (same_key key) rules target) other ≡ rule_at rules other
rule_at-set_elsewhere = at-set_elsewhere same_key same_key_decides None

pub rule_at-set_back : (rules : Rules) (key : RuleKey) (target : Option RuleTarget) → is_some (lookup (same_key key) rules) ≡ true → set_value (same_key key) (set_value (same_key key) rules target) (rule_at rules key) ≡ rules
rule_at-set_back = at-set_back same_key same_key_decides None

pub rule_at-with_rule_place : (rules : Rules) (key other : RuleKey) → rule_at (with_rule_place rules key) other ≡ rule_at rules other
rule_at-with_rule_place = at-put_placed key_before same_key same_key_decides None

-- the place that is made is there
pub with_rule_place-there : (rules : Rules) (key : RuleKey) → is_some (lookup (same_key key) (with_rule_place rules key)) ≡ true
with_rule_place-there = put_placed-there key_before same_key same_key_decides None

pub rule_at-without_rule_place : (rules : Rules) (key other : RuleKey) → IsDistinct same_key (keys_of rules) → rule_at (without_rule_place rules key) other ≡ rule_at rules other
rule_at-without_rule_place rules key other distinct = by (rule_at rules key) refl
  where
    by : (r : Option RuleTarget) → rule_at rules key ≡ r → rule_at (option_map_or (λ target. rules) r (remove_entry (same_key key) rules)) other ≡ rule_at rules other
    by None none = at-remove_blank same_key same_key_decides None rules key other distinct none
    by (Some target) some = refl

pub rule_at-with_rule_here : (rules : Rules) (key : RuleKey) (target : Option RuleTarget) → IsDistinct same_key (keys_of rules) → rule_at (with_rule rules key target) key ≡ target
rule_at-with_rule_here rules key None distinct = ap (λ r. unwrap_or r None) (lookup-remove_entry_here same_key same_key_decides rules key distinct)
rule_at-with_rule_here rules key (Some target) distinct = rule_at-set_here (with_rule_place rules key) key (Some target) (with_rule_place-there rules key)

pub rule_at-with_rule_elsewhere : (rules : Rules) (key other : RuleKey) (target : Option RuleTarget) → key ≢ other → rule_at (with_rule rules key target) other ≡ rule_at rules other
rule_at-with_rule_elsewhere rules key other None apart = ap (λ r. unwrap_or r None) (lookup-remove_entry_elsewhere same_key same_key_decides rules key other apart)
rule_at-with_rule_elsewhere rules key other (Some target) apart = rule_at-set_elsewhere (with_rule_place rules key) key other (Some target) apart ∙ rule_at-with_rule_place rules key other

-- ---- marks

pub is_marked-set_here : (marks : Marks) (name : List ℕ) (mark : Bool) → is_some (lookup (same_text name) marks) ≡ true → is_marked (set_value (same_text name) marks mark) name ≡ mark
is_marked-set_here = at-set_here same_text same_text_decides false

pub is_marked-set_elsewhere : (marks : Marks) (name other : List ℕ) (mark : Bool) → name ≢ other → is_marked (set_value (same_text name) marks mark) other ≡ is_marked marks other
is_marked-set_elsewhere = at-set_elsewhere same_text same_text_decides false

pub is_marked-set_back : (marks : Marks) (name : List ℕ) (mark : Bool) → is_some (lookup (same_text name) marks) ≡ true → set_value (same_text name) (set_value (same_text name) marks mark) (is_marked marks name) ≡ marks
is_marked-set_back = at-set_back same_text same_text_decides false

pub is_marked-with_mark_place : (marks : Marks) (name other : List ℕ) → is_marked (with_mark_place marks name) other ≡ is_marked marks other
is_marked-with_mark_place = at-placed same_text same_text_decides false

-- the place that is made is there
pub with_mark_place-there : (marks : Marks) (name : List ℕ) → is_some (lookup (same_text name) (with_mark_place marks name)) ≡ true
with_mark_place-there = placed-there same_text same_text_decides false

pub is_marked-without_mark_place : (marks : Marks) (name other : List ℕ) → IsDistinct same_text (keys_of marks) → is_marked (without_mark_place marks name) other ≡ is_marked marks other
is_marked-without_mark_place marks name other distinct = by (is_marked marks name) refl
  where
    by : (t : Bool) → is_marked marks name ≡ t → is_marked (cond t marks (remove_entry (same_text name) marks)) other ≡ is_marked marks other
    by true t = refl
    by false t = at-remove_blank same_text same_text_decides false marks name other distinct t

-- ---- one keyspace changed

pub with_keyspace_state-found : (change : KeyspaceState → KeyspaceState) (keyspaces : Keyspaces) (name : List ℕ) (state : KeyspaceState) → keyspace_at keyspaces name ≡ Some state → with_keyspace_state change keyspaces name ≡ set_value (same_text name) keyspaces (change state)
with_keyspace_state-found change keyspaces name state found = rw found refl

pub keyspace_at-changed_here : (change : KeyspaceState → KeyspaceState) (keyspaces : Keyspaces) (name : List ℕ) (state : KeyspaceState) → keyspace_at keyspaces name ≡ Some state → keyspace_at (with_keyspace_state change keyspaces name) name ≡ Some (change state)
keyspace_at-changed_here change keyspaces name state found =
    ap (λ ks. keyspace_at ks name) (with_keyspace_state-found change keyspaces name state found) ∙ lookup-set_value_here same_text same_text_decides keyspaces name (change state) state found

pub keyspace_at-changed_elsewhere : (change : KeyspaceState → KeyspaceState) (keyspaces : Keyspaces) (name other : List ℕ) → name ≢ other → keyspace_at (with_keyspace_state change keyspaces name) other ≡ keyspace_at keyspaces other
keyspace_at-changed_elsewhere change keyspaces name other apart = by (keyspace_at keyspaces name)
  where
    by : (r : Option KeyspaceState) → keyspace_at (option_map_or (λ state. set_value (same_text name) keyspaces (change state)) r keyspaces) other ≡ keyspace_at keyspaces other
    by None = refl
    by (Some state) = lookup-set_value_elsewhere same_text same_text_decides keyspaces name other (change state) apart

-- a change that is undone
pub with_keyspace_state-back : (change back : KeyspaceState → KeyspaceState) (keyspaces : Keyspaces) (name : List ℕ) (state : KeyspaceState) → keyspace_at keyspaces name ≡ Some state → back (change state) ≡ state → with_keyspace_state back (with_keyspace_state change keyspaces name) name ≡ keyspaces
with_keyspace_state-back change back keyspaces name state found is =
    with_keyspace_state-found back (with_keyspace_state change keyspaces name) name (change state) (keyspace_at-changed_here change keyspaces name state found)
    ∙ ap (λ ks. set_value (same_text name) ks (back (change state))) (with_keyspace_state-found change keyspaces name state found)
    ∙ ap (set_value (same_text name) (set_value (same_text name) keyspaces (change state))) is
    ∙ set_value-back same_text same_text_decides keyspaces name (change state) state found

-- what is read of a keyspace, or what is said of one that isn't there
abbrev read_at : {A : Type 0} → (KeyspaceState → A) → A → Keyspaces → List ℕ → A
read_at read none keyspaces name = option_map_or read (keyspace_at keyspaces name) none

-- a change that leaves what is read of the one keyspace leaves it of each
pub read_at-unchanged : {A : Type 0} (read : KeyspaceState → A) (none : A) (change : KeyspaceState → KeyspaceState) (keyspaces : Keyspaces) (name other : List ℕ) → ((state : KeyspaceState) → keyspace_at keyspaces name ≡ Some state → name ≡ other → read (change state) ≡ read state) → option_map_or read (keyspace_at (with_keyspace_state change keyspaces name) other) none ≡ option_map_or read (keyspace_at keyspaces other) none
read_at-unchanged {A} read none change keyspaces name other same = by (same_text name other) refl (keyspace_at keyspaces name) refl
  where
    by : (t : Bool) → same_text name other ≡ t → (r : Option KeyspaceState) → keyspace_at keyspaces name ≡ r → read_at read none (with_keyspace_state change keyspaces name) other ≡ read_at read none keyspaces other
    by false f r is = ap (λ s. option_map_or read s none) (keyspace_at-changed_elsewhere change keyspaces name other (other_from same_text same_text_decides name other f))
    by true t None is = rw is refl
    by true t (Some state) is =
        let e : name ≡ other = (same_text_decides name other).0 t in
        subst (λ o. read_at read none (with_keyspace_state change keyspaces name) o ≡ read_at read none keyspaces o) e
        (ap (λ s. option_map_or read s none) (keyspace_at-changed_here change keyspaces name state is) ∙ same state is e ∙ ap (λ s. option_map_or read s none) (sym is))

-- a fact of each keyspace is one of that which is found
pub holds_at : (P : KeyspaceState → Type 0) (keyspaces : Keyspaces) (name : List ℕ) (state : KeyspaceState) → All (λ k. P k.1) keyspaces → keyspace_at keyspaces name ≡ Some state → P state
holds_at P [] name state all found = absurd cc
holds_at P (k ∷ ks) name state all found = by (holds_at P ks name state (All-tail (λ k. P k.1) k ks all)) (same_text name k.0) refl
  where
    by : (keyspace_at ks name ≡ Some state → P state) → (t : Bool) → same_text name k.0 ≡ t → P state
    by again true t = let is : Some k.1 ≡ Some state = rw t at found in let e : k.1 ≡ state = cc in subst P e (All-head (λ k. P k.1) k ks all)
    by again false t = again (rw t at found)

-- the keyspace that is read as true is there
pub found_at : (read : KeyspaceState → Bool) (keyspaces : Keyspaces) (name : List ℕ) → option_map_or read (keyspace_at keyspaces name) false ≡ true → (state : KeyspaceState) × (keyspace_at keyspaces name ≡ Some state) × (read state ≡ true)
found_at read keyspaces name is = by (keyspace_at keyspaces name) refl
  where
    by : (r : Option KeyspaceState) → keyspace_at keyspaces name ≡ r → (state : KeyspaceState) × (keyspace_at keyspaces name ≡ Some state) × (read state ≡ true)
    by None none = absurd (true≢false (sym (rw none at is)))
    by (Some state) some = (state, some, rw some at is)

-- ---- a write of an entry

pub value_of-written_here : (t : TopologyState) (e : Entry) → has_place t (key_of e) ≡ true → value_of (with_entry t e) (key_of e) ≡ e
value_of-written_here t (entry.Rule key target) there = ap (entry.Rule key) (rule_at-set_here t.rules key target there)
value_of-written_here t (entry.Denied keyspace table mark) there =
    let found = found_at (λ state. is_some (lookup (same_text table) state.denied)) t.keyspaces keyspace there in
    ap (λ r. entry.Denied keyspace table (option_map_or (λ state. is_marked state.denied table) r false)) (keyspace_at-changed_here (with_denied_mark table mark) t.keyspaces keyspace found.0 found.1)
    ∙ ap (entry.Denied keyspace table) (is_marked-set_here found.0.denied table mark found.2)
value_of-written_here t (entry.Present keyspace table mark) there =
    let found = found_at (λ state. is_some (lookup (same_text table) state.tables)) t.keyspaces keyspace there in
    ap (λ r. entry.Present keyspace table (option_map_or (λ state. is_marked state.tables table) r false)) (keyspace_at-changed_here (with_table_mark table mark) t.keyspaces keyspace found.0 found.1)
    ∙ ap (entry.Present keyspace table) (is_marked-set_here found.0.tables table mark found.2)

-- a change of a keyspace that leaves the marks of its tables and of its denials, but for one, leaves all other values
pub value_of-keyspace_changed : (t : TopologyState) (change : KeyspaceState → KeyspaceState) (name : List ℕ) (k : EntryKey)
    → ((state : KeyspaceState) (table : List ℕ) → keyspace_at t.keyspaces name ≡ Some state → about.Present name table ≡ k → is_marked (change state).tables table ≡ is_marked state.tables table)
    → ((state : KeyspaceState) (table : List ℕ) → keyspace_at t.keyspaces name ≡ Some state → about.Denied name table ≡ k → is_marked (change state).denied table ≡ is_marked state.denied table)
    → value_of (record t { keyspaces = with_keyspace_state change t.keyspaces name }) k ≡ value_of t k
value_of-keyspace_changed t change name (about.Rule key) tables denied = refl
value_of-keyspace_changed t change name (about.Present keyspace table) tables denied =
    ap (entry.Present keyspace table) (read_at-unchanged (λ state. is_marked state.tables table) false change t.keyspaces name keyspace (λ state found e. tables state table found (ap (λ n. about.Present n table) e)))
value_of-keyspace_changed t change name (about.Denied keyspace table) tables denied =
    ap (entry.Denied keyspace table) (read_at-unchanged (λ state. is_marked state.denied table) false change t.keyspaces name keyspace (λ state found e. denied state table found (ap (λ n. about.Denied n table) e)))

-- a change of the rules that leaves the rule of each key, but for one, leaves all other values
pub value_of-rules_changed : (t : TopologyState) (rules : Rules) (k : EntryKey) → ((key : RuleKey) → about.Rule key ≡ k → rule_at rules key ≡ rule_at t.rules key) → value_of (record t { rules = rules }) k ≡ value_of t k
value_of-rules_changed t rules (about.Rule key) same = ap (entry.Rule key) (same key refl)
value_of-rules_changed t rules (about.Present keyspace table) same = refl
value_of-rules_changed t rules (about.Denied keyspace table) same = refl

pub value_of-written_elsewhere : (t : TopologyState) (e : Entry) (k : EntryKey) → key_of e ≢ k → value_of (with_entry t e) k ≡ value_of t k
value_of-written_elsewhere t (entry.Rule key target) k apart =
    value_of-rules_changed t (set_value (same_key key) t.rules target) k (λ other is. rule_at-set_elsewhere t.rules key other target (λ e. apart (ap about.Rule e ∙ is)))
value_of-written_elsewhere t (entry.Denied keyspace table mark) k apart =
    value_of-keyspace_changed t (with_denied_mark table mark) keyspace k (λ state other found is. refl)
    (λ state other found is. is_marked-set_elsewhere state.denied table other mark (λ e. apart (ap (about.Denied keyspace) e ∙ is)))
value_of-written_elsewhere t (entry.Present keyspace table mark) k apart =
    value_of-keyspace_changed t (with_table_mark table mark) keyspace k
    (λ state other found is. is_marked-set_elsewhere state.tables table other mark (λ e. apart (ap (about.Present keyspace) e ∙ is)))
    (λ state other found is. refl)

-- what stood before, written again
pub with_entry-back : (t : TopologyState) (e : Entry) → has_place t (key_of e) ≡ true → with_entry (with_entry t e) (value_of t (key_of e)) ≡ t
with_entry-back t (entry.Rule key target) there = ap (λ rules. record t { rules = rules }) (rule_at-set_back t.rules key target there)
with_entry-back t (entry.Denied keyspace table mark) there =
    let found = found_at (λ state. is_some (lookup (same_text table) state.denied)) t.keyspaces keyspace there in
    ap (λ keyspaces. record t { keyspaces = keyspaces })
    (ap (λ r. with_keyspace_state (with_denied_mark table (option_map_or (λ state. is_marked state.denied table) r false)) (with_keyspace_state (with_denied_mark table mark) t.keyspaces keyspace) keyspace) found.1
    ∙ with_keyspace_state-back (with_denied_mark table mark) (with_denied_mark table (is_marked found.0.denied table)) t.keyspaces keyspace found.0 found.1
    (ap (λ marks. record found.0 { denied = marks }) (is_marked-set_back found.0.denied table mark found.2)))
with_entry-back t (entry.Present keyspace table mark) there =
    let found = found_at (λ state. is_some (lookup (same_text table) state.tables)) t.keyspaces keyspace there in
    ap (λ keyspaces. record t { keyspaces = keyspaces })
    (ap (λ r. with_keyspace_state (with_table_mark table (option_map_or (λ state. is_marked state.tables table) r false)) (with_keyspace_state (with_table_mark table mark) t.keyspaces keyspace) keyspace) found.1
    ∙ with_keyspace_state-back (with_table_mark table mark) (with_table_mark table (is_marked found.0.tables table)) t.keyspaces keyspace found.0 found.1
    (ap (λ marks. record found.0 { tables = marks }) (is_marked-set_back found.0.tables table mark found.2)))

-- ---- places of one name

pub tables_distinct : (t : TopologyState) (keyspace : List ℕ) (state : KeyspaceState) → HasDistinctPlaces t → keyspace_at t.keyspaces keyspace ≡ Some state → IsDistinct same_text (keys_of state.tables)
tables_distinct t keyspace state distinct found = holds_at (λ s. IsDistinct same_text (keys_of s.tables)) t.keyspaces keyspace state distinct.tables found

pub denied_distinct : (t : TopologyState) (keyspace : List ℕ) (state : KeyspaceState) → HasDistinctPlaces t → keyspace_at t.keyspaces keyspace ≡ Some state → IsDistinct same_text (keys_of state.denied)
denied_distinct t keyspace state distinct found = holds_at (λ s. IsDistinct same_text (keys_of s.denied)) t.keyspaces keyspace state distinct.denied found

-- ---- what is made by hand

keyspace_at-push : (keyspaces : Keyspaces) (name other : List ℕ) (read : KeyspaceState → Bool) (state : KeyspaceState) → read state ≡ false → option_map_or read (keyspace_at (keyspaces ++ (name, state) ∷ []) other) false ≡ option_map_or read (keyspace_at keyspaces other) false
keyspace_at-push [] name other read state blank = by (same_text other name)
  where
    by : (t : Bool) → option_map_or read (cond t (Some state) None) false ≡ false
    by true = blank
    by false = refl
keyspace_at-push (k ∷ ks) name other read state blank = by (keyspace_at-push ks name other read state blank) (same_text other k.0)
  where
    by : option_map_or read (keyspace_at (ks ++ (name, state) ∷ []) other) false ≡ option_map_or read (keyspace_at ks other) false → (t : Bool) → option_map_or read (cond t (Some k.1) (keyspace_at (ks ++ (name, state) ∷ []) other)) false ≡ option_map_or read (cond t (Some k.1) (keyspace_at ks other)) false
    by again true = refl
    by again false = again

pub value_of-with_keyspace : (t : TopologyState) (name : List ℕ) (cuts : Cuts) (k : EntryKey) → value_of (with_keyspace t name cuts) k ≡ value_of t k
value_of-with_keyspace t name cuts (about.Rule key) = refl
value_of-with_keyspace t name cuts (about.Present keyspace table) = ap (entry.Present keyspace table) (keyspace_at-push t.keyspaces name keyspace (λ state. is_marked state.tables table) (new_keyspace cuts) refl)
value_of-with_keyspace t name cuts (about.Denied keyspace table) = ap (entry.Denied keyspace table) (keyspace_at-push t.keyspaces name keyspace (λ state. is_marked state.denied table) (new_keyspace cuts) refl)

pub value_of-with_table_here : (t : TopologyState) (keyspace table : List ℕ) → is_some (keyspace_at t.keyspaces keyspace) ≡ true → value_of (with_table t keyspace table) (about.Present keyspace table) ≡ entry.Present keyspace table true
value_of-with_table_here t keyspace table there =
    let found = some_from (keyspace_at t.keyspaces keyspace) there in
    ap (λ r. entry.Present keyspace table (option_map_or (λ state. is_marked state.tables table) r false)) (keyspace_at-changed_here (with_new_table table) t.keyspaces keyspace found.0 found.1)
    ∙ ap (entry.Present keyspace table) (is_marked-set_here (with_mark_place found.0.tables table) table true (with_mark_place-there found.0.tables table))

pub value_of-with_table_elsewhere : (t : TopologyState) (keyspace table : List ℕ) (k : EntryKey) → about.Present keyspace table ≢ k → value_of (with_table t keyspace table) k ≡ value_of t k
value_of-with_table_elsewhere t keyspace table k apart =
    value_of-keyspace_changed t (with_new_table table) keyspace k
    (λ state other found is. is_marked-set_elsewhere (with_mark_place state.tables table) table other true (λ e. apart (ap (about.Present keyspace) e ∙ is)) ∙ is_marked-with_mark_place state.tables table other)
    (λ state other found is. refl)
