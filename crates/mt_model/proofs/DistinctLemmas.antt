-- Places stay distinct through writes, through places made and dropped, and through what is made by hand.
use Rattle.std.proofs.Common.{◌≡◌, ℕ, Bool, true, false, cond, List, [], ◌∷◌, ◌++◌, Option, None, Some, All, refl}
use Rattle.std.proofs.lemmas.List.Elements.{All-cons, All-head, All-nil, All-tail}
use Rattle.std.specs.Bool.{Decides}
use Rattle.std.specs.List.{IsDistinct}
use Rattle.std.specs.Map.{keys_of, lookup, remove_entry, set_value}
use Rattle.std.specs.Option.{option_map_or}
use Rattle.mt_names.specs.declared.keys.RuleKey.{RuleKey}
use Rattle.mt_names.specs.declared.keys.RuleTarget.{RuleTarget}
use Rattle.mt_names.specs.Names.{same_text}
use Rattle.mt_names.specs.Same.{same_key}
use Rattle.mt_names.proofs.EntryLemmas.{IsDistinct-set_value, IsDistinct-push, IsDistinct-remove_entry}
use Rattle.mt_names.proofs.SameLemmas.{same_key_decides, same_text_decides}
use Rattle.mt_model.specs.Order.{key_before}
use Rattle.mt_model.proofs.OrderLemmas.{IsDistinct-put_placed}
use Rattle.mt_model.specs.declared.entries.Entry.{Entry}
use Rattle.mt_model.specs.declared.entries.Entry.TheVariants as entry
use Rattle.mt_names.specs.Shards.{Cuts}
use Rattle.mt_model.specs.Topology.{TopologyState, HasDistinctPlaces, Keyspaces, KeyspaceState, Marks, Rules, is_marked, rule_at, keyspace_at, with_entry, with_keyspace_state, with_table_mark, with_denied_mark, with_mark_place, without_mark_place, with_rule_place, without_rule_place, with_table_place, without_table_place, with_denied_place, without_denied_place, empty_topology, new_keyspace, with_keyspace, with_new_table, with_table, with_rule}
use Rattle.mt_model.proofs.TopologyLemmas.{holds_at}

-- ---- places of names or keys

-- a place at the end, unless there is one
module _ {K V : Type 0} (same : K → K → Bool) (decides : (a b : K) → Decides (same a b) (a ≡ b)) where
  distinct-place : (es : List (K × V)) (k : K) (blank : V) → IsDistinct same (keys_of es) → IsDistinct same (keys_of (option_map_or (λ old. es) (lookup (same k) es) (es ++ (k, blank) ∷ [])))
  distinct-place es k blank distinct = by (lookup (same k) es) refl
    where
      by : (r : Option V) → lookup (same k) es ≡ r → IsDistinct same (keys_of (option_map_or (λ old. es) r (es ++ (k, blank) ∷ [])))
      by None none = IsDistinct-push same decides es k blank none distinct
      by (Some old) some = distinct

pub distinct-with_rule_place : (rules : Rules) (key : RuleKey) → IsDistinct same_key (keys_of rules) → IsDistinct same_key (keys_of (with_rule_place rules key))
distinct-with_rule_place rules key = IsDistinct-put_placed key_before same_key same_key_decides None rules key

pub distinct-without_rule_place : (rules : Rules) (key : RuleKey) → IsDistinct same_key (keys_of rules) → IsDistinct same_key (keys_of (without_rule_place rules key))
distinct-without_rule_place rules key distinct = by (rule_at rules key)
  where
    by : (r : Option RuleTarget) → IsDistinct same_key (keys_of (option_map_or (λ target. rules) r (remove_entry (same_key key) rules)))
    by None = IsDistinct-remove_entry same_key same_key_decides (same_key key) rules distinct
    by (Some target) = distinct

pub distinct-with_rule : (rules : Rules) (key : RuleKey) (target : Option RuleTarget) → IsDistinct same_key (keys_of rules) → IsDistinct same_key (keys_of (with_rule rules key target))
distinct-with_rule rules key None distinct = IsDistinct-remove_entry same_key same_key_decides (same_key key) rules distinct
distinct-with_rule rules key (Some target) distinct = IsDistinct-set_value same_key same_key_decides (with_rule_place rules key) key (Some target) (distinct-with_rule_place rules key distinct)

distinct-with_mark : (marks : Marks) (name : List ℕ) (mark : Bool) → IsDistinct same_text (keys_of marks) → IsDistinct same_text (keys_of (set_value (same_text name) marks mark))
distinct-with_mark marks name mark = IsDistinct-set_value same_text same_text_decides marks name mark

pub distinct-with_mark_place : (marks : Marks) (name : List ℕ) → IsDistinct same_text (keys_of marks) → IsDistinct same_text (keys_of (with_mark_place marks name))
distinct-with_mark_place marks name = distinct-place same_text same_text_decides marks name false

distinct-without_mark_place : (marks : Marks) (name : List ℕ) → IsDistinct same_text (keys_of marks) → IsDistinct same_text (keys_of (without_mark_place marks name))
distinct-without_mark_place marks name distinct = by (is_marked marks name)
  where
    by : (t : Bool) → IsDistinct same_text (keys_of (cond t marks (remove_entry (same_text name) marks)))
    by true = distinct
    by false = IsDistinct-remove_entry same_text same_text_decides (same_text name) marks distinct

-- ---- one keyspace changed

All-set_value : (P : KeyspaceState → Type 0) (test : List ℕ → Bool) (keyspaces : Keyspaces) (state : KeyspaceState) → P state → All (λ k. P k.1) keyspaces → All (λ k. P k.1) (set_value test keyspaces state)
All-set_value P test [] state one all = all
All-set_value P test (k ∷ ks) state one all = by (All-set_value P test ks state one (All-tail (λ k. P k.1) k ks all)) (test k.0)
  where
    by : All (λ k. P k.1) (set_value test ks state) → (t : Bool) → All (λ k. P k.1) (cond t ((k.0, state) ∷ ks) (k ∷ set_value test ks state))
    by again true = All-cons (λ k. P k.1) (k.0, state) ks one (All-tail (λ k. P k.1) k ks all)
    by again false = All-cons (λ k. P k.1) k (set_value test ks state) (All-head (λ k. P k.1) k ks all) again

All-changed : (P : KeyspaceState → Type 0) (change : KeyspaceState → KeyspaceState) (keyspaces : Keyspaces) (name : List ℕ) → ((state : KeyspaceState) → P state → P (change state)) → All (λ k. P k.1) keyspaces → All (λ k. P k.1) (with_keyspace_state change keyspaces name)
All-changed P change keyspaces name keeps all = by (keyspace_at keyspaces name) refl
  where
    by : (r : Option KeyspaceState) → keyspace_at keyspaces name ≡ r → All (λ k. P k.1) (option_map_or (λ state. set_value (same_text name) keyspaces (change state)) r keyspaces)
    by None none = all
    by (Some state) some = All-set_value P (same_text name) keyspaces (change state) (keeps state (holds_at P keyspaces name state all some)) all

names_distinct : (change : KeyspaceState → KeyspaceState) (keyspaces : Keyspaces) (name : List ℕ) → IsDistinct same_text (keys_of keyspaces) → IsDistinct same_text (keys_of (with_keyspace_state change keyspaces name))
names_distinct change keyspaces name distinct = by (keyspace_at keyspaces name)
  where
    by : (r : Option KeyspaceState) → IsDistinct same_text (keys_of (option_map_or (λ state. set_value (same_text name) keyspaces (change state)) r keyspaces))
    by None = distinct
    by (Some state) = IsDistinct-set_value same_text same_text_decides keyspaces name (change state) distinct

pub distinct-changed : (t : TopologyState) (change : KeyspaceState → KeyspaceState) (name : List ℕ)
    → ((state : KeyspaceState) → IsDistinct same_text (keys_of state.tables) → IsDistinct same_text (keys_of (change state).tables))
    → ((state : KeyspaceState) → IsDistinct same_text (keys_of state.denied) → IsDistinct same_text (keys_of (change state).denied))
    → HasDistinctPlaces t → HasDistinctPlaces (record t { keyspaces = with_keyspace_state change t.keyspaces name })
distinct-changed t change name tables denied distinct = record {
  rules = distinct.rules;
  keyspaces = names_distinct change t.keyspaces name distinct.keyspaces;
  tables = All-changed (λ s. IsDistinct same_text (keys_of s.tables)) change t.keyspaces name tables distinct.tables;
  denied = All-changed (λ s. IsDistinct same_text (keys_of s.denied)) change t.keyspaces name denied distinct.denied;
}

pub distinct-rules : (t : TopologyState) (rules : Rules) → IsDistinct same_key (keys_of rules) → HasDistinctPlaces t → HasDistinctPlaces (record t { rules = rules })
distinct-rules t rules is distinct = record { rules = is; keyspaces = distinct.keyspaces; tables = distinct.tables; denied = distinct.denied }

-- ---- the laws

pub distinct-empty : HasDistinctPlaces empty_topology
unfolding IsDistinct
distinct-empty = record { rules = tt; keyspaces = tt; tables = All-nil (λ k. IsDistinct same_text (keys_of k.1.tables)); denied = All-nil (λ k. IsDistinct same_text (keys_of k.1.denied)) }

pub distinct-with_entry : (t : TopologyState) (e : Entry) → HasDistinctPlaces t → HasDistinctPlaces (with_entry t e)
distinct-with_entry t (entry.Rule key target) distinct = distinct-rules t (set_value (same_key key) t.rules target) (IsDistinct-set_value same_key same_key_decides t.rules key target distinct.rules) distinct
distinct-with_entry t (entry.Denied keyspace table mark) distinct = distinct-changed t (with_denied_mark table mark) keyspace (λ state d. d) (λ state d. distinct-with_mark state.denied table mark d) distinct
distinct-with_entry t (entry.Present keyspace table mark) distinct = distinct-changed t (with_table_mark table mark) keyspace (λ state d. distinct-with_mark state.tables table mark d) (λ state d. d) distinct

All-push : (P : KeyspaceState → Type 0) (keyspaces : Keyspaces) (name : List ℕ) (state : KeyspaceState) → P state → All (λ k. P k.1) keyspaces → All (λ k. P k.1) (keyspaces ++ (name, state) ∷ [])
All-push P [] name state one all = All-cons (λ k. P k.1) (name, state) [] one all
All-push P (k ∷ ks) name state one all = All-cons (λ k. P k.1) k (ks ++ (name, state) ∷ []) (All-head (λ k. P k.1) k ks all) (All-push P ks name state one (All-tail (λ k. P k.1) k ks all))

no_marks_distinct : IsDistinct same_text (keys_of {K = List ℕ} {X = Bool} [])
unfolding IsDistinct
no_marks_distinct = tt

pub distinct-with_keyspace : (t : TopologyState) (name : List ℕ) (cuts : Cuts) → keyspace_at t.keyspaces name ≡ None → HasDistinctPlaces t → HasDistinctPlaces (with_keyspace t name cuts)
distinct-with_keyspace t name cuts none distinct = record {
  rules = distinct.rules;
  keyspaces = IsDistinct-push same_text same_text_decides t.keyspaces name (new_keyspace cuts) none distinct.keyspaces;
  tables = All-push (λ s. IsDistinct same_text (keys_of s.tables)) t.keyspaces name (new_keyspace cuts) no_marks_distinct distinct.tables;
  denied = All-push (λ s. IsDistinct same_text (keys_of s.denied)) t.keyspaces name (new_keyspace cuts) no_marks_distinct distinct.denied;
}

pub distinct-with_table : (t : TopologyState) (keyspace table : List ℕ) → HasDistinctPlaces t → HasDistinctPlaces (with_table t keyspace table)
distinct-with_table t keyspace table = distinct-changed t (with_new_table table) keyspace (λ state d. distinct-with_mark (with_mark_place state.tables table) table true (distinct-with_mark_place state.tables table d)) (λ state d. d)

pub distinct-table_made : (t : TopologyState) (keyspace table : List ℕ) → HasDistinctPlaces t → HasDistinctPlaces (record t { keyspaces = with_keyspace_state (with_table_place table) t.keyspaces keyspace })
distinct-table_made t keyspace table = distinct-changed t (with_table_place table) keyspace (λ state d. distinct-with_mark_place state.tables table d) (λ state d. d)

pub distinct-table_dropped : (t : TopologyState) (keyspace table : List ℕ) → HasDistinctPlaces t → HasDistinctPlaces (record t { keyspaces = with_keyspace_state (without_table_place table) t.keyspaces keyspace })
distinct-table_dropped t keyspace table = distinct-changed t (without_table_place table) keyspace (λ state d. distinct-without_mark_place state.tables table d) (λ state d. d)

pub distinct-denial_made : (t : TopologyState) (keyspace table : List ℕ) → HasDistinctPlaces t → HasDistinctPlaces (record t { keyspaces = with_keyspace_state (with_denied_place table) t.keyspaces keyspace })
distinct-denial_made t keyspace table = distinct-changed t (with_denied_place table) keyspace (λ state d. d) (λ state d. distinct-with_mark_place state.denied table d)

pub distinct-denial_dropped : (t : TopologyState) (keyspace table : List ℕ) → HasDistinctPlaces t → HasDistinctPlaces (record t { keyspaces = with_keyspace_state (without_denied_place table) t.keyspaces keyspace })
distinct-denial_dropped t keyspace table = distinct-changed t (without_denied_place table) keyspace (λ state d. d) (λ state d. distinct-without_mark_place state.denied table d)
