-- Places that are made and dropped again leave the very topology.
use Rattle.std.proofs.Common.{◌≡◌, ◌≢◌, ℕ, zero, suc, Bool, true, false, cond, List, [], ◌∷◌, ◌++◌, Option, None, Some, is_some, All, AllPairs, refl, sym, ap, ◌∙◌, arith}
use Rattle.std.proofs.lemmas.Bool.{true≢false}
use Rattle.std.proofs.lemmas.List.Elements.{All-head, All-tail}
use Rattle.std.proofs.lemmas.Map.Steps.{set_value_same}
use Rattle.std.specs.Map.{lookup, remove_entry, set_value}
use Rattle.std.specs.Option.{option_map_or}
use Rattle.mt_names.specs.declared.keys.RuleKey.{RuleKey}
use Rattle.mt_names.specs.declared.keys.RuleTarget.{RuleTarget}
use Rattle.mt_names.specs.Names.{same_text}
use Rattle.mt_names.specs.Same.{DecidesEquality, same_key}
use Rattle.mt_names.proofs.EntryLemmas.{apart, lookup-remove_entry_elsewhere}
use Rattle.mt_names.proofs.SameLemmas.{same_key_decides, same_text_decides}
use Rattle.mt_model.specs.declared.entries.EntryKey.{EntryKey}
use Rattle.mt_model.specs.declared.entries.EntryKey.TheVariants as about
use Rattle.mt_model.specs.Part.{with_place, with_places, without_place, without_places}
use Rattle.mt_model.specs.Order.{key_before}
use Rattle.mt_model.proofs.OrderLemmas.{key_order, put-put, put_placed-elsewhere}
use Rattle.mt_model.specs.Topology.{KeyspaceState, Keyspaces, Marks, Rules, TopologyState, put_rule, has_place, is_marked, keyspace_at, rule_at, value_of, with_denied_place, with_keyspace_state, with_mark_place, with_rule_place, with_table_place, without_denied_place, without_mark_place, without_table_place}
use Rattle.mt_model.proofs.PlaceLemmas.{place_back, same-with_places}
use Rattle.mt_model.proofs.TopologyLemmas.{is_marked-with_mark_place}
use Rattle.mt_stands.proofs.PlaceLemmas.{holds, place_elsewhere}

-- ---- one place dropped, another made

module _ {K V : Type 0} (same : K → K → Bool) (decides : DecidesEquality same) where
  removed_push : (es : List (K × V)) (e : K × V) (k : K) → k ≢ e.0 → remove_entry (same k) (es ++ e ∷ []) ≡ remove_entry (same k) es ++ e ∷ []
  removed_push [] e k other = ap (λ b. cond b [] (e ∷ [])) (apart same decides k e.0 other)
  removed_push (d ∷ es) e k other = by (same k d.0) (removed_push es e k other)
    where
      by : (b : Bool) → remove_entry (same k) (es ++ e ∷ []) ≡ remove_entry (same k) es ++ e ∷ []
          → cond b (es ++ e ∷ []) (d ∷ remove_entry (same k) (es ++ e ∷ [])) ≡ cond b es (d ∷ remove_entry (same k) es) ++ e ∷ []
      by true again = refl
      by false again = ap (λ l. d ∷ l) again

  turned : (es : List (K × V)) (n k : K) (v : V) → k ≢ n
      → remove_entry (same k) (option_map_or (λ found. es) (lookup (same n) es) (es ++ (n, v) ∷ []))
      ≡ option_map_or (λ found. remove_entry (same k) es) (lookup (same n) (remove_entry (same k) es)) (remove_entry (same k) es ++ (n, v) ∷ [])
  turned es n k v other =
      by (lookup (same n) es) ∙ ap (λ o. option_map_or (λ found. remove_entry (same k) es) o (remove_entry (same k) es ++ (n, v) ∷ [])) (sym (lookup-remove_entry_elsewhere same decides es k n other))
    where
      by : (o : Option V) → remove_entry (same k) (option_map_or (λ found. es) o (es ++ (n, v) ∷ [])) ≡ option_map_or (λ found. remove_entry (same k) es) o (remove_entry (same k) es ++ (n, v) ∷ [])
      by None = removed_push es (n, v) k other
      by (Some found) = refl

marks_turned : (marks : Marks) (n k : List ℕ) → k ≢ n → without_mark_place (with_mark_place marks n) k ≡ with_mark_place (without_mark_place marks k) n
marks_turned marks n k other =
    ap (λ b. cond b (with_mark_place marks n) (remove_entry (same_text k) (with_mark_place marks n))) (is_marked-with_mark_place marks n k) ∙ by (is_marked marks k)
  where
    by : (b : Bool) → cond b (with_mark_place marks n) (remove_entry (same_text k) (with_mark_place marks n)) ≡ with_mark_place (cond b marks (remove_entry (same_text k) marks)) n
    by true = refl
    by false = turned same_text same_text_decides marks n k false other

-- a change of the keyspace that is found first
changed : (KeyspaceState → KeyspaceState) → Keyspaces → List ℕ → Keyspaces
changed change [] name = []
changed change (k ∷ ks) name = cond (same_text name k.0) ((k.0, change k.1) ∷ ks) (k ∷ changed change ks name)

is_changed : (change : KeyspaceState → KeyspaceState) (keyspaces : Keyspaces) (name : List ℕ) → with_keyspace_state change keyspaces name ≡ changed change keyspaces name
unfolding changed
is_changed change [] name = refl
is_changed change (k ∷ ks) name = by (same_text name k.0) refl (keyspace_at ks name) refl (is_changed change ks name)
  where
    state_of : Option KeyspaceState → Bool → Keyspaces
    state_of o b =
        option_map_or (λ state. cond b ((k.0, change state) ∷ ks) (k ∷ set_value (same_text name) ks (change state))) (cond b (Some k.1) o) (k ∷ ks)

    by : (b : Bool) → same_text name k.0 ≡ b → (o : Option KeyspaceState) → keyspace_at ks name ≡ o
        → with_keyspace_state change ks name ≡ changed change ks name → with_keyspace_state change (k ∷ ks) name ≡ cond (same_text name k.0) ((k.0, change k.1) ∷ ks) (k ∷ changed change ks name)
    by true b o is again = rw b refl
    by false b None is again = rw (b, is) (ap (λ l. k ∷ l) (rw is at again))
    by false b (Some state) is again = rw (b, is) (ap (λ l. k ∷ l) (rw is at again))

module _ (f g : KeyspaceState → KeyspaceState) (a b : List ℕ) (meet : a ≡ b → (state : KeyspaceState) → f (g state) ≡ g (f state)) where
  changed_turned : (keyspaces : Keyspaces) → changed f (changed g keyspaces b) a ≡ changed g (changed f keyspaces a) b
  unfolding changed
  changed_turned [] = refl
  changed_turned (k ∷ ks) = by (same_text a k.0) refl (same_text b k.0) refl (changed_turned ks)
    where
      by : (s : Bool) → same_text a k.0 ≡ s → (t : Bool) → same_text b k.0 ≡ t → changed f (changed g ks b) a ≡ changed g (changed f ks a) b
          → changed f (cond (same_text b k.0) ((k.0, g k.1) ∷ ks) (k ∷ changed g ks b)) a ≡ changed g (cond (same_text a k.0) ((k.0, f k.1) ∷ ks) (k ∷ changed f ks a)) b
      by true s true t again =
          let is : a ≡ b = (same_text_decides a k.0).0 s ∙ sym ((same_text_decides b k.0).0 t) in
          rw (t, s, t) (ap (λ state. (k.0, state) ∷ ks) (meet is k.1))
      by true s false t again = rw (t, s, t) refl
      by false s true t again = rw (t, s, t) refl
      by false s false t again = rw (t, s, t) (ap (λ l. k ∷ l) again)

  keyspaces_turned : (keyspaces : Keyspaces) → with_keyspace_state f (with_keyspace_state g keyspaces b) a ≡ with_keyspace_state g (with_keyspace_state f keyspaces a) b
  keyspaces_turned keyspaces =
      ap (λ ks. with_keyspace_state f ks a) (is_changed g keyspaces b) ∙ is_changed f (changed g keyspaces b) a ∙ changed_turned keyspaces
      ∙ sym (is_changed g (changed f keyspaces a) b) ∙ ap (λ ks. with_keyspace_state g ks b) (sym (is_changed f keyspaces a))

-- a key of a denial or of a table, and none of a rule
abbrev is_mark : EntryKey → Bool
is_mark (about.Rule key) = false
is_mark (about.Denied keyspace table) = true
is_mark (about.Present keyspace table) = true

-- the mark that is dropped, and the key that gets a place
place_turned : (t : TopologyState) (k j : EntryKey) → is_mark k ≡ true → k ≢ j → without_place (with_place t j) k ≡ with_place (without_place t k) j
place_turned t (about.Rule k) j mark other = absurd (true≢false (sym mark))
place_turned t (about.Denied a n) (about.Rule j) mark other = refl
place_turned t (about.Denied a n) (about.Denied b m) mark other =
    let with_keyspaces : Keyspaces → TopologyState = λ keyspaces. record t { keyspaces = keyspaces } in
    ap with_keyspaces
    (keyspaces_turned (without_denied_place n) (with_denied_place m) a b
    (λ is state. let with_denied : Marks → KeyspaceState = λ marks. record state { denied = marks } in ap with_denied (marks_turned state.denied m n (λ e. other (ap (λ x. about.Denied x n) is ∙ ap (about.Denied b) e)))) t.keyspaces)
place_turned t (about.Denied a n) (about.Present b m) mark other =
    let with_keyspaces : Keyspaces → TopologyState = λ keyspaces. record t { keyspaces = keyspaces } in
    ap with_keyspaces (keyspaces_turned (without_denied_place n) (with_table_place m) a b (λ is state. refl) t.keyspaces)
place_turned t (about.Present a n) (about.Rule j) mark other = refl
place_turned t (about.Present a n) (about.Denied b m) mark other =
    let with_keyspaces : Keyspaces → TopologyState = λ keyspaces. record t { keyspaces = keyspaces } in
    ap with_keyspaces (keyspaces_turned (without_table_place n) (with_denied_place m) a b (λ is state. refl) t.keyspaces)
place_turned t (about.Present a n) (about.Present b m) mark other =
    let with_keyspaces : Keyspaces → TopologyState = λ keyspaces. record t { keyspaces = keyspaces } in
    ap with_keyspaces
    (keyspaces_turned (without_table_place n) (with_table_place m) a b
    (λ is state. let with_tables : Marks → KeyspaceState = λ marks. record state { tables = marks } in ap with_tables (marks_turned state.tables m n (λ e. other (ap (λ x. about.Present x n) is ∙ ap (about.Present b) e)))) t.keyspaces)

places_turned : (t : TopologyState) (k : EntryKey) (keys : List EntryKey) → is_mark k ≡ true → All (λ j. k ≢ j) keys → without_place (with_places t keys) k ≡ with_places (without_place t k) keys
places_turned t k [] mark others = refl
places_turned t k (j ∷ js) mark others =
    places_turned (with_place t j) k js mark (All-tail (λ i. k ≢ i) j js others)
    ∙ ap (λ u. with_places u js) (place_turned t k j mark (All-head (λ i. k ≢ i) j js others))

-- ---- a place that holds something is neither made nor dropped

there_marked : (marks : Marks) (n : List ℕ) → is_some (lookup (same_text n) marks) ≡ true → with_mark_place marks n ≡ marks
there_marked marks n there = by (lookup (same_text n) marks) there
  where
    by : (o : Option Bool) → is_some o ≡ true → option_map_or (λ mark. marks) o (marks ++ (n, false) ∷ []) ≡ marks
    by None there = absurd (true≢false (sym there))
    by (Some mark) there = refl

stays_at : (change : KeyspaceState → KeyspaceState) (keyspaces : Keyspaces) (name : List ℕ) → ((state : KeyspaceState) → keyspace_at keyspaces name ≡ Some state → change state ≡ state) → with_keyspace_state change keyspaces name ≡ keyspaces
stays_at change keyspaces name each = by (keyspace_at keyspaces name) refl
  where
    by : (o : Option KeyspaceState) → keyspace_at keyspaces name ≡ o → option_map_or (λ state. set_value (same_text name) keyspaces (change state)) o keyspaces ≡ keyspaces
    by None is = refl
    by (Some state) is = ap (set_value (same_text name) keyspaces) (each state is) ∙ set_value_same (same_text name) keyspaces state is

place_stays : (t : TopologyState) (key : EntryKey) → has_place t key ≡ true → with_place t key ≡ t
place_stays t (about.Rule key) there =
    let with_rules : Rules → TopologyState = λ rules. record t { rules = rules } in
    ap with_rules (by (lookup (same_key key) t.rules) there)
  where
    by : (o : Option (Option RuleTarget)) → is_some o ≡ true → option_map_or (λ rule. t.rules) o (put_rule t.rules (key, None)) ≡ t.rules
    by None there = absurd (true≢false (sym there))
    by (Some rule) there = refl
place_stays t (about.Denied k n) there =
    let with_keyspaces : Keyspaces → TopologyState = λ keyspaces. record t { keyspaces = keyspaces } in
    ap with_keyspaces
    (stays_at (with_denied_place n) t.keyspaces k
    (λ state found.
    let with_denied : Marks → KeyspaceState = λ marks. record state { denied = marks } in
    ap with_denied (there_marked state.denied n (sym (ap (λ (o : Option KeyspaceState). option_map_or (λ s. is_some (lookup (same_text n) s.denied)) o false) found) ∙ there))))
place_stays t (about.Present k n) there =
    let with_keyspaces : Keyspaces → TopologyState = λ keyspaces. record t { keyspaces = keyspaces } in
    ap with_keyspaces
    (stays_at (with_table_place n) t.keyspaces k
    (λ state found.
    let with_tables : Marks → KeyspaceState = λ marks. record state { tables = marks } in
    ap with_tables (there_marked state.tables n (sym (ap (λ (o : Option KeyspaceState). option_map_or (λ s. is_some (lookup (same_text n) s.tables)) o false) found) ∙ there))))

held_stays : (t : TopologyState) (key : EntryKey) → holds (value_of t key) ≡ true → without_place t key ≡ t
held_stays t (about.Rule key) held =
    let with_rules : Rules → TopologyState = λ rules. record t { rules = rules } in
    ap with_rules (by (rule_at t.rules key) held)
  where
    by : (o : Option RuleTarget) → is_some o ≡ true → option_map_or (λ target. t.rules) o (remove_entry (same_key key) t.rules) ≡ t.rules
    by None held = absurd (true≢false (sym held))
    by (Some target) held = refl
held_stays t (about.Denied k n) held =
    let with_keyspaces : Keyspaces → TopologyState = λ keyspaces. record t { keyspaces = keyspaces } in
    ap with_keyspaces
    (stays_at (without_denied_place n) t.keyspaces k
    (λ state found.
    let with_denied : Marks → KeyspaceState = λ marks. record state { denied = marks } in
    ap with_denied (ap (λ b. cond b state.denied (remove_entry (same_text n) state.denied)) (sym (ap (λ (o : Option KeyspaceState). option_map_or (λ s. is_marked s.denied n) o false) found) ∙ held))))
held_stays t (about.Present k n) held =
    let with_keyspaces : Keyspaces → TopologyState = λ keyspaces. record t { keyspaces = keyspaces } in
    ap with_keyspaces
    (stays_at (without_table_place n) t.keyspaces k
    (λ state found.
    let with_tables : Marks → KeyspaceState = λ marks. record state { tables = marks } in
    ap with_tables (ap (λ b. cond b state.tables (remove_entry (same_text n) state.tables)) (sym (ap (λ (o : Option KeyspaceState). option_map_or (λ s. is_marked s.tables n) o false) found) ∙ held))))

one_back : (t : TopologyState) (key : EntryKey) → (has_place t key ≡ true → holds (value_of t key) ≡ true) → without_place (with_place t key) key ≡ t
one_back t key held = by (has_place t key) refl
  where
    by : (b : Bool) → has_place t key ≡ b → without_place (with_place t key) key ≡ t
    by true b = ap (λ u. without_place u key) (place_stays t key b) ∙ held_stays t key (held b)
    by false b = place_back t key b

-- ---- places of rule keys, in either order

-- where the first has a place already
rules_stood : (rules : Rules) (k n : RuleKey) (rule : Option RuleTarget) → n ≢ k → lookup (same_key k) rules ≡ Some rule → with_rule_place (with_rule_place rules k) n ≡ with_rule_place (with_rule_place rules n) k
rules_stood rules k n rule other is =
    ap (λ l. with_rule_place l n) (ap (λ o. option_map_or (λ found. rules) o (put_rule rules (k, None))) is)
    ∙ sym (ap (λ o. option_map_or (λ found. with_rule_place rules n) o (put_rule (with_rule_place rules n) (k, None))) (put_placed-elsewhere key_before same_key same_key_decides None rules n k other ∙ is))

-- where it has none, and the second has none either
rules_new : (rules : Rules) (k n : RuleKey) → k ≢ n → lookup (same_key k) rules ≡ None → lookup (same_key n) rules ≡ None → with_rule_place (with_rule_place rules k) n ≡ put_rule (put_rule rules (k, None)) (n, None)
rules_new rules k n other first second =
    ap (λ o. option_map_or (λ found. with_rule_place rules k) o (put_rule (with_rule_place rules k) (n, None))) (put_placed-elsewhere key_before same_key same_key_decides None rules k n other ∙ second)
    ∙ ap (λ l. put_rule l (n, None)) (ap (λ o. option_map_or (λ found. rules) o (put_rule rules (k, None))) first)

rules_either : (rules : Rules) (k n : RuleKey) → k ≢ n → with_rule_place (with_rule_place rules k) n ≡ with_rule_place (with_rule_place rules n) k
rules_either rules k n other = by (lookup (same_key k) rules) refl (lookup (same_key n) rules) refl
  where
    turn : n ≢ k
    turn e = other (sym e)

    by : (o : Option (Option RuleTarget)) → lookup (same_key k) rules ≡ o → (p : Option (Option RuleTarget)) → lookup (same_key n) rules ≡ p → with_rule_place (with_rule_place rules k) n ≡ with_rule_place (with_rule_place rules n) k
    by (Some rule) first p second = rules_stood rules k n rule turn first
    by None first (Some rule) second = sym (rules_stood rules n k rule other second)
    by None first None second = rules_new rules k n other first second ∙ put-put key_before key_order rules k n None None other ∙ sym (rules_new rules n k turn second first)

place_either : (t : TopologyState) (k : RuleKey) (j : EntryKey) → about.Rule k ≢ j → with_place (with_place t (about.Rule k)) j ≡ with_place (with_place t j) (about.Rule k)
place_either t k (about.Rule j) other =
    let with_rules : Rules → TopologyState = λ rules. record t { rules = rules } in
    ap with_rules (rules_either t.rules k j (λ e. other (ap about.Rule e)))
place_either t k (about.Denied keyspace table) other = refl
place_either t k (about.Present keyspace table) other = refl

-- the place of a rule key may as well be the last that is made
place_last : (t : TopologyState) (k : RuleKey) (keys : List EntryKey) → All (λ j. about.Rule k ≢ j) keys → with_places (with_place t (about.Rule k)) keys ≡ with_place (with_places t keys) (about.Rule k)
place_last t k [] others = refl
place_last t k (j ∷ js) others =
    ap (λ u. with_places u js) (place_either t k j (All-head (λ i. about.Rule k ≢ i) j js others))
    ∙ place_last (with_place t j) k js (All-tail (λ i. about.Rule k ≢ i) j js others)

-- no other place is one of a key
places_apart : (t : TopologyState) (key : EntryKey) (keys : List EntryKey) → All (λ j. key ≢ j) keys → has_place (with_places t keys) key ≡ has_place t key
places_apart t key [] others = refl
places_apart t key (j ∷ js) others =
    places_apart (with_place t j) key js (All-tail (λ i. key ≢ i) j js others)
    ∙ place_elsewhere t j key (λ e. All-head (λ i. key ≢ i) j js others (sym e))

-- ---- all of them

-- the place of a key is made, others after it, and it is dropped
first_back : (t : TopologyState) (k : EntryKey) (keys : List EntryKey) → All (λ j. k ≢ j) keys → (has_place t k ≡ true → holds (value_of t k) ≡ true) → without_place (with_places (with_place t k) keys) k ≡ with_places t keys
first_back t (about.Rule k) keys others held =
    ap (λ u. without_place u (about.Rule k)) (place_last t k keys others)
    ∙ one_back (with_places t keys) (about.Rule k)
    (λ there. ap holds ((same-with_places t keys).values (about.Rule k)) ∙ held (sym (places_apart t (about.Rule k) keys others) ∙ there))
first_back t (about.Denied keyspace table) keys others held =
    places_turned (with_place t (about.Denied keyspace table)) (about.Denied keyspace table) keys refl others
    ∙ ap (λ u. with_places u keys) (one_back t (about.Denied keyspace table) held)
first_back t (about.Present keyspace table) keys others held =
    places_turned (with_place t (about.Present keyspace table)) (about.Present keyspace table) keys refl others
    ∙ ap (λ u. with_places u keys) (one_back t (about.Present keyspace table) held)

pub places_back : (t : TopologyState) (keys : List EntryKey) → AllPairs (λ a b. a ≢ b) keys → All (λ key. has_place t key ≡ true → holds (value_of t key) ≡ true) keys → without_places (with_places t keys) keys ≡ t
places_back t [] apart held = refl
places_back t (k ∷ keys) apart held =
    ap (λ u. without_places u keys)
    (first_back t k keys (λ i d inside. apart zero (suc i) d (omega arith) (omega arith)) (All-head (λ key. has_place t key ≡ true → holds (value_of t key) ≡ true) k keys held))
    ∙ places_back t keys (λ i j d below inside. apart (suc i) (suc j) d (omega arith) (omega arith)) (All-tail (λ key. has_place t key ≡ true → holds (value_of t key) ≡ true) k keys held)
