-- What Complete makes of the tables and of their numbers.
use Rattle.std.proofs.Common.{◌≡◌, ◌≢◌, ◌⊎◌, inl, inr, ℕ, Bool, true, false, cond, List, [], ◌∷◌, Option, None, Some, is_some, refl, sym, ap, ◌∙◌, subst}
use Rattle.std.specs.Cmp.{both_ways}
use Rattle.std.proofs.lemmas.Bool.{true≢false, and_parts, and_from}
use Rattle.std.specs.List.{IsDistinct, fold}
use Rattle.std.specs.Map.{keys_of, lookup, remove_entry}
use Rattle.std.specs.Option.{option_map_or}
use Rattle.std.specs.Prelude.{◌&&◌, map, unwrap_or}
use Rattle.mt_names.specs.declared.keys.RuleTarget.{RuleTarget}
use Rattle.mt_names.specs.Names.{same_text}
use Rattle.mt_names.specs.Same.{DecidesEquality, same_key, same_target}
use Rattle.mt_names.proofs.EntryLemmas.{apart as other_test, same_or_other, IsDistinct-remove_entry, IsDistinct-set_value, lookup-remove_entry_elsewhere, lookup-remove_entry_here, some_from}
use Rattle.mt_names.proofs.SameLemmas.{same_key_decides, same_target_decides, same_text_decides}
use Rattle.mt_model.specs.Topology.{HasDistinctPlaces, KeyspaceState, Keyspaces, Marks, Rules, TopologyState, is_marked, is_present, keyspace_at, with_keyspace_state, with_mark_place, with_new_table}
use Rattle.mt_model.proofs.DistinctLemmas.{distinct-changed, distinct-rules, distinct-with_mark_place}
use Rattle.mt_model.proofs.TopologyLemmas.{is_marked-set_elsewhere, is_marked-set_here, is_marked-with_mark_place, keyspace_at-changed_elsewhere, keyspace_at-changed_here, tables_distinct, with_mark_place-there}
use Rattle.mt_plain.specs.Next.{completed, number_moved, with_tables, without_tables}
use Rattle.mt_plain.specs.Plain.{Live, in_keyspace, moves, rule_keys}
use Rattle.mt_laws.specs.Numbers.{Numbers, number_at}
use Rattle.mt_laws.proofs.EntryValueLemmas.{denied-with}
use Rattle.mt_laws.proofs.LiveLemmas.{IsIn}
use Rattle.mt_laws.proofs.NumberLemmas.{moved-number}

-- ---- the tables of a list, taken away and made

-- a name that is taken away is unmarked, and one that is unmarked stays so
abbrev removed : List (List ℕ) → Marks → Marks
removed tables marks = fold (λ m table. remove_entry (same_text table) m) marks tables

gone : (tables : List (List ℕ)) (marks : Marks) (table : List ℕ) → IsDistinct same_text (keys_of marks) → IsIn table tables ⊎ (lookup (same_text table) marks ≡ None) → lookup (same_text table) (removed tables marks) ≡ None
gone [] marks table distinct (inl is) = absurd is
gone [] marks table distinct (inr none) = none
gone (t ∷ ts) marks table distinct either =
    gone ts (remove_entry (same_text t) marks) table (IsDistinct-remove_entry same_text same_text_decides (same_text t) marks distinct) (by (same_or_other same_text same_text_decides t table) either)
  where
    by : (t ≡ table) ⊎ (t ≢ table) → IsIn table (t ∷ ts) ⊎ (lookup (same_text table) marks ≡ None) → IsIn table ts ⊎ (lookup (same_text table) (remove_entry (same_text t) marks) ≡ None)
    by (inl same) e = inr (subst (λ n. lookup (same_text n) (remove_entry (same_text t) marks) ≡ None) same (lookup-remove_entry_here same_text same_text_decides marks t distinct))
    by (inr other) (inl (inl same)) = absurd (other same)
    by (inr other) (inl (inr is)) = inl is
    by (inr other) (inr none) = inr (lookup-remove_entry_elsewhere same_text same_text_decides marks t table other ∙ none)

-- a name that is made is marked, and one that is marked stays so
made : (tables : List (List ℕ)) (state : KeyspaceState) (table : List ℕ) → IsIn table tables ⊎ (is_marked state.tables table ≡ true) → is_marked (with_tables tables state).tables table ≡ true
made [] state table (inl is) = absurd is
made [] state table (inr marked) = marked
made (t ∷ ts) state table either = made ts (with_new_table t state) table (by (same_or_other same_text same_text_decides t table) either)
  where
    here : is_marked (with_new_table t state).tables t ≡ true
    here = is_marked-set_here (with_mark_place state.tables t) t true (with_mark_place-there state.tables t)

    by : (t ≡ table) ⊎ (t ≢ table) → IsIn table (t ∷ ts) ⊎ (is_marked state.tables table ≡ true) → IsIn table ts ⊎ (is_marked (with_new_table t state).tables table ≡ true)
    by (inl same) e = inr (subst (λ n. is_marked (with_new_table t state).tables n ≡ true) same here)
    by (inr other) (inl (inl same)) = absurd (other same)
    by (inr other) (inl (inr is)) = inl is
    by (inr other) (inr marked) = inr (is_marked-set_elsewhere (with_mark_place state.tables t) t table true other ∙ is_marked-with_mark_place state.tables t table ∙ marked)

-- ---- the tables behind Complete

module _ (u : TopologyState) (w : Live) (apart : w.source ≢ w.target) where
  abbrev without_source : Keyspaces
  without_source = with_keyspace_state (without_tables w.tables) u.keyspaces w.source

  abbrev is_there : Option KeyspaceState → List ℕ → Bool
  is_there o table = option_map_or (λ state. is_marked state.tables table) o false

  -- the target has the tables
  pub present_at_target : is_some (keyspace_at u.keyspaces w.target) ≡ true → (table : List ℕ) → IsIn table w.tables → is_present (completed u w).keyspaces w.target table ≡ true
  present_at_target there table is =
      let one = some_from (keyspace_at u.keyspaces w.target) there in
      let found : keyspace_at without_source w.target ≡ Some one.0 = keyspace_at-changed_elsewhere (without_tables w.tables) u.keyspaces w.source w.target apart ∙ one.1 in
      ap (λ o. is_there o table) (keyspace_at-changed_here (with_tables w.tables) without_source w.target one.0 found) ∙ made w.tables one.0 table (inl is)

  -- the source has them no more
  pub absent_at_source : HasDistinctPlaces u → is_some (keyspace_at u.keyspaces w.source) ≡ true → (table : List ℕ) → IsIn table w.tables → is_present (completed u w).keyspaces w.source table ≡ false
  absent_at_source distinct there table is =
      let one = some_from (keyspace_at u.keyspaces w.source) there in
      ap (λ o. is_there o table) (keyspace_at-changed_elsewhere (with_tables w.tables) without_source w.target w.source (λ e. apart (sym e))
      ∙ keyspace_at-changed_here (without_tables w.tables) u.keyspaces w.source one.0 one.1)
      ∙ ap (λ o. unwrap_or o false) (gone w.tables one.0.tables table (tables_distinct u w.source one.0 distinct one.1) (inl is))

  -- each other keyspace has what it had
  pub present_elsewhere : (keyspace table : List ℕ) → w.source ≢ keyspace → w.target ≢ keyspace → is_present (completed u w).keyspaces keyspace table ≡ is_present u.keyspaces keyspace table
  present_elsewhere keyspace table from to =
      ap (λ o. is_there o table) (keyspace_at-changed_elsewhere (with_tables w.tables) without_source w.target keyspace to ∙ keyspace_at-changed_elsewhere (without_tables w.tables) u.keyspaces w.source keyspace from)

-- ---- places stay distinct

pub distinct-removed : {K V : Type 0} (same : K → K → Bool) (decides : DecidesEquality same) (keys : List K) (es : List (K × V)) → IsDistinct same (keys_of es) → IsDistinct same (keys_of (fold (λ es key. remove_entry (same key) es) es keys))
distinct-removed same decides [] es distinct = distinct
distinct-removed same decides (key ∷ keys) es distinct = distinct-removed same decides keys (remove_entry (same key) es) (IsDistinct-remove_entry same decides (same key) es distinct)

distinct-made : (tables : List (List ℕ)) (state : KeyspaceState) → IsDistinct same_text (keys_of state.tables) → IsDistinct same_text (keys_of (with_tables tables state).tables)
distinct-made [] state distinct = distinct
distinct-made (t ∷ ts) state distinct =
    distinct-made ts (with_new_table t state) (IsDistinct-set_value same_text same_text_decides (with_mark_place state.tables t) t true (distinct-with_mark_place state.tables t distinct))

pub distinct-completed : (u : TopologyState) (w : Live) → HasDistinctPlaces u → HasDistinctPlaces (completed u w)
distinct-completed u w distinct =
    distinct-changed (record { rules = rules; keyspaces = with_keyspace_state (without_tables w.tables) u.keyspaces w.source }) (with_tables w.tables) w.target
    (λ state d. distinct-made w.tables state d)
    (λ state d. subst (λ marks. IsDistinct same_text (keys_of marks)) (sym (denied-with w.tables state)) d)
    (distinct-changed (record u { rules = rules }) (without_tables w.tables) w.source (λ state d. distinct-removed same_text same_text_decides w.tables state.tables d) (λ state d. d)
    (distinct-rules u rules (distinct-removed same_key same_key_decides (rule_keys w) u.rules distinct.rules) distinct))
  where
    rules : Rules
    rules = fold (λ rules key. remove_entry (same_key key) rules) u.rules (rule_keys w)

-- ---- the numbers behind Complete

same_iff : (a x b y : RuleTarget) → (a ≡ x → b ≡ y) → (b ≡ y → a ≡ x) → same_target a x ≡ same_target b y
same_iff a x b y to from =
    both_ways (same_target a x) (same_target b y) (λ t. (same_target_decides b y).1 (to ((same_target_decides a x).0 t)))
    (λ t. (same_target_decides a x).1 (from ((same_target_decides b y).0 t)))

target_apart : (a x : RuleTarget) → (a ≡ x → ⊥) → same_target a x ≡ false
target_apart = other_test same_target same_target_decides

lookup_none : (a : RuleTarget) (es : Numbers) → number_at es a ≡ None → (e : RuleTarget × ℕ) → IsIn e es → same_target a e.0 ≡ false
lookup_none a [] none e is = absurd is
lookup_none a (d ∷ es) none e is = by (lookup_none a es) (same_target a d.0) refl is
  where
    by : (number_at es a ≡ None → (x : RuleTarget × ℕ) → IsIn x es → same_target a x.0 ≡ false) → (t : Bool) → same_target a d.0 ≡ t → IsIn e (d ∷ es) → same_target a e.0 ≡ false
    by again true t i = let h : Some d.1 ≡ None = rw t at none in absurd cc
    by again false t (inl same) = ap (λ x. same_target a x.0) (sym same) ∙ t
    by again false t (inr i) = again (rw t at none) e i

module _ (w : Live) where
  abbrev moving : RuleTarget × ℕ → Bool
  moving e = same_text w.source e.0.keyspace && moves w e.0.table

  -- a key that each renamed entry has just where another key has the entry
  renamed : (a b : RuleTarget) (es : Numbers) → ((e : RuleTarget × ℕ) → IsIn e es → same_target a (number_moved w e).0 ≡ same_target b e.0) → number_at (map (number_moved w) es) a ≡ number_at es b
  renamed a b [] each = refl
  renamed a b (e ∷ es) each = by (same_target b e.0) (same_target a (number_moved w e).0) (each e (inl refl)) (renamed a b es (λ x is. each x (inr is)))
    where
      by : (s t : Bool) → t ≡ s → number_at (map (number_moved w) es) a ≡ number_at es b → cond t (Some (number_moved w e).1) (number_at (map (number_moved w) es) a) ≡ cond s (Some e.1) (number_at es b)
      by true t is again = rw is (ap Some (moved-number w e))
      by false t is again = rw is again

  unnamed : (a : RuleTarget) (es : Numbers) → ((e : RuleTarget × ℕ) → same_target a (number_moved w e).0 ≡ false) → number_at (map (number_moved w) es) a ≡ None
  unnamed a [] each = refl
  unnamed a (e ∷ es) each = rw (each e) (unnamed a es each)

  -- a table that the workflow does not move
  pub number-unmoved : (es : Numbers) (keyspace table : List ℕ) → moves w table ≡ false → number_at (map (number_moved w) es) (in_keyspace keyspace table) ≡ number_at es (in_keyspace keyspace table)
  number-unmoved es keyspace table unmoved = renamed (in_keyspace keyspace table) (in_keyspace keyspace table) es (λ e is. by e (moving e) refl)
    where
      no : (e : RuleTarget × ℕ) → moves w e.0.table ≡ true → table ≡ e.0.table → ⊥
      no e moved same = true≢false (sym moved ∙ ap (moves w) (sym same) ∙ unmoved)

      by : (e : RuleTarget × ℕ) (t : Bool) → moving e ≡ t → same_target (in_keyspace keyspace table) (cond t (in_keyspace w.target e.0.table, e.1) e).0 ≡ same_target (in_keyspace keyspace table) e.0
      by e true t =
          let moved = (and_parts (same_text w.source e.0.keyspace) (moves w e.0.table) t).1 in
          target_apart (in_keyspace keyspace table) (in_keyspace w.target e.0.table) (λ x. no e moved (ap (λ y. y.table) x))
          ∙ sym (target_apart (in_keyspace keyspace table) e.0 (λ x. no e moved (ap (λ y. y.table) x)))
      by e false t = refl

  -- a table at a keyspace that is no side of the move
  pub number-elsewhere : (es : Numbers) (keyspace table : List ℕ) → w.source ≢ keyspace → w.target ≢ keyspace → number_at (map (number_moved w) es) (in_keyspace keyspace table) ≡ number_at es (in_keyspace keyspace table)
  number-elsewhere es keyspace table from to = renamed (in_keyspace keyspace table) (in_keyspace keyspace table) es (λ e is. by e (moving e) refl)
    where
      by : (e : RuleTarget × ℕ) (t : Bool) → moving e ≡ t → same_target (in_keyspace keyspace table) (cond t (in_keyspace w.target e.0.table, e.1) e).0 ≡ same_target (in_keyspace keyspace table) e.0
      by e true t =
          let here = (same_text_decides w.source e.0.keyspace).0 (and_parts (same_text w.source e.0.keyspace) (moves w e.0.table) t).0 in
          target_apart (in_keyspace keyspace table) (in_keyspace w.target e.0.table) (λ x. to (sym (ap (λ y. y.keyspace) x)))
          ∙ sym (target_apart (in_keyspace keyspace table) e.0 (λ x. from (here ∙ sym (ap (λ y. y.keyspace) x))))
      by e false t = refl

  module _ (es : Numbers) (table : List ℕ) (moved : moves w table ≡ true) where
    -- the target's table gets the number of the source's
    pub number-at_target : number_at es (in_keyspace w.target table) ≡ None → number_at (map (number_moved w) es) (in_keyspace w.target table) ≡ number_at es (in_keyspace w.source table)
    number-at_target none = renamed (in_keyspace w.target table) (in_keyspace w.source table) es (λ e is. by e (lookup_none (in_keyspace w.target table) es none e is) (moving e) refl)
      where
        by : (e : RuleTarget × ℕ) → same_target (in_keyspace w.target table) e.0 ≡ false → (t : Bool) → moving e ≡ t
            → same_target (in_keyspace w.target table) (cond t (in_keyspace w.target e.0.table, e.1) e).0 ≡ same_target (in_keyspace w.source table) e.0
        by e absent true t =
            let here = (same_text_decides w.source e.0.keyspace).0 (and_parts (same_text w.source e.0.keyspace) (moves w e.0.table) t).0 in
            same_iff (in_keyspace w.target table) (in_keyspace w.target e.0.table) (in_keyspace w.source table) e.0
            (λ x. ap (λ y. in_keyspace w.source y.table) x ∙ ap (λ k. in_keyspace k e.0.table) here)
            (λ x. ap (λ y. in_keyspace w.target y.table) x)
        by e absent false t =
            absent ∙ sym (target_apart (in_keyspace w.source table) e.0
            (λ x. true≢false (sym (and_from (same_text w.source e.0.keyspace) (moves w e.0.table) ((same_text_decides w.source e.0.keyspace).1 (ap (λ y. y.keyspace) x)) (ap (moves w) (ap (λ y. y.table) (sym x)) ∙ moved)) ∙ t)))

    -- the source's has none any more
    pub number-at_source : w.source ≢ w.target → number_at (map (number_moved w) es) (in_keyspace w.source table) ≡ None
    number-at_source apart = unnamed (in_keyspace w.source table) es (λ e. by e (moving e) refl)
      where
        by : (e : RuleTarget × ℕ) (t : Bool) → moving e ≡ t → same_target (in_keyspace w.source table) (cond t (in_keyspace w.target e.0.table, e.1) e).0 ≡ false
        by e true t = target_apart (in_keyspace w.source table) (in_keyspace w.target e.0.table) (λ x. apart (ap (λ y. y.keyspace) x))
        by e false t =
            target_apart (in_keyspace w.source table) e.0
            (λ x. true≢false (sym (and_from (same_text w.source e.0.keyspace) (moves w e.0.table) ((same_text_decides w.source e.0.keyspace).1 (ap (λ y. y.keyspace) x)) (ap (moves w) (ap (λ y. y.table) (sym x)) ∙ moved)) ∙ t))
