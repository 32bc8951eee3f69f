-- What Complete says at each entry.
use Rattle.std.proofs.Common.{◌≡◌, ◌≢◌, ℕ, Bool, true, false, cond, ◌&&◌, ◌||◌, List, [], ◌∷◌, fold, map, Option, None, Some, is_some, unwrap_or, refl, sym, ap, ◌∙◌}
use Rattle.std.proofs.Math.Bool.{and-false, or-false}
use Rattle.std.proofs.lemmas.List.Folds.{list_any-append}
use Rattle.std.specs.List.{IsDistinct, list_any}
use Rattle.std.specs.Map.{keys_of, lookup, remove_entry}
use Rattle.std.specs.Option.{option_map_or}
use Rattle.mt_names.specs.declared.keys.RuleKey.{RuleKey}
use Rattle.mt_names.specs.Names.{same_text}
use Rattle.mt_names.specs.Same.{DecidesEquality, same_key}
use Rattle.mt_names.proofs.EntryLemmas.{IsDistinct-remove_entry, lookup-remove_entry_elsewhere, lookup-remove_entry_here, none_from, other_from, some_from}
use Rattle.mt_names.proofs.SameLemmas.{same_key_decides, same_text_decides}
use Rattle.mt_model.specs.declared.entries.Entry.TheVariants as entry
use Rattle.mt_model.specs.declared.entries.EntryKey.{EntryKey}
use Rattle.mt_model.specs.declared.entries.EntryKey.TheVariants as about
use Rattle.mt_model.specs.Topology.{HasDistinctPlaces, KeyspaceState, Keyspaces, TopologyState, is_denied, is_marked, is_present, key_of, keyspace_at, rule_at, value_of, with_keyspace_state, with_mark_place, with_new_table}
use Rattle.mt_model.proofs.PlaceLemmas.{keyspace_at-stays}
use Rattle.mt_model.proofs.TopologyLemmas.{is_marked-set_elsewhere, is_marked-set_here, is_marked-with_mark_place, keyspace_at-changed_elsewhere, keyspace_at-changed_here, tables_distinct, with_mark_place-there}
use Rattle.mt_plain.specs.Next.{completed, with_tables, without_tables}
use Rattle.mt_plain.specs.Plain.{Live, among, has_part, is_side, moves, rule_keys}
use Rattle.mt_stands.specs.Keys.{end_entry, end_keys, keys_of_part, lists, same_about}
use Rattle.mt_stands.proofs.KeyLemmas.{listed_part, listed_rules}
use Rattle.mt_stands.proofs.WriteLemmas.{merged}

-- ---- the keys

-- the part, and the tables at the source
abbrev pub ends : Live → EntryKey → Bool
ends w (about.Rule key) = has_part w (about.Rule key)
ends w (about.Denied keyspace table) = has_part w (about.Denied keyspace table)
ends w (about.Present keyspace table) = moves w table && is_side w keyspace

same_present : (s t k n : List ℕ) → same_about (about.Present s t) (about.Present k n) ≡ (same_text s k && same_text t n)
same_present s t k n = refl

of_source : (s : List ℕ) (tables : List (List ℕ)) (k n : List ℕ) → lists (map (about.Present s) tables) (about.Present k n) ≡ (among tables n && same_text s k)
of_source s [] k n = refl
of_source s (t ∷ ts) k n =
    ap (λ b. b || lists (map (about.Present s) ts) (about.Present k n)) (same_present s t k n) ∙ ap (λ b. (same_text s k && same_text t n) || b) (of_source s ts k n)
    ∙ by (same_text s k) (same_text t n) (among ts n)
  where
    by : (a b c : Bool) → ((a && b) || (c && a)) ≡ ((b || c) && a)
    by true true c = refl
    by true false true = refl
    by true false false = refl
    by false true c = and-false c
    by false false c = refl

no_rule : (s : List ℕ) (tables : List (List ℕ)) (key : RuleKey) → lists (map (about.Present s) tables) (about.Rule key) ≡ false
no_rule s [] key = refl
no_rule s (t ∷ ts) key = no_rule s ts key

no_denial : (s : List ℕ) (tables : List (List ℕ)) (k n : List ℕ) → lists (map (about.Present s) tables) (about.Denied k n) ≡ false
no_denial s [] k n = refl
no_denial s (t ∷ ts) k n = no_denial s ts k n

pub listed_ends : (w : Live) (key : EntryKey) → lists (end_keys w) key ≡ ends w key
listed_ends w key = list_any-append (λ k. same_about k key) (keys_of_part w) (map (about.Present w.source) w.tables) ∙ ap (λ b. b || lists (map (about.Present w.source) w.tables) key) (listed_part w key) ∙ by key
  where
    joined : (m s t : Bool) → ((m && t) || (m && s)) ≡ (m && (s || t))
    joined true true true = refl
    joined true true false = refl
    joined true false true = refl
    joined true false false = refl
    joined false s t = refl

    by : (key : EntryKey) → (has_part w key || lists (map (about.Present w.source) w.tables) key) ≡ ends w key
    by (about.Rule key) = ap (λ b. has_part w (about.Rule key) || b) (no_rule w.source w.tables key) ∙ or-false (has_part w (about.Rule key))
    by (about.Denied k n) = ap (λ b. has_part w (about.Denied k n) || b) (no_denial w.source w.tables k n) ∙ or-false (has_part w (about.Denied k n))
    by (about.Present k n) = ap (λ b. has_part w (about.Present k n) || b) (of_source w.source w.tables k n) ∙ joined (moves w n) (same_text w.source k) (same_text w.target k)

pub end_keyed : (target : List ℕ) (key : EntryKey) → key_of (end_entry target key) ≡ key
end_keyed target (about.Rule key) = refl
end_keyed target (about.Denied k n) = refl
end_keyed target (about.Present k n) = refl

-- ---- lists of keys removed, and of tables made

module _ {K V : Type 0} (same : K → K → Bool) (decides : DecidesEquality same) where
  removed_one : (es : List (K × V)) (k j : K) → IsDistinct same (keys_of es) → lookup (same j) (remove_entry (same k) es) ≡ cond (same k j) None (lookup (same j) es)
  removed_one es k j distinct = by (same k j) refl
    where
      by : (b : Bool) → same k j ≡ b → lookup (same j) (remove_entry (same k) es) ≡ cond b None (lookup (same j) es)
      by true b = ap (λ i. lookup (same i) (remove_entry (same k) es)) (sym ((decides k j).0 b)) ∙ lookup-remove_entry_here same decides es k distinct
      by false b = lookup-remove_entry_elsewhere same decides es k j (other_from same decides k j b)

  removed_all : (keys : List K) (es : List (K × V)) (j : K) → IsDistinct same (keys_of es)
      → lookup (same j) (fold (λ es k. remove_entry (same k) es) es keys) ≡ cond (list_any (λ k. same k j) keys) None (lookup (same j) es)
  removed_all [] es j distinct = refl
  removed_all (k ∷ ks) es j distinct =
      removed_all ks (remove_entry (same k) es) j (IsDistinct-remove_entry same decides (same k) es distinct)
      ∙ ap (λ o. cond (list_any (λ i. same i j) ks) None o) (removed_one es k j distinct)
      ∙ merged (same k j) (list_any (λ i. same i j) ks) None (lookup (same j) es)

marked_one : (state : KeyspaceState) (t n : List ℕ) → is_marked (with_new_table t state).tables n ≡ (same_text t n || is_marked state.tables n)
marked_one state t n = by (same_text t n) refl
  where
    by : (b : Bool) → same_text t n ≡ b → is_marked (with_new_table t state).tables n ≡ (b || is_marked state.tables n)
    by true b =
        ap (is_marked (with_new_table t state).tables) (sym ((same_text_decides t n).0 b))
        ∙ is_marked-set_here (with_mark_place state.tables t) t true (with_mark_place-there state.tables t)
    by false b =
        is_marked-set_elsewhere (with_mark_place state.tables t) t n true (other_from same_text same_text_decides t n b)
        ∙ is_marked-with_mark_place state.tables t n

marked_all : (tables : List (List ℕ)) (state : KeyspaceState) (n : List ℕ) → is_marked (with_tables tables state).tables n ≡ (among tables n || is_marked state.tables n)
marked_all [] state n = refl
marked_all (t ∷ ts) state n =
    marked_all ts (with_new_table t state) n ∙ ap (λ b. among ts n || b) (marked_one state t n) ∙ by (same_text t n) (among ts n) (is_marked state.tables n)
  where
    by : (a b c : Bool) → (b || (a || c)) ≡ ((a || b) || c)
    by true true c = refl
    by true false c = refl
    by false b c = refl

-- ---- the topology behind Complete

module _ (u : TopologyState) (w : Live) (apart : w.source ≢ w.target) (there : is_some (keyspace_at u.keyspaces w.target) ≡ true) (distinct : HasDistinctPlaces u) where
  abbrev said : Option KeyspaceState → List ℕ → Bool
  said o n = option_map_or (λ state. is_marked state.tables n) o false

  abbrev without_source : Keyspaces
  without_source = with_keyspace_state (without_tables w.tables) u.keyspaces w.source

  pub rule_ended : (key : RuleKey) → rule_at (completed u w).rules key ≡ cond (has_part w (about.Rule key)) None (rule_at u.rules key)
  rule_ended key =
      ap (λ o. unwrap_or o None) (removed_all same_key same_key_decides (rule_keys w) u.rules key distinct.rules)
      ∙ ap (λ b. unwrap_or (cond b None (lookup (same_key key) u.rules)) None) (listed_rules w key) ∙ by (has_part w (about.Rule key))
    where
      by : (b : Bool) → unwrap_or (cond b None (lookup (same_key key) u.rules)) None ≡ cond b None (rule_at u.rules key)
      by true = refl
      by false = refl

  at_source : (n : List ℕ) → is_present without_source w.source n ≡ cond (moves w n) false (is_present u.keyspaces w.source n)
  at_source n = by (keyspace_at u.keyspaces w.source) refl
    where
      none : (b : Bool) → false ≡ cond b false false
      none true = refl
      none false = refl

      some : (b : Bool) (o : Option Bool) → unwrap_or (cond b None o) false ≡ cond b false (unwrap_or o false)
      some true o = refl
      some false o = refl

      by : (o : Option KeyspaceState) → keyspace_at u.keyspaces w.source ≡ o → is_present without_source w.source n ≡ cond (moves w n) false (is_present u.keyspaces w.source n)
      by None is =
          ap (λ o. said o n) (none_from (keyspace_at without_source w.source) (keyspace_at-stays (without_tables w.tables) u.keyspaces w.source w.source ∙ ap is_some is))
          ∙ none (moves w n) ∙ sym (ap (λ o. cond (moves w n) false (said o n)) is)
      by (Some state) is =
          ap (λ o. said o n) (keyspace_at-changed_here (without_tables w.tables) u.keyspaces w.source state is)
          ∙ ap (λ o. unwrap_or o false) (removed_all same_text same_text_decides w.tables state.tables n (tables_distinct u w.source state distinct is))
          ∙ some (moves w n) (lookup (same_text n) state.tables)
          ∙ sym (ap (λ o. cond (moves w n) false (said o n)) is)

  at_target : (n : List ℕ) → is_present (completed u w).keyspaces w.target n ≡ (moves w n || is_present u.keyspaces w.target n)
  at_target n =
      let (state, found) = some_from (keyspace_at u.keyspaces w.target) there in
      let now : keyspace_at without_source w.target ≡ Some state = keyspace_at-changed_elsewhere (without_tables w.tables) u.keyspaces w.source w.target apart ∙ found in
      ap (λ o. said o n) (keyspace_at-changed_here (with_tables w.tables) without_source w.target state now) ∙ marked_all w.tables state n
      ∙ sym (ap (λ o. moves w n || said o n) found)

  present_ended : (k n : List ℕ) → is_present (completed u w).keyspaces k n ≡ cond (moves w n && is_side w k) (same_text w.target k) (is_present u.keyspaces k n)
  present_ended k n = by (same_text w.target k) refl (same_text w.source k) refl
    where
      goal_at : Bool → Bool → Bool
      goal_at s t = cond (moves w n && (s || t)) t (is_present u.keyspaces k n)

      target : (m : Bool) (x : Bool) → (m || x) ≡ cond (m && true) true x
      target true x = refl
      target false x = refl

      source : (m : Bool) (x : Bool) → cond m false x ≡ cond (m && true) false x
      source true x = refl
      source false x = refl

      or_true : (s : Bool) → true ≡ (s || true)
      or_true true = refl
      or_true false = refl

      by : (t : Bool) → same_text w.target k ≡ t → (s : Bool) → same_text w.source k ≡ s
          → is_present (completed u w).keyspaces k n ≡ cond (moves w n && is_side w k) (same_text w.target k) (is_present u.keyspaces k n)
      by true t s s' =
          let is : w.target ≡ k = (same_text_decides w.target k).0 t in
          ap (λ x. is_present (completed u w).keyspaces x n) (sym is) ∙ at_target n ∙ ap (λ x. moves w n || is_present u.keyspaces x n) is
          ∙ target (moves w n) (is_present u.keyspaces k n) ∙ ap (λ b. cond (moves w n && b) true (is_present u.keyspaces k n)) (or_true (same_text w.source k))
          ∙ sym (ap (λ b. cond (moves w n && (same_text w.source k || b)) b (is_present u.keyspaces k n)) t)
      by false t true s =
          let is : w.source ≡ k = (same_text_decides w.source k).0 s in
          ap (λ o. said o n) (keyspace_at-changed_elsewhere (with_tables w.tables) without_source w.target k (other_from same_text same_text_decides w.target k t))
          ∙ ap (λ x. is_present without_source x n) (sym is) ∙ at_source n ∙ ap (λ x. cond (moves w n) false (is_present u.keyspaces x n)) is
          ∙ source (moves w n) (is_present u.keyspaces k n)
          ∙ sym (ap (λ b. cond (moves w n && (b || same_text w.target k)) (same_text w.target k) (is_present u.keyspaces k n)) s
          ∙ ap (λ b. cond (moves w n && true) b (is_present u.keyspaces k n)) t)
      by false t false s =
          ap (λ o. said o n) (keyspace_at-changed_elsewhere (with_tables w.tables) without_source w.target k (other_from same_text same_text_decides w.target k t))
          ∙ ap (λ o. said o n) (keyspace_at-changed_elsewhere (without_tables w.tables) u.keyspaces w.source k (other_from same_text same_text_decides w.source k s))
          ∙ sym (ap (λ b. cond (moves w n && (b || same_text w.target k)) (same_text w.target k) (is_present u.keyspaces k n)) s
          ∙ ap (λ b. cond (moves w n && b) b (is_present u.keyspaces k n)) t
          ∙ ap (λ b. cond b false (is_present u.keyspaces k n)) (and-false (moves w n)))

  pub value_ended : ((k n : List ℕ) → is_denied u.keyspaces k n ≡ false) → ((k n : List ℕ) → is_denied (completed u w).keyspaces k n ≡ false)
      → (key : EntryKey) → value_of (completed u w) key ≡ cond (ends w key) (end_entry w.target key) (value_of u key)
  value_ended allowed allowed_next (about.Rule key) = ap (entry.Rule key) (rule_ended key) ∙ by (has_part w (about.Rule key))
    where
      by : (b : Bool) → entry.Rule key (cond b None (rule_at u.rules key)) ≡ cond b (entry.Rule key None) (entry.Rule key (rule_at u.rules key))
      by true = refl
      by false = refl
  value_ended allowed allowed_next (about.Denied k n) = ap (entry.Denied k n) (allowed_next k n) ∙ by (has_part w (about.Denied k n))
    where
      by : (b : Bool) → entry.Denied k n false ≡ cond b (entry.Denied k n false) (value_of u (about.Denied k n))
      by true = refl
      by false = ap (entry.Denied k n) (sym (allowed k n))
  value_ended allowed allowed_next (about.Present k n) = ap (entry.Present k n) (present_ended k n) ∙ by (moves w n && is_side w k)
    where
      by : (b : Bool) → entry.Present k n (cond b (same_text w.target k) (is_present u.keyspaces k n)) ≡ cond b (entry.Present k n (same_text w.target k)) (entry.Present k n (is_present u.keyspaces k n))
      by true = refl
      by false = refl
