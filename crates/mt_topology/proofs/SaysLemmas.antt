-- What is dumped is loaded again.
use Rattle.std.proofs.Common.{◌≡◌, ◌+◌, ◌≤◌, ℕ, suc, max, ◌||◌, nat_lt, Bool, true, false, if◌then◌else◌, List, [], ◌∷◌, map, flat_map, fold, length, Option, None, Some, is_some, unwrap_or, option_map, option_and_then, Ok, Err, IsUtf8, refl, sym, ap, subst, ◌∙◌, arith}
use Rattle.std.proofs.lemmas.Bool.{true≢false, le-ltb}
use Rattle.std.proofs.lemmas.List.{length-map}
use Rattle.std.proofs.lemmas.List.Elements.{recursion_from_All}
use Rattle.std.proofs.lemmas.List.Folds.{list_any-append}
use Rattle.std.proofs.lemmas.Map.Made.{lookup-map_values}
use Rattle.std.proofs.Math.Nat.{max-le}
use Rattle.std.specs.List.{AllByRecursion, IsDistinct, list_any}
use Rattle.std.specs.Map.{keys_of, lookup}
use Rattle.std.specs.Option.{option_map_or}
use Rattle.serde_json.specs.Data.{Data, depth, items_depth, string}
use Rattle.serde_json.specs.Read.{max_depth, read}
use Rattle.serde_json.specs.View.{items_of}
use Rattle.mt_names.specs.declared.keys.RuleKey.{RuleKey}
use Rattle.mt_names.specs.declared.keys.RuleTarget.{RuleTarget}
use Rattle.mt_names.specs.Names.{IsKeyspaceName, same_text}
use Rattle.mt_names.proofs.EntryLemmas.{lookup_from_absent, same_itself}
use Rattle.mt_names.proofs.SameLemmas.{same_text_decides}
use Rattle.mt_model.specs.declared.entries.Entry.TheVariants as entry
use Rattle.mt_model.specs.declared.entries.EntryKey.{EntryKey}
use Rattle.mt_model.specs.declared.entries.EntryKey.TheVariants as about
use Rattle.mt_model.specs.declared.faults.TopologyFault.TheVariants.{BadDump, Full}
use Rattle.mt_model.specs.Limits.{most_keyspaces, most_rules, most_tables_in_keyspace}
use Rattle.mt_model.specs.Documents.{denied_sorted, denied_text, denied_texts, keyspaces_in_order, marked, put_by_text, shard_texts, sorted_rules, tables_in_order}
use Rattle.mt_model.specs.Topology.{HasDistinctPlaces, Keyspaces, KeyspaceState, Marks, Rules, TopologyState, cuts_at, is_denied, is_marked, is_present, keyspace_at, put_rule, rule_at, value_of}
use Rattle.mt_model.specs.Order.{key_before}
use Rattle.mt_model.proofs.OrderLemmas.{length-put_by}
use Rattle.mt_model.proofs.TopologyLemmas.{found_at, tables_distinct}
use Rattle.mt_rules.specs.Values.{ruled, rule_value}
use Rattle.mt_rules.proofs.BackLemmas.{not_deep, put_all, rule_at-read_back, rules_read_back}
use Rattle.mt_rules.proofs.KeysLemmas.{none_yet}
use Rattle.mt_rules.proofs.ReadLemmas.{value_of_text-some}
use Rattle.mt_keyspace.specs.declared.load.DumpVersion.TheVariants.{Two}
use Rattle.mt_keyspace.specs.Load.{denials_of, has_too_many_tables, keyspaces_in}
use Rattle.mt_keyspace.specs.Values.{IsDenialText, IsNamedKeyspace, by_name, keyspace_value}
use Rattle.mt_keyspace.specs.Written.{denied_in_order}
use Rattle.mt_keyspace.proofs.DifferLemmas.{marked_distinct, of_keyspaces, texts_differ}
use Rattle.mt_keyspace.proofs.GatherLemmas.{or-false, or-true}
use Rattle.mt_keyspace.proofs.SortLemmas.{marked-found}
use Rattle.mt_topology.specs.Dump.{is_too_large, whole_topology, within_limits}
use Rattle.mt_topology.specs.Says.{HasDeniedTables, Says}
use Rattle.mt_topology.specs.Values.{IsNamedTopology, dump_value, value_with}
use Rattle.mt_topology.specs.Versions.{keyspace_value_one}
use Rattle.mt_topology.proofs.BackLemmas.{Denies, IsReady, cuts_alone, same_denial, denials_back, keyspaces_back, read_keyspaces, read_state, read_tables, tables_alone}
use Rattle.mt_topology.proofs.OnceLemmas.{denied_once, of_pairs, names_of, unsorted}
use Rattle.mt_topology.proofs.OrderLemmas.{all-ordered, any-sorted, distinct-ordered, distinct-sorted, keyspace_at-ordered, length-ordered, length-sorted}

-- ---- the document is not deep

texts_not_deep : (texts : List (List ℕ)) → items_depth (items_of (map string texts)) ≤ 0
texts_not_deep [] = omega arith
texts_not_deep (t ∷ ts) = max-le {a = 0} (omega arith) (texts_not_deep ts)

pub keyspace_depth_one : (k : List ℕ × KeyspaceState) → depth (keyspace_value_one k) ≤ 2
keyspace_depth_one k =
    let tables = texts_not_deep (tables_in_order k.1) in
    let inside : max (suc (items_depth (items_of (map string (tables_in_order k.1))))) 0 ≤ 1 = max-le {a = suc (items_depth (items_of (map string (tables_in_order k.1))))} {b = 0} {k = 1} (omega (arith, tables)) (omega arith) in
    omega (arith, inside)

pub keyspace_depth : (k : List ℕ × KeyspaceState) → depth (keyspace_value k) ≤ 2
keyspace_depth k =
    let shards = texts_not_deep (shard_texts k.1) in
    let tables = texts_not_deep (tables_in_order k.1) in
    let h = suc (items_depth (items_of (map string (shard_texts k.1)))) in
    let t = suc (items_depth (items_of (map string (tables_in_order k.1)))) in
    let last : max t 0 ≤ 1 = max-le {a = t} {b = 0} {k = 1} (omega (arith, tables)) (omega arith) in
    let inside : max h (max t 0) ≤ 1 = max-le {a = h} {b = max t 0} {k = 1} (omega (arith, shards)) last in
    omega (arith, inside)

keyspaces_not_deep : (value : List ℕ × KeyspaceState → Data) → ((k : List ℕ × KeyspaceState) → depth (value k) ≤ 2) → (ks : Keyspaces) → items_depth (items_of (map value ks)) ≤ 2
keyspaces_not_deep value each [] = omega arith
keyspaces_not_deep value each (k ∷ ks) = max-le {a = depth (value k)} (each k) (keyspaces_not_deep value each ks)

pub not_deep_with : (value : List ℕ × KeyspaceState → Data) → ((k : List ℕ × KeyspaceState) → depth (value k) ≤ 2) → (n : ℕ) (t : TopologyState) → depth (value_with n value t) ≤ max_depth
not_deep_with value each n t =
    let denied = texts_not_deep (denied_in_order t) in
    let keyspaces = keyspaces_not_deep value each (keyspaces_in_order t) in
    let rules = not_deep (sorted_rules t.rules) in
    let d = suc (items_depth (items_of (map string (denied_in_order t)))) in
    let k = suc (items_depth (items_of (map value (keyspaces_in_order t)))) in
    let r = suc (items_depth (items_of (map rule_value (sorted_rules t.rules)))) in
    let one : max r (max 0 0) ≤ 3 = max-le {a = r} {b = max 0 0} {k = 3} (omega (arith, rules)) (omega arith) in
    let two : max k (max r (max 0 0)) ≤ 3 = max-le {a = k} {b = max r (max 0 0)} {k = 3} (omega (arith, keyspaces)) one in
    let three : max d (max k (max r (max 0 0))) ≤ 3 = max-le {a = d} {b = max k (max r (max 0 0))} {k = 3} (omega (arith, denied)) two in
    omega (arith, three)

-- ---- what stands among the denied texts

in_own : (k u : List ℕ) (tables : List (List ℕ)) → list_any (same_text (denied_text k u)) (map (denied_text k) tables) ≡ list_any (same_text u) tables
in_own k u [] = refl
in_own k u (t ∷ ts) = ap (λ b. b || list_any (same_text (denied_text k u)) (map (denied_text k) ts)) (same_denial k u t) ∙ ap (λ b. same_text u t || b) (in_own k u ts)

in_other : (k l u : List ℕ) (tables : List (List ℕ)) → IsKeyspaceName k → IsKeyspaceName l → same_text k l ≡ false → list_any (same_text (denied_text k u)) (map (denied_text l) tables) ≡ false
in_other k l u [] named other_named differs = refl
in_other k l u (t ∷ ts) named other_named differs = rw (of_keyspaces k l u t named other_named differs) (in_other k l u ts named other_named differs)

denied_listed : (k u : List ℕ) → IsKeyspaceName k → (ks : Keyspaces) → IsDistinct same_text (keys_of ks) → AllByRecursion (λ l. IsDistinct same_text (keys_of l.1.denied)) ks → AllByRecursion (λ l. IsKeyspaceName l.0) ks
    → list_any (same_text (denied_text k u)) (flat_map denied_texts ks) ≡ is_denied ks k u
unfolding IsDistinct
denied_listed k u named [] distinct denied names = refl
denied_listed k u named (l ∷ ls) distinct denied names =
    list_any-append (same_text (denied_text k u)) (denied_texts l) (flat_map denied_texts ls) ∙ by (denied_listed k u named ls distinct.1 denied.1 names.1) (same_text k l.0) refl
  where
    by : list_any (same_text (denied_text k u)) (flat_map denied_texts ls) ≡ is_denied ls k u → (t : Bool) → same_text k l.0 ≡ t
        → (list_any (same_text (denied_text k u)) (denied_texts l) || list_any (same_text (denied_text k u)) (flat_map denied_texts ls)) ≡ is_denied (l ∷ ls) k u
    by again true t =
        let same : k ≡ l.0 = (same_text_decides k l.0).0 t in
        let own : list_any (same_text (denied_text k u)) (denied_texts l) ≡ is_marked l.1.denied u =
        ap (λ n. list_any (same_text (denied_text n u)) (denied_texts l)) same ∙ in_own l.0 u (marked l.1.denied) ∙ marked-found l.1.denied u denied.0 in
        let none : keyspace_at ls k ≡ None = ap (keyspace_at ls) same ∙ lookup_from_absent same_text same_text_decides ls l.0 distinct.0 in
        let later : list_any (same_text (denied_text k u)) (flat_map denied_texts ls) ≡ false = again ∙ ap (λ o. option_map_or (λ state. is_marked state.denied u) o false) none in
        rw t (ap (λ b. list_any (same_text (denied_text k u)) (denied_texts l) || b) later ∙ or-false (list_any (same_text (denied_text k u)) (denied_texts l)) ∙ own)
    by again false t = rw t (ap (λ b. b || list_any (same_text (denied_text k u)) (flat_map denied_texts ls)) (in_other k l.0 u (marked l.1.denied) named names.0 t) ∙ again)

-- ---- keyspaces that were read, before denials

marked_read : (tables : List (List ℕ)) (u : List ℕ) → is_marked (read_tables tables) u ≡ list_any (same_text u) tables
marked_read [] u = refl
marked_read (t ∷ ts) u = by (marked_read ts u) (same_text u t) refl
  where
    by : is_marked (read_tables ts) u ≡ list_any (same_text u) ts → (b : Bool) → same_text u t ≡ b → is_marked (read_tables (t ∷ ts)) u ≡ list_any (same_text u) (t ∷ ts)
    by again true b = rw b refl
    by again false b = rw b again

module _ (t : TopologyState) (distinct : HasDistinctPlaces t) where
  read_first : Keyspaces
  read_first = read_keyspaces (keyspaces_in_order t)

  read_at : (k : List ℕ) → keyspace_at (read_keyspaces (keyspaces_in_order t)) k ≡ option_map read_state (keyspace_at t.keyspaces k)
  read_at k = lookup-map_values read_state (same_text k) (keyspaces_in_order t) ∙ ap (option_map read_state) (keyspace_at-ordered t k distinct.keyspaces)

  present_read : (k u : List ℕ) → is_present (read_keyspaces (keyspaces_in_order t)) k u ≡ is_present t.keyspaces k u
  present_read k u = ap (λ o. option_map_or (λ state. is_marked state.tables u) o false) (read_at k) ∙ by (keyspace_at t.keyspaces k) refl
    where
      by : (o : Option KeyspaceState) → keyspace_at t.keyspaces k ≡ o → option_map_or (λ state. is_marked state.tables u) (option_map read_state o) false ≡ option_map_or (λ state. is_marked state.tables u) o false
      by None none = refl
      by (Some state) some = marked_read (tables_in_order state) u ∙ any-sorted (same_text u) (marked state.tables) ∙ marked-found state.tables u (tables_distinct t k state distinct some)

  cuts_read : (k : List ℕ) → cuts_at (read_keyspaces (keyspaces_in_order t)) k ≡ cuts_at t.keyspaces k
  cuts_read k = ap (λ o. option_map_or (λ state. state.cuts) o []) (read_at k) ∙ by (keyspace_at t.keyspaces k)
    where
      by : (o : Option KeyspaceState) → option_map_or (λ state. state.cuts) (option_map read_state o) [] ≡ option_map_or (λ state. state.cuts) o []
      by None = refl
      by (Some state) = refl

  some_read : (k : List ℕ) → is_some (keyspace_at (read_keyspaces (keyspaces_in_order t)) k) ≡ is_some (keyspace_at t.keyspaces k)
  some_read k = ap is_some (read_at k) ∙ by (keyspace_at t.keyspaces k)
    where
      by : (o : Option KeyspaceState) → is_some (option_map read_state o) ≡ is_some o
      by None = refl
      by (Some state) = refl

  none_denied : (k u : List ℕ) → is_denied (read_keyspaces (keyspaces_in_order t)) k u ≡ false
  none_denied k u = ap (λ o. option_map_or (λ state. is_marked state.denied u) o false) (read_at k) ∙ by (keyspace_at t.keyspaces k)
    where
      by : (o : Option KeyspaceState) → option_map_or (λ state. is_marked state.denied u) (option_map read_state o) false ≡ false
      by None = refl
      by (Some state) = refl

undenied : (ks : Keyspaces) (k : List ℕ) (state : KeyspaceState) → keyspace_at (read_keyspaces ks) k ≡ Some state → state.denied ≡ []
undenied [] k state found = absurd cc
undenied (l ∷ ls) k state found = by (undenied ls k state) (same_text k l.0) refl
  where
    by : (keyspace_at (read_keyspaces ls) k ≡ Some state → state.denied ≡ []) → (b : Bool) → same_text k l.0 ≡ b → state.denied ≡ []
    by again true b = let here : Some (read_state l.1) ≡ Some state = rw b at found in let is : read_state l.1 ≡ state = cc in sym (ap (λ s. s.denied) is)
    by again false b = again (rw b at found)

-- ---- the denials can be read

name_found : (ks : Keyspaces) (k : List ℕ) (state : KeyspaceState) → AllByRecursion (λ l. IsKeyspaceName l.0) ks → keyspace_at ks k ≡ Some state → IsKeyspaceName k
name_found [] k state names found = absurd cc
name_found (l ∷ ls) k state names found = by (name_found ls k state names.1) (same_text k l.0) refl
  where
    by : (keyspace_at ls k ≡ Some state → IsKeyspaceName k) → (b : Bool) → same_text k l.0 ≡ b → IsKeyspaceName k
    by again true b = subst IsKeyspaceName (sym ((same_text_decides k l.0).0 b)) names.0
    by again false b = again (rw b at found)

module _ (t : TopologyState) (distinct : HasDistinctPlaces t) (names : AllByRecursion (λ l. IsKeyspaceName l.0) t.keyspaces) (there : HasDeniedTables t) where
  denied_differ : AllByRecursion (λ k. IsDistinct same_text (keys_of k.1.denied)) t.keyspaces
  denied_differ = recursion_from_All (λ k. IsDistinct same_text (keys_of k.1.denied)) t.keyspaces distinct.denied

  listed_is : (k u : List ℕ) → IsKeyspaceName k → list_any (same_text (denied_text k u)) (denied_sorted t) ≡ is_denied t.keyspaces k u
  listed_is k u named =
      any-sorted (same_text (denied_text k u)) (flat_map denied_texts t.keyspaces)
      ∙ denied_listed k u named t.keyspaces distinct.keyspaces (recursion_from_All (λ l. IsDistinct same_text (keys_of l.1.denied)) t.keyspaces distinct.denied) names

  one_ready : (text : List ℕ) → IsDenialText text → list_any (same_text text) (denied_sorted t) ≡ true → IsReady (read_keyspaces (keyspaces_in_order t)) text
  one_ready text is among =
      let target : RuleTarget = is.0 in
      let denied : is_denied t.keyspaces target.keyspace target.table ≡ true =
      sym (listed_is target.keyspace target.table is.1.keyspace) ∙ ap (λ x. list_any (same_text x) (denied_sorted t)) (sym is.2) ∙ among in
      let present : is_present (read_keyspaces (keyspaces_in_order t)) target.keyspace target.table ≡ true = present_read t distinct target.keyspace target.table ∙ there target.keyspace target.table denied in
      let found = found_at (λ state. is_marked state.tables target.table) (read_keyspaces (keyspaces_in_order t)) target.keyspace present in
      record {
        target = is.0;
        named = is.1;
        written = is.2;
        state = found.0;
        found = found.1;
        there = found.2;
        free = ap (lookup (same_text target.table)) (undenied (keyspaces_in_order t) target.keyspace found.0 found.1);
      }

  each_ready : (texts : List (List ℕ)) → AllByRecursion IsDenialText texts → ((text : List ℕ) → list_any (same_text text) texts ≡ true → list_any (same_text text) (denied_sorted t) ≡ true)
      → AllByRecursion (IsReady (read_keyspaces (keyspaces_in_order t))) texts
  each_ready [] named among = tt
  each_ready (x ∷ xs) named among = (
    one_ready x named.0 (among x (ap (λ b. b || list_any (same_text x) xs) (same_itself same_text same_text_decides x))),
    each_ready xs named.1 (λ text later. among text (ap (λ b. same_text text x || b) later ∙ or-true (same_text text x))),
  )

  -- ---- and what they make

  present_by : (ks : Keyspaces) (k u : List ℕ) → is_present ks k u ≡ option_map_or (λ tables. is_marked tables u) (lookup (same_text k) (tables_alone ks)) false
  present_by ks k u = sym (ap (λ o. option_map_or (λ tables. is_marked tables u) o false) (lookup-map_values (λ s. s.tables) (same_text k) ks) ∙ by (keyspace_at ks k))
    where
      by : (o : Option KeyspaceState) → option_map_or (λ tables. is_marked tables u) (option_map (λ s. s.tables) o) false ≡ option_map_or (λ s. is_marked s.tables u) o false
      by None = refl
      by (Some s) = refl

  some_by : (ks : Keyspaces) (k : List ℕ) → is_some (keyspace_at ks k) ≡ is_some (lookup (same_text k) (tables_alone ks))
  some_by ks k = sym (ap is_some (lookup-map_values (λ s. s.tables) (same_text k) ks) ∙ by (keyspace_at ks k))
    where
      by : (o : Option KeyspaceState) → is_some (option_map (λ s. s.tables) o) ≡ is_some o
      by None = refl
      by (Some s) = refl

  cuts_by : (ks : Keyspaces) (k : List ℕ) → cuts_at ks k ≡ unwrap_or (lookup (same_text k) (cuts_alone ks)) []
  cuts_by ks k = sym (ap (λ o. unwrap_or o []) (lookup-map_values (λ s. s.cuts) (same_text k) ks) ∙ by (keyspace_at ks k))
    where
      by : (o : Option KeyspaceState) → unwrap_or (option_map (λ s. s.cuts) o) [] ≡ option_map_or (λ s. s.cuts) o []
      by None = refl
      by (Some s) = refl

  module _ (made : Denies (read_keyspaces (keyspaces_in_order t)) (denied_sorted t)) where
    some_made : (k : List ℕ) → is_some (keyspace_at made.new k) ≡ is_some (keyspace_at t.keyspaces k)
    some_made k = some_by made.new k ∙ ap (λ es. is_some (lookup (same_text k) es)) made.tables ∙ sym (some_by (read_keyspaces (keyspaces_in_order t)) k) ∙ some_read t distinct k

    cuts_made : (k : List ℕ) → cuts_at made.new k ≡ cuts_at t.keyspaces k
    cuts_made k = cuts_by made.new k ∙ ap (λ es. unwrap_or (lookup (same_text k) es) []) made.cuts ∙ sym (cuts_by (read_keyspaces (keyspaces_in_order t)) k) ∙ cuts_read t distinct k

    present_made : (k u : List ℕ) → is_present made.new k u ≡ is_present t.keyspaces k u
    present_made k u =
        present_by made.new k u ∙ ap (λ es. option_map_or (λ tables. is_marked tables u) (lookup (same_text k) es) false) made.tables ∙ sym (present_by (read_keyspaces (keyspaces_in_order t)) k u) ∙ present_read t distinct k u

    denied_made : (k u : List ℕ) → is_denied made.new k u ≡ is_denied t.keyspaces k u
    denied_made k u = by (keyspace_at t.keyspaces k) refl
      where
        none : (o : Option KeyspaceState) → is_some o ≡ false → option_map_or (λ state. is_marked state.denied u) o false ≡ false
        none None e = refl
        none (Some s) e = absurd (true≢false e)

        by : (o : Option KeyspaceState) → keyspace_at t.keyspaces k ≡ o → is_denied made.new k u ≡ is_denied t.keyspaces k u
        by None e = none (keyspace_at made.new k) (some_made k ∙ ap is_some e) ∙ sym (ap (λ o. option_map_or (λ state. is_marked state.denied u) o false) e)
        by (Some state) e =
            let named = name_found t.keyspaces k state names e in
            made.denied k u named ∙ ap (λ b. list_any (same_text (denied_text k u)) (denied_sorted t) || b) (none_denied t distinct k u)
            ∙ or-false (list_any (same_text (denied_text k u)) (denied_sorted t)) ∙ listed_is k u named

-- ---- the limits

marked_short : (marks : Marks) → length (marked marks) ≤ length marks
marked_short [] = omega arith
marked_short (m ∷ ms) = by (marked_short ms) m.1 refl
  where
    by : length (marked ms) ≤ length ms → (b : Bool) → m.1 ≡ b → length (marked (m ∷ ms)) ≤ suc (length ms)
    by again true b = rw b (omega (arith, again))
    by again false b = rw b (omega (arith, again))

many_alone : (ks : Keyspaces) → list_any has_too_many_tables ks ≡ list_any (λ e. nat_lt most_tables_in_keyspace (length e.1)) (tables_alone ks)
many_alone [] = refl
many_alone (k ∷ ks) = ap (λ b. has_too_many_tables k || b) (many_alone ks)

few_read : (ks : Keyspaces) → AllByRecursion IsNamedKeyspace ks → list_any has_too_many_tables (read_keyspaces ks) ≡ false
few_read [] named = refl
few_read (k ∷ ks) named =
    let few = named.0.few in
    let short = marked_short k.1.tables in
    let sorted = length-sorted (marked k.1.tables) in
    let same : length (read_tables (tables_in_order k.1)) ≡ length (tables_in_order k.1) = length-map (tables_in_order k.1) (λ table. (table, true)) in
    rw (le-ltb most_tables_in_keyspace (length (read_tables (tables_in_order k.1))) (omega (arith, few, short, sorted, same))) (few_read ks named.1)

length-put_all : (acc rules : Rules) → length (put_all acc rules) ≡ length acc + length rules
length-put_all acc [] = omega arith
length-put_all acc (r ∷ rules) = let rest = length-put_all (put_rule acc r) rules in let more = length-put_by key_before acc r in omega (arith, rest, more)

small : (t : TopologyState) → IsNamedTopology t → length t.keyspaces ≤ most_keyspaces → (new : Keyspaces) → tables_alone new ≡ tables_alone (read_keyspaces (keyspaces_in_order t))
    → is_too_large (record { rules = put_all [] (ruled (sorted_rules t.rules)); keyspaces = new }) ≡ false
small t named within new same =
    let rules_few = named.few in
    let rules_short = named.rules.few in
    let rules_same : length (ruled (sorted_rules t.rules)) ≡ length (sorted_rules t.rules) = length-map (sorted_rules t.rules) (λ r. (r.0, Some r.1)) in
    let ordered = length-ordered t in
    let read_same : length (read_keyspaces (keyspaces_in_order t)) ≡ length (keyspaces_in_order t) = length-map (keyspaces_in_order t) (λ k. (k.0, read_state k.1)) in
    let alone_read : length (tables_alone (read_keyspaces (keyspaces_in_order t))) ≡ length (read_keyspaces (keyspaces_in_order t)) = length-map (read_keyspaces (keyspaces_in_order t)) (λ k. (k.0, k.1.tables)) in
    let alone_new : length (tables_alone new) ≡ length new = length-map new (λ k. (k.0, k.1.tables)) in
    let alone = ap length same in
    let rules_put = length-put_all [] (ruled (sorted_rules t.rules)) in
    let no_rules : nat_lt most_rules (length (put_all [] (ruled (sorted_rules t.rules)))) ≡ false = le-ltb most_rules (length (put_all [] (ruled (sorted_rules t.rules)))) (omega (arith, rules_few, rules_short, rules_same, rules_put)) in
    let no_keyspace : nat_lt most_keyspaces (length new) ≡ false = le-ltb most_keyspaces (length new) (omega (arith, within, ordered, read_same, alone_read, alone_new, alone)) in
    let no_table : list_any has_too_many_tables new ≡ false =
    many_alone new ∙ ap (list_any (λ e. nat_lt most_tables_in_keyspace (length e.1))) same ∙ sym (many_alone (read_keyspaces (keyspaces_in_order t))) ∙ few_read (keyspaces_in_order t) named.keyspaces in
    rw (no_rules, no_keyspace, no_table) refl

-- ---- the whole

tables_of_each : (ks : Keyspaces) → AllByRecursion (λ k. IsDistinct same_text (keys_of k.1.tables)) ks → AllByRecursion (λ k. IsDistinct same_text (tables_in_order k.1)) ks
tables_of_each [] all = tt
tables_of_each (k ∷ ks) all = (distinct-sorted (marked k.1.tables) (marked_distinct k.1.tables all.0), tables_of_each ks all.1)

names_in : (t : TopologyState) → IsNamedTopology t → AllByRecursion (λ k. IsKeyspaceName k.0) t.keyspaces
names_in t named =
    names_of t.keyspaces (unsorted IsNamedKeyspace [] (by_name t.keyspaces) (of_pairs IsNamedKeyspace (fold put_by_text [] (by_name t.keyspaces)) named.keyspaces)).1

made_of : (t : TopologyState) → HasDistinctPlaces t → IsNamedTopology t → HasDeniedTables t → Denies (read_keyspaces (keyspaces_in_order t)) (denied_sorted t)
made_of t distinct named there =
    let names = names_in t named in
    let texts = denied_sorted t in
    denials_back (read_keyspaces (keyspaces_in_order t)) texts (each_ready t distinct names there texts (subst (AllByRecursion IsDenialText) (denied_once t distinct named) named.denied) (λ text among. among))
    (distinct-sorted (flat_map denied_texts t.keyspaces) (texts_differ t.keyspaces distinct.keyspaces (recursion_from_All (λ k. IsDistinct same_text (keys_of k.1.denied)) t.keyspaces distinct.denied) names))

keyspaces_read : (t : TopologyState) (distinct : HasDistinctPlaces t) (named : IsNamedTopology t) (made : Denies (read_keyspaces (keyspaces_in_order t)) (denied_sorted t)) → keyspaces_in Two (dump_value t) ≡ Some made.new
keyspaces_read t distinct named made =
    ap (λ o. option_and_then (λ ks. denials_of ks (items_of (map string (denied_in_order t)))) o)
    (keyspaces_back [] (keyspaces_in_order t) named.keyspaces
    (all-ordered (λ k. IsDistinct same_text (tables_in_order k.1)) t (tables_of_each t.keyspaces (recursion_from_All (λ k. IsDistinct same_text (keys_of k.1.tables)) t.keyspaces distinct.tables)))
    (none_yet KeyspaceState same_text (keys_of (keyspaces_in_order t))) (distinct-ordered t distinct.keyspaces))
    ∙ ap (λ texts. denials_of (read_keyspaces (keyspaces_in_order t)) (items_of (map string texts))) (denied_once t distinct named)
    ∙ made.reads

pub dump_says : (t : TopologyState) (d : Data) (text : List ℕ) → d ≡ dump_value t → HasDistinctPlaces t → IsNamedTopology t → length t.keyspaces ≤ most_keyspaces → IsUtf8 text → (depth d ≤ max_depth → read text ≡ Some d)
    → HasDeniedTables t → Says text t
dump_says t d text is distinct named within valid back there =
    let names = names_in t named in
    let made = made_of t distinct named there in
    let found : TopologyState = record { rules = put_all [] (ruled (sorted_rules t.rules)); keyspaces = made.new } in
    let shallow : depth d ≤ max_depth = let deep = ap depth is in let bound = not_deep_with keyspace_value keyspace_depth 2 t in omega (arith, deep, bound) in
    let whole : whole_topology (dump_value t) ≡ Some found =
    ap (λ o. option_and_then (λ rules. option_map (λ keyspaces. record { rules = rules; keyspaces = keyspaces }) (keyspaces_in Two (dump_value t))) o) (rules_read_back t.rules named.rules)
    ∙ ap (option_map (λ keyspaces. record { rules = put_all [] (ruled (sorted_rules t.rules)); keyspaces = keyspaces })) (keyspaces_read t distinct named made) in
    let within_it : within_limits found ≡ Ok found = ap (λ b. if b then Err Full else Ok found) (small t named within made.new made.tables) in (
      found,
      ap (λ v. option_map_or within_limits (option_and_then whole_topology v) (Err BadDump)) (value_of_text-some text d valid (back shallow))
          ∙ ap (λ e. option_map_or within_limits (whole_topology e) (Err BadDump)) is
          ∙ ap (λ o. option_map_or within_limits o (Err BadDump)) whole ∙ within_it,
      record {
        keyspaces = some_made t distinct names there made;
        shards = cuts_made t distinct names there made;
        values = λ key. by (put_all [] (ruled (sorted_rules t.rules))) made.new (rule_at-read_back t.rules named.rules) (denied_made t distinct names there made) (present_made t distinct names there made) key;
      },
    )
  where
    by : (rules : Rules) (keyspaces : Keyspaces) → ((key : RuleKey) → rule_at rules key ≡ rule_at t.rules key) → ((k u : List ℕ) → is_denied keyspaces k u ≡ is_denied t.keyspaces k u)
        → ((k u : List ℕ) → is_present keyspaces k u ≡ is_present t.keyspaces k u) → (key : EntryKey) → value_of (record { rules = rules; keyspaces = keyspaces }) key ≡ value_of t key
    by rules keyspaces rule denied present (about.Rule key) = ap (entry.Rule key) (rule key)
    by rules keyspaces rule denied present (about.Denied k u) = ap (entry.Denied k u) (denied k u)
    by rules keyspaces rule denied present (about.Present k u) = ap (entry.Present k u) (present k u)
