-- Topologies that say the same have the same look-ups and documents.
use Rattle.std.proofs.Common.{◌≡◌, ◌≢◌, ℕ, Bool, true, false, cond, List, [], ◌∷◌, map, filter, flat_map, fold, Option, None, Some, Result, Ok, Err, is_some, unwrap_or, refl, sym, ap, ◌∙◌}
use Rattle.std.proofs.lemmas.Bool.{true≢false}
use Rattle.std.proofs.lemmas.List.Folds.{fold-map}
use Rattle.std.specs.List.{IsDistinct}
use Rattle.std.specs.Map.{keys_of, lookup}
use Rattle.std.specs.Option.{option_map_or, option_or}
use Rattle.std.specs.Prelude.{⊤, codes}
use Rattle.mt_names.specs.declared.keys.RuleKey.{RuleKey}
use Rattle.mt_names.specs.declared.keys.RuleTarget.{RuleTarget}
use Rattle.mt_names.specs.declared.types.TabletType.{TabletType}
use Rattle.mt_names.specs.Keys.{key_text, read_key}
use Rattle.mt_names.specs.Names.{same_text}
use Rattle.mt_names.specs.Same.{same_key}
use Rattle.mt_names.specs.Shards.{Cuts, range_text, ranges_of}
use Rattle.mt_names.proofs.EntryLemmas.{other_from}
use Rattle.mt_names.proofs.KeyLemmas.{read_key-key_text}
use Rattle.mt_names.proofs.SameLemmas.{same_key_decides, same_text_decides}
use Rattle.mt_model.specs.declared.entries.EntryKey.TheVariants as about
use Rattle.mt_model.specs.declared.faults.TopologyFault.{TopologyFault}
use Rattle.mt_model.specs.declared.faults.TopologyFault.TheVariants.{NoTable, Ambiguous}
use Rattle.mt_model.specs.Documents.{array, denied_sorted, denied_text, denied_texts, dump_text, entries_of, keyspace_text, keyspaces_in_order, marked, member, object, put_by_text, quoted, rules_text, rule_text, sorted_rules, tables_in_order}
use Rattle.mt_model.specs.Part.{IsSameTopology}
use Rattle.mt_model.specs.Topology.{HasDistinctPlaces, KeyspaceState, Keyspaces, Marks, Rules, TopologyState, for_all_types, for_type, holders, is_denied, is_marked, is_present, keyspace_at, resolution, rule_at, rule_for, sole_holder, unruled}
use Rattle.mt_model.proofs.TopologyLemmas.{holds_at}
use Rattle.mt_laws.specs.Texts.{HasDistinctTexts, HasNamedKeys}
use Rattle.mt_laws.proofs.EntryValueLemmas.{denied_from_value, present_from_value, rule_from_value}
use Rattle.mt_laws.proofs.ListLemmas.{each-all}
use Rattle.mt_laws.proofs.OrderLemmas.{added, each_found, fold-alike, fold-flat_map, fold-swapped}
use Rattle.mt_laws.proofs.SortLemmas.{map-sorted, put-swapped, sorted-is}

-- ---- what the two say of an entry

module _ (t u : TopologyState) (same : IsSameTopology t u) where
  rules-same : (key : RuleKey) → rule_at t.rules key ≡ rule_at u.rules key
  rules-same key = rule_from_value t u key (same.values (about.Rule key))

  denied-same : (keyspace table : List ℕ) → is_denied t.keyspaces keyspace table ≡ is_denied u.keyspaces keyspace table
  denied-same keyspace table = denied_from_value t u keyspace table (same.values (about.Denied keyspace table))

  present-same : (keyspace table : List ℕ) → is_present t.keyspaces keyspace table ≡ is_present u.keyspaces keyspace table
  present-same keyspace table = present_from_value t u keyspace table (same.values (about.Present keyspace table))

-- ---- steps over marked names

module _ {S : Type 0} (step : S → List ℕ → S) (swap : (s : S) (x y : List ℕ) → step (step s x) y ≡ step (step s y) x) where
  abbrev mark_step : S → List ℕ × Bool → S
  mark_step s mark = fold step s (cond mark.1 (mark.0 ∷ []) [])

  mark_step-swapped : (s : S) (x y : List ℕ × Bool) → mark_step (mark_step s x) y ≡ mark_step (mark_step s y) x
  mark_step-swapped s x y = fold-swapped step swap s (cond x.1 (x.0 ∷ []) []) (cond y.1 (y.0 ∷ []) [])

  mark_step-at : (marks : Marks) (name : List ℕ) (s : S) → added mark_step name (lookup (same_text name) marks) s ≡ mark_step s (name, is_marked marks name)
  mark_step-at marks name s = by (lookup (same_text name) marks)
    where
      by : (o : Option Bool) → added mark_step name o s ≡ mark_step s (name, unwrap_or o false)
      by None = refl
      by (Some mark) = refl

  marked-same : (m n : Marks) → IsDistinct same_text (keys_of m) → IsDistinct same_text (keys_of n) → ((name : List ℕ) → is_marked m name ≡ is_marked n name)
      → (s : S) → fold step s (marked m) ≡ fold step s (marked n)
  marked-same m n distinct others same s =
      fold-flat_map step (λ mark. cond mark.1 (mark.0 ∷ []) []) s m
      ∙ fold-alike same_text same_text_decides mark_step (λ x. ⊤) (λ r x y p q other. mark_step-swapped r x y) m n s distinct others (each-all (λ x. ⊤) n (λ x. tt))
      (λ name r. mark_step-at m name r ∙ ap (λ b. mark_step r (name, b)) (same name) ∙ sym (mark_step-at n name r))
      ∙ sym (fold-flat_map step (λ mark. cond mark.1 (mark.0 ∷ []) []) s n)

-- texts put in their order, each as itself
abbrev put_text : List (List ℕ × List ℕ) → List ℕ → List (List ℕ × List ℕ)
put_text s text = put_by_text s (text, text)

put_text-swapped : (s : List (List ℕ × List ℕ)) (x y : List ℕ) → put_text (put_text s x) y ≡ put_text (put_text s y) x
put_text-swapped s x y = put-swapped s (x, x) (y, y) (λ e. ap (λ z. (z, z)) e)

-- ---- the tables of a keyspace

tables-same : (one other : KeyspaceState) → IsDistinct same_text (keys_of one.tables) → IsDistinct same_text (keys_of other.tables)
    → ((name : List ℕ) → is_marked one.tables name ≡ is_marked other.tables name) → tables_in_order one ≡ tables_in_order other
tables-same one other distinct others same =
    sorted-is (λ text. text) (marked one.tables)
    ∙ ap (map (λ x. x.1)) (marked-same put_text put_text-swapped one.tables other.tables distinct others same [])
    ∙ sym (sorted-is (λ text. text) (marked other.tables))

-- ---- the keyspaces

-- one of the first is one of the second, and the other way round
module _ (t u : TopologyState) (same : IsSameTopology t u) (distinct : HasDistinctPlaces t) (others : HasDistinctPlaces u) where
  -- what is done for a keyspace by its name and by what the entries say of it, is the same for both
  at_keyspace : {S : Type 0} (step : S → List ℕ × KeyspaceState → S)
      → ((name : List ℕ) (one other : KeyspaceState) (s : S) → keyspace_at t.keyspaces name ≡ Some one → keyspace_at u.keyspaces name ≡ Some other → step s (name, one) ≡ step s (name, other))
      → (name : List ℕ) (s : S) → added step name (keyspace_at t.keyspaces name) s ≡ added step name (keyspace_at u.keyspaces name) s
  at_keyspace {S} step each name s = by (keyspace_at t.keyspaces name) refl (keyspace_at u.keyspaces name) refl
    where
      by : (o : Option KeyspaceState) → keyspace_at t.keyspaces name ≡ o → (p : Option KeyspaceState) → keyspace_at u.keyspaces name ≡ p → added step name o s ≡ added step name p s
      by None is None is' = refl
      by None is (Some other) is' = absurd (true≢false (ap is_some (sym is') ∙ sym (same.keyspaces name) ∙ ap is_some is))
      by (Some one) is None is' = absurd (true≢false (ap is_some (sym is) ∙ same.keyspaces name ∙ ap is_some is'))
      by (Some one) is (Some other) is' = each name one other s is is'

  keyspaces-alike : {S : Type 0} (step : S → List ℕ × KeyspaceState → S)
      → ((s : S) (x y : List ℕ × KeyspaceState) → x.0 ≢ y.0 → step (step s x) y ≡ step (step s y) x)
      → ((name : List ℕ) (one other : KeyspaceState) (s : S) → keyspace_at t.keyspaces name ≡ Some one → keyspace_at u.keyspaces name ≡ Some other → step s (name, one) ≡ step s (name, other))
      → (s : S) → fold step s t.keyspaces ≡ fold step s u.keyspaces
  keyspaces-alike step swap each s =
      fold-alike same_text same_text_decides step (λ x. ⊤) (λ r x y p q other. swap r x y (other_from same_text same_text_decides x.0 y.0 other)) t.keyspaces u.keyspaces s
      distinct.keyspaces others.keyspaces (each-all (λ x. ⊤) u.keyspaces (λ x. tt)) (at_keyspace step each)

  -- the marks of a keyspace that both have
  tables-at : (name : List ℕ) (one other : KeyspaceState) → keyspace_at t.keyspaces name ≡ Some one → keyspace_at u.keyspaces name ≡ Some other → (table : List ℕ) → is_marked one.tables table ≡ is_marked other.tables table
  tables-at name one other is is' table =
      ap (λ o. option_map_or (λ state. is_marked state.tables table) o false) (sym is) ∙ present-same t u same name table ∙ ap (λ o. option_map_or (λ state. is_marked state.tables table) o false) is'

  denied-at : (name : List ℕ) (one other : KeyspaceState) → keyspace_at t.keyspaces name ≡ Some one → keyspace_at u.keyspaces name ≡ Some other → (table : List ℕ) → is_marked one.denied table ≡ is_marked other.denied table
  denied-at name one other is is' table =
      ap (λ o. option_map_or (λ state. is_marked state.denied table) o false) (sym is) ∙ denied-same t u same name table ∙ ap (λ o. option_map_or (λ state. is_marked state.denied table) o false) is'

  cuts-at : (name : List ℕ) (one other : KeyspaceState) → keyspace_at t.keyspaces name ≡ Some one → keyspace_at u.keyspaces name ≡ Some other → one.cuts ≡ other.cuts
  cuts-at name one other is is' = ap (λ o. option_map_or (λ state. state.cuts) o []) (sym is) ∙ same.shards name ∙ ap (λ o. option_map_or (λ state. state.cuts) o []) is'

  -- their texts, each made of the name, the shards and the tables
  abbrev written_keyspace : List ℕ → Cuts → List (List ℕ) → List ℕ
  written_keyspace name cuts tables =
      object (member (codes "name") (quoted name) ∷ member (codes "shards") (array (map quoted (map range_text (ranges_of cuts)))) ∷ member (codes "tables") (array (map quoted tables)) ∷ [])

  abbrev put_keyspace : List (List ℕ × List ℕ) → List ℕ × KeyspaceState → List (List ℕ × List ℕ)
  put_keyspace s k = put_by_text s (k.0, keyspace_text k)

  put_keyspace-at : (name : List ℕ) (one other : KeyspaceState) (s : List (List ℕ × List ℕ)) → keyspace_at t.keyspaces name ≡ Some one → keyspace_at u.keyspaces name ≡ Some other → put_keyspace s (name, one) ≡ put_keyspace s (name, other)
  put_keyspace-at name one other s is is' =
      ap (λ cuts. put_by_text s (name, written_keyspace name cuts (tables_in_order one))) (cuts-at name one other is is')
      ∙ ap (λ tables. put_by_text s (name, written_keyspace name other.cuts tables))
      (tables-same one other (holds_at (λ state. IsDistinct same_text (keys_of state.tables)) t.keyspaces name one distinct.tables is)
      (holds_at (λ state. IsDistinct same_text (keys_of state.tables)) u.keyspaces name other others.tables is') (tables-at name one other is is'))

  keyspaces-same : map keyspace_text (keyspaces_in_order t) ≡ map keyspace_text (keyspaces_in_order u)
  keyspaces-same =
      map-sorted keyspace_text (λ k. k.0) t.keyspaces
      ∙ ap (map (λ x. x.1)) (keyspaces-alike put_keyspace (λ s x y other. put-swapped s (x.0, keyspace_text x) (y.0, keyspace_text y) (λ e. absurd (other e))) put_keyspace-at [])
      ∙ sym (map-sorted keyspace_text (λ k. k.0) u.keyspaces)

  -- their denials
  abbrev put_denials : List (List ℕ × List ℕ) → List ℕ × KeyspaceState → List (List ℕ × List ℕ)
  put_denials s k = fold put_text s (denied_texts k)

  denials-at : (name : List ℕ) (one other : KeyspaceState) (s : List (List ℕ × List ℕ)) → keyspace_at t.keyspaces name ≡ Some one → keyspace_at u.keyspaces name ≡ Some other → put_denials s (name, one) ≡ put_denials s (name, other)
  denials-at name one other s is is' =
      fold-map put_text (denied_text name) s (marked one.denied)
      ∙ marked-same (λ r table. put_text r (denied_text name table)) (λ r x y. put_text-swapped r (denied_text name x) (denied_text name y)) one.denied other.denied
      (holds_at (λ state. IsDistinct same_text (keys_of state.denied)) t.keyspaces name one distinct.denied is)
      (holds_at (λ state. IsDistinct same_text (keys_of state.denied)) u.keyspaces name other others.denied is')
      (denied-at name one other is is') s
      ∙ sym (fold-map put_text (denied_text name) s (marked other.denied))

  denials-same : denied_sorted t ≡ denied_sorted u
  denials-same =
      sorted-is (λ text. text) (flat_map denied_texts t.keyspaces)
      ∙ ap (map (λ x. x.1)) (fold-flat_map put_text denied_texts [] t.keyspaces
      ∙ keyspaces-alike put_denials (λ s x y other. fold-swapped put_text put_text-swapped s (denied_texts x) (denied_texts y)) denials-at []
      ∙ sym (fold-flat_map put_text denied_texts [] u.keyspaces))
      ∙ sym (sorted-is (λ text. text) (flat_map denied_texts u.keyspaces))

-- ---- the rules

abbrev put_rule : List (List ℕ × (RuleKey × RuleTarget)) → RuleKey × RuleTarget → List (List ℕ × (RuleKey × RuleTarget))
put_rule s rule = put_by_text s (key_text rule.0, rule)

abbrev put_entry : List (List ℕ × (RuleKey × RuleTarget)) → RuleKey × Option RuleTarget → List (List ℕ × (RuleKey × RuleTarget))
put_entry s entry = fold put_rule s (entries_of entry)

put_entry-at : (rules : Rules) (key : RuleKey) (s : List (List ℕ × (RuleKey × RuleTarget))) → added put_entry key (lookup (same_key key) rules) s ≡ put_entry s (key, rule_at rules key)
put_entry-at rules key s = by (lookup (same_key key) rules)
  where
    by : (o : Option (Option RuleTarget)) → added put_entry key o s ≡ put_entry s (key, unwrap_or o None)
    by None = refl
    by (Some target) = refl

-- an entry says what is found at its key
abbrev IsFound : Rules → RuleKey × Option RuleTarget → Type 0
IsFound rules entry = lookup (same_key entry.0) rules ≡ Some entry.1

ruled : (rules : Rules) (key : RuleKey) (target : RuleTarget) → IsFound rules (key, Some target) → is_some (rule_at rules key) ≡ true
ruled rules key target found = ap (λ o. is_some (unwrap_or o None)) found

put_entry-swapped : (rules : Rules) → HasDistinctTexts rules → (s : List (List ℕ × (RuleKey × RuleTarget))) (a b : RuleKey) (o p : Option RuleTarget) → IsFound rules (a, o) → IsFound rules (b, p) → a ≢ b
    → put_entry (put_entry s (a, o)) (b, p) ≡ put_entry (put_entry s (b, p)) (a, o)
put_entry-swapped rules texts s a b None None at_a at_b other = refl
put_entry-swapped rules texts s a b None (Some q) at_a at_b other = refl
put_entry-swapped rules texts s a b (Some r) None at_a at_b other = refl
put_entry-swapped rules texts s a b (Some r) (Some q) at_a at_b other =
    put-swapped s (key_text a, (a, r)) (key_text b, (b, q)) (λ e. absurd (other (texts a b (ruled rules a r at_a) (ruled rules b q at_b) e)))

sorted_rules-same : (t u : TopologyState) → IsSameTopology t u → HasDistinctPlaces t → HasDistinctPlaces u → HasDistinctTexts t.rules → sorted_rules t.rules ≡ sorted_rules u.rules
sorted_rules-same t u same distinct others texts =
    sorted-is (λ r. key_text r.0) (flat_map entries_of t.rules)
    ∙ ap (map (λ x. x.1)) (fold-flat_map put_rule entries_of [] t.rules
    ∙ sym (fold-alike same_key same_key_decides put_entry (IsFound t.rules)
    (λ s x y is is' other. put_entry-swapped t.rules texts s x.0 y.0 x.1 y.1 is is' (other_from same_key same_key_decides x.0 y.0 other)) u.rules t.rules [] others.rules distinct.rules
    (each_found same_key same_key_decides t.rules distinct.rules)
    (λ key s. put_entry-at u.rules key s ∙ ap (λ o. put_entry s (key, o)) (sym (rules-same t u same key)) ∙ sym (put_entry-at t.rules key s)))
    ∙ sym (fold-flat_map put_rule entries_of [] u.rules))
    ∙ sym (sorted-is (λ r. key_text r.0) (flat_map entries_of u.rules))

pub distinct_texts : (rules : Rules) → HasNamedKeys rules → HasDistinctTexts rules
distinct_texts rules named a b at_a at_b e =
    let read : Ok a ≡ Ok b = sym (read_key-key_text a (named a at_a)) ∙ ap read_key e ∙ read_key-key_text b (named b at_b) in
    cc

pub rules_text-same : (t u : TopologyState) → IsSameTopology t u → HasDistinctPlaces t → HasDistinctPlaces u → HasDistinctTexts t.rules → rules_text t.rules ≡ rules_text u.rules
rules_text-same t u same distinct others texts = ap (λ rules. object (member (codes "rules") (array (map rule_text rules)) ∷ [])) (sorted_rules-same t u same distinct others texts)

-- ---- the dump

-- a dump of these denials, keyspaces and rules
abbrev written_dump : (denied keyspaces : List (List ℕ)) → List (RuleKey × RuleTarget) → List ℕ
written_dump denied keyspaces rules =
    object (member (codes "denied") (array (map quoted denied))
    ∷ member (codes "keyspaces") (array keyspaces)
    ∷ member (codes "rules") (array (map rule_text rules)) ∷ member (codes "version") (codes "2") ∷ [])

pub dump-same : (t u : TopologyState) → IsSameTopology t u → HasDistinctPlaces t → HasDistinctPlaces u → HasDistinctTexts t.rules → dump_text t ≡ dump_text u
dump-same t u same distinct others texts =
    let first : List (List ℕ) = map keyspace_text (keyspaces_in_order t) in
    let second : List (List ℕ) = map keyspace_text (keyspaces_in_order u) in
    ap (λ denied. written_dump denied first (sorted_rules t.rules)) (denials-same t u same distinct others)
    ∙ ap (λ keyspaces. written_dump (denied_sorted u) keyspaces (sorted_rules t.rules)) (keyspaces-same t u same distinct others)
    ∙ ap (λ rules. written_dump (denied_sorted u) second rules) (sorted_rules-same t u same distinct others texts)

-- ---- look-ups

-- the keyspaces that have a table, as far as a look-up tells them: none, one, or several
abbrev more : Option (Option (List ℕ)) → List ℕ → Option (Option (List ℕ))
more None keyspace = Some (Some keyspace)
more (Some found) keyspace = Some None

more-swapped : (s : Option (Option (List ℕ))) (x y : List ℕ) → more (more s x) y ≡ more (more s y) x
more-swapped None x y = refl
more-swapped (Some found) x y = refl

several : (keyspaces : List (List ℕ)) → fold more (Some None) keyspaces ≡ Some None
several [] = refl
several (keyspace ∷ keyspaces) = several keyspaces

abbrev answer_of : Option (Option (List ℕ)) → List ℕ → Result RuleTarget TopologyFault
answer_of None table = Err NoTable
answer_of (Some None) table = Err Ambiguous
answer_of (Some (Some keyspace)) table = Ok (record { keyspace = keyspace; table = table })

sole_holder-is : (keyspaces : List (List ℕ)) (table : List ℕ) → sole_holder keyspaces table ≡ answer_of (fold more None keyspaces) table
sole_holder-is [] table = refl
sole_holder-is (keyspace ∷ []) table = refl
sole_holder-is (first ∷ second ∷ others) table = ap (λ s. answer_of s table) (sym (several others))

abbrev hold_step : List ℕ → Option (Option (List ℕ)) → List ℕ × KeyspaceState → Option (Option (List ℕ))
hold_step table s k = cond (is_marked k.1.tables table) (more s k.0) s

fold-holders : (table : List ℕ) (keyspaces : Keyspaces) (s : Option (Option (List ℕ))) → fold more s (holders keyspaces table) ≡ fold (hold_step table) s keyspaces
fold-holders table [] s = refl
fold-holders table (k ∷ ks) s = by (fold-holders table ks s) (fold-holders table ks (more s k.0)) (is_marked k.1.tables table)
  where
    by : fold more s (holders ks table) ≡ fold (hold_step table) s ks → fold more (more s k.0) (holders ks table) ≡ fold (hold_step table) (more s k.0) ks → (b : Bool)
        → fold more s (map (λ j. j.0) (cond b (k ∷ filter (λ j. is_marked j.1.tables table) ks) (filter (λ j. is_marked j.1.tables table) ks))) ≡ fold (hold_step table) (cond b (more s k.0) s) ks
    by without with true = with
    by without with false = without

hold_step-swapped : (table : List ℕ) (s : Option (Option (List ℕ))) (x y : List ℕ × KeyspaceState) → hold_step table (hold_step table s x) y ≡ hold_step table (hold_step table s y) x
hold_step-swapped table s x y = by (is_marked x.1.tables table) (is_marked y.1.tables table)
  where
    by : (b c : Bool) → cond c (more (cond b (more s x.0) s) y.0) (cond b (more s x.0) s) ≡ cond b (more (cond c (more s y.0) s) x.0) (cond c (more s y.0) s)
    by true true = more-swapped s x.0 y.0
    by true false = refl
    by false true = refl
    by false false = refl

sole_holder-same : (t u : TopologyState) → IsSameTopology t u → HasDistinctPlaces t → HasDistinctPlaces u → (table : List ℕ) → sole_holder (holders t.keyspaces table) table ≡ sole_holder (holders u.keyspaces table) table
sole_holder-same t u same distinct others table =
    sole_holder-is (holders t.keyspaces table) table
    ∙ ap (λ s. answer_of s table) (fold-holders table t.keyspaces None
    ∙ keyspaces-alike t u same distinct others (hold_step table) (λ s x y other. hold_step-swapped table s x y)
    (λ name one other s is is'. ap (λ b. cond b (more s name) s) (tables-at t u same distinct others name one other is is' table)) None
    ∙ sym (fold-holders table u.keyspaces None))
    ∙ sym (sole_holder-is (holders u.keyspaces table) table)

unruled-same : (t u : TopologyState) → IsSameTopology t u → HasDistinctPlaces t → HasDistinctPlaces u → (keyspace : Option (List ℕ)) (table : List ℕ) → unruled t.keyspaces keyspace table ≡ unruled u.keyspaces keyspace table
unruled-same t u same distinct others None table = sole_holder-same t u same distinct others table
unruled-same t u same distinct others (Some keyspace) table = refl

pub resolution-same : (t u : TopologyState) → IsSameTopology t u → HasDistinctPlaces t → HasDistinctPlaces u → (key : RuleKey) (type : TabletType) → resolution t key type ≡ resolution u key type
resolution-same t u same distinct others key type =
    ap (λ o. option_map_or Ok (option_or o (rule_at t.rules (for_all_types key))) (unruled t.keyspaces key.keyspace key.table)) (rules-same t u same (for_type key type))
    ∙ ap (λ o. option_map_or Ok (option_or (rule_at u.rules (for_type key type)) o) (unruled t.keyspaces key.keyspace key.table)) (rules-same t u same (for_all_types key))
    ∙ ap (option_map_or Ok (rule_for u.rules key type)) (unruled-same t u same distinct others key.keyspace key.table)
