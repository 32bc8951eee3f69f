-- A dump that was written, in either version, is read back as its value.
use Rattle.std.proofs.Common.{◌≡◌, ◌≤◌, ◌<◌, ◌^◌, ℕ, suc, max, List, [], ◌∷◌, ◌++◌, map, flat_map, fold, length, codes, Some, option_map, option_and_then, append_assoc, append-nil, refl, sym, ap, ap₂, subst, ◌∙◌, arith}
use Rattle.std.specs.List.{AllByRecursion}
use Rattle.json.specs.Json as json
use Rattle.json.specs.Lex.{tokens}
use Rattle.json.specs.Print.{IsNumber, print}
use Rattle.json.specs.Tree as tree
use Rattle.json.specs.Word.{after_number}
use Rattle.json.proofs.Printed.Tokens.{tokens-print}
use Rattle.json.proofs.Printed.Trees.{ArePrintable-json_tokens, value-json_tokens}
use Rattle.serde_json.specs.Data.{Data, null, boolean, number, string, array, object, Items, no_items, item, Members, no_members, member, depth, items_depth, members_depth, unsigned}
use Rattle.serde_json.specs.Read.{max_depth, number_of, of_items, of_json, read}
use Rattle.serde_json.specs.View.{items_of}
use Rattle.serde_json.specs.Written.{compact_text, items_outline, members_outline, number_text, outline}
use Rattle.serde_json.proofs.Numbers.{number_of-decimal}
use Rattle.serde_json.proofs.Texts.{print-outline}
use Rattle.mt_model.specs.Documents.{denied_texts, dump_text, keyspace_text, keyspaces_in_order, quoted, shard_texts, sorted_rules, tables_in_order, text_with}
use Rattle.mt_model.specs.Limits.{most_rules}
use Rattle.mt_model.specs.Topology.{HasDistinctPlaces, KeyspaceState, TopologyState}
use Rattle.mt_rules.specs.Values.{IsWellSorted, rule_value}
use Rattle.mt_rules.proofs.WrittenLemmas as rules
use Rattle.mt_keyspace.specs.Values.{IsDenialText, IsNamedKeyspace, keyspace_value}
use Rattle.mt_keyspace.specs.Written.{denied_in_order, put_once}
use Rattle.mt_keyspace.proofs.GatherLemmas.{all-put_once}
use Rattle.mt_topology.specs.Values.{IsNamedTopology, dump_value, value_with}
use Rattle.mt_topology.specs.Versions.{dump_text_one, dump_value_one, keyspace_text_one, keyspace_value_one}
use Rattle.mt_topology.proofs.DumpLemmas.{compact_text-dump, compact_text-dump_one, one_text, two_text}
use Rattle.mt_topology.proofs.OnceLemmas.{denied_once}
use Rattle.mt_topology.proofs.OrderLemmas.{all-ordered}
use Rattle.mt_topology.proofs.SaysLemmas.{keyspace_depth, keyspace_depth_one, not_deep_with}

-- ---- the tree of a value is as deep as the value

mutual
  depth-outline : (d : Data) → tree.depth (outline d) ≡ depth d
  depth-outline null = refl
  depth-outline (boolean b) = refl
  depth-outline (number n) = refl
  depth-outline (string s) = refl
  depth-outline (array ds) = ap suc (items_depth-outline ds)
  depth-outline (object ms) = ap suc (members_depth-outline ms)

  items_depth-outline : (ds : Items) → tree.items_depth (items_outline ds) ≡ items_depth ds
  items_depth-outline no_items = refl
  items_depth-outline (item d ds) = ap₂ max (depth-outline d) (items_depth-outline ds)

  members_depth-outline : (ms : Members) → tree.members_depth (members_outline ms) ≡ members_depth ms
  members_depth-outline no_members = refl
  members_depth-outline (member k d ms) = ap₂ max (depth-outline d) (members_depth-outline ms)

-- a value whose tree has numbers and is read as it is read back from its text
pub read_back : (d : Data) → tree.HasNumbers (outline d) → of_json (outline d) ≡ Some d → depth d ≤ max_depth → read (print (tree.json_tokens (outline d))) ≡ Some d
read_back d numbers is shallow =
    let j = outline d in
    let same : tokens (print (tree.json_tokens j)) ≡ tree.json_tokens j = tokens-print (tree.json_tokens j) (ArePrintable-json_tokens j numbers) in
    let deep : tree.depth j ≡ depth d = depth-outline d in
    let value : json.value max_depth (tokens (print (tree.json_tokens j))) ≡ Some (j, []) =
    ap (json.value max_depth) (same ∙ sym (append-nil (tree.json_tokens j))) ∙ value-json_tokens j max_depth [] (omega (arith, deep, shallow)) in
    ap (λ o. option_and_then of_json (option_and_then (λ p. json.if_last p.0 p.1) o)) value ∙ is

-- ---- the tree of a dump

texts_numbers : (texts : List (List ℕ)) → tree.ItemsHaveNumbers (items_outline (items_of (map string texts)))
texts_numbers [] = tt
texts_numbers (t ∷ ts) = (tt, texts_numbers ts)

keyspace_numbers : (k : List ℕ × KeyspaceState) → tree.HasNumbers (outline (keyspace_value k))
keyspace_numbers k = (tt, (texts_numbers (shard_texts k.1), (texts_numbers (tables_in_order k.1), tt)))

keyspace_numbers_one : (k : List ℕ × KeyspaceState) → tree.HasNumbers (outline (keyspace_value_one k))
keyspace_numbers_one k = (tt, (texts_numbers (tables_in_order k.1), tt))

texts_back : (texts : List (List ℕ)) → of_items (items_outline (items_of (map string texts))) ≡ Some (items_of (map string texts))
texts_back [] = refl
texts_back (t ∷ ts) = ap (option_map (item (string t))) (texts_back ts)

keyspace_back : (k : List ℕ × KeyspaceState) → of_json (outline (keyspace_value k)) ≡ Some (keyspace_value k)
keyspace_back k = in_turn (texts_back (shard_texts k.1)) (texts_back (tables_in_order k.1))
  where
    in_turn : of_items (items_outline (items_of (map string (shard_texts k.1)))) ≡ Some (items_of (map string (shard_texts k.1)))
        → of_items (items_outline (items_of (map string (tables_in_order k.1)))) ≡ Some (items_of (map string (tables_in_order k.1))) → of_json (outline (keyspace_value k)) ≡ Some (keyspace_value k)
    in_turn shards tables = rw (shards, tables) refl

keyspace_back_one : (k : List ℕ × KeyspaceState) → of_json (outline (keyspace_value_one k)) ≡ Some (keyspace_value_one k)
keyspace_back_one k = ap (λ o. option_map object (option_and_then (λ d. Some (member (codes "name") (string k.0) (member (codes "tables") d no_members))) (option_map array o))) (texts_back (tables_in_order k.1))

-- the whole, with keyspaces that have this value
module _ (value : List ℕ × KeyspaceState → Data) (n : ℕ) (few : n < 2 ^ 64) (number_is : IsNumber (number_text (unsigned n))) (each_numbers : (k : List ℕ × KeyspaceState) → tree.HasNumbers (outline (value k)))
    (each_back : (k : List ℕ × KeyspaceState) → of_json (outline (value k)) ≡ Some (value k)) (each_depth : (k : List ℕ × KeyspaceState) → depth (value k) ≤ 2) where
  keyspaces_numbers : (ks : List (List ℕ × KeyspaceState)) → tree.ItemsHaveNumbers (items_outline (items_of (map value ks)))
  keyspaces_numbers [] = tt
  keyspaces_numbers (k ∷ ks) = (each_numbers k, keyspaces_numbers ks)

  keyspaces_back : (ks : List (List ℕ × KeyspaceState)) → of_items (items_outline (items_of (map value ks))) ≡ Some (items_of (map value ks))
  keyspaces_back [] = refl
  keyspaces_back (k ∷ ks) = ap (option_and_then (λ d. option_map (item d) (of_items (items_outline (items_of (map value ks)))))) (each_back k) ∙ ap (option_map (item (value k))) (keyspaces_back ks)

  numbers_with : (t : TopologyState) → tree.HasNumbers (outline (value_with n value t))
  numbers_with t = (texts_numbers (denied_in_order t), (keyspaces_numbers (keyspaces_in_order t), (rules.numbers (sorted_rules t.rules), (number_is, tt))))

  back_with : (t : TopologyState) → of_json (outline (value_with n value t)) ≡ Some (value_with n value t)
  back_with t = in_turn (texts_back (denied_in_order t)) (keyspaces_back (keyspaces_in_order t)) (rules.items_back (sorted_rules t.rules)) (number_of-decimal n few)
    where
      in_turn : of_items (items_outline (items_of (map string (denied_in_order t)))) ≡ Some (items_of (map string (denied_in_order t)))
          → of_items (items_outline (items_of (map value (keyspaces_in_order t)))) ≡ Some (items_of (map value (keyspaces_in_order t)))
          → of_items (items_outline (items_of (map rule_value (sorted_rules t.rules)))) ≡ Some (items_of (map rule_value (sorted_rules t.rules)))
          → number_of (number_text (unsigned n)) ≡ Some (unsigned n) → of_json (outline (value_with n value t)) ≡ Some (value_with n value t)
      in_turn denied keyspaces rules one = rw (denied, keyspaces, rules, one) refl

  read_with : (t : TopologyState) (text : List ℕ) → compact_text (value_with n value t) ≡ text → read text ≡ Some (value_with n value t)
  read_with t text is = ap read (sym (print-outline (value_with n value t) ∙ is)) ∙ read_back (value_with n value t) (numbers_with t) (back_with t) (not_deep_with value each_depth n t)

two_is : IsNumber (number_text (unsigned 2))
unfolding after_number
two_is = subst IsNumber (sym two_text) refl

one_is : IsNumber (number_text (unsigned 1))
unfolding after_number
one_is = subst IsNumber (sym one_text) refl

-- the compact text of the value is the dump
pub dump_written : (t : TopologyState) → HasDistinctPlaces t → IsNamedTopology t → compact_text (dump_value t) ≡ dump_text t
dump_written t distinct named = compact_text-dump t named ∙ ap (λ denied. text_with (codes "2") keyspace_text denied t) (denied_once t distinct named)

pub dump_read : (t : TopologyState) → HasDistinctPlaces t → IsNamedTopology t → read (dump_text t) ≡ Some (dump_value t)
dump_read t distinct named = read_with keyspace_value 2 (omega arith) two_is keyspace_numbers keyspace_back keyspace_depth t (dump_text t) (dump_written t distinct named)

-- and in version 1
dump_written_one : (t : TopologyState) → HasDistinctPlaces t → IsNamedTopology t → compact_text (dump_value_one t) ≡ dump_text_one t
dump_written_one t distinct named = compact_text-dump_one t named ∙ ap (λ denied. text_with (codes "1") keyspace_text_one denied t) (denied_once t distinct named)

pub dump_read_one : (t : TopologyState) → HasDistinctPlaces t → IsNamedTopology t → read (dump_text_one t) ≡ Some (dump_value_one t)
dump_read_one t distinct named = read_with keyspace_value_one 1 (omega arith) one_is keyspace_numbers_one keyspace_back_one keyspace_depth_one t (dump_text_one t) (dump_written_one t distinct named)

-- ---- all names are names

all-once : (P : List ℕ → Type 0) (found left : List (List ℕ)) → AllByRecursion P found → AllByRecursion P left → AllByRecursion P (fold put_once found left)
all-once P found [] all rest = all
all-once P found (x ∷ left) all rest = all-once P (put_once found x) left (all-put_once P found x rest.0 all) rest.1

pub is_named : (t : TopologyState) → AllByRecursion IsDenialText (flat_map denied_texts t.keyspaces) → AllByRecursion IsNamedKeyspace t.keyspaces → IsWellSorted t.rules → length t.rules ≤ most_rules → IsNamedTopology t
is_named t denied keyspaces sorted few = record {
  denied = all-once IsDenialText [] (flat_map denied_texts t.keyspaces) tt denied;
  keyspaces = all-ordered IsNamedKeyspace t keyspaces;
  rules = sorted;
  few = few;
}

-- ---- what was appended in turn

pub seven_parts : (start one two three four five six all denied keyspaces rules : List ℕ) → start ≡ [] → one ≡ start ++ codes "{\"denied\":" → two ≡ one ++ denied → three ≡ two ++ codes ",\"keyspaces\":" → four ≡ three ++ keyspaces
    → five ≡ four ++ codes ",\"rules\":" → six ≡ five ++ rules → all ≡ six ++ codes ",\"version\":2}"
    → all ≡ 123 ∷ ((quoted (codes "denied") ++ 58 ∷ denied) ++ 44 ∷ ((quoted (codes "keyspaces") ++ 58 ∷ keyspaces) ++ 44 ∷ ((quoted (codes "rules") ++ 58 ∷ rules) ++ 44 ∷ (quoted (codes "version") ++ 58 ∷ 50 ∷ [])))) ++ 125 ∷ []
seven_parts start one two three four five six all denied keyspaces rules none is1 is2 is3 is4 is5 is6 is7 =
    is7 ∙ ap (λ t. t ++ codes ",\"version\":2}") (is6 ∙ ap (λ t. t ++ rules) (is5 ∙ ap (λ t. t ++ codes ",\"rules\":") (is4 ∙ ap (λ t. t ++ keyspaces)
    (is3 ∙ ap (λ t. t ++ codes ",\"keyspaces\":") (is2 ∙ ap (λ t. t ++ denied) (is1 ∙ ap (λ t. t ++ codes "{\"denied\":") none))))))
    ∙ in_turn (codes "{\"denied\":") denied (codes ",\"keyspaces\":") keyspaces (codes ",\"rules\":") rules (codes ",\"version\":2}")
    ∙ parts (quoted (codes "denied")) denied (quoted (codes "keyspaces")) keyspaces (quoted (codes "rules")) rules (quoted (codes "version"))
  where
    in_turn : (a b c d e f g : List ℕ) → (((((a ++ b) ++ c) ++ d) ++ e) ++ f) ++ g ≡ a ++ (b ++ (c ++ (d ++ (e ++ (f ++ g)))))
    in_turn a b c d e f g = simp append_assoc

    parts : (p d s k q r v : List ℕ) → 123 ∷ (p ++ 58 ∷ (d ++ 44 ∷ (s ++ 58 ∷ (k ++ 44 ∷ (q ++ 58 ∷ (r ++ 44 ∷ (v ++ 58 ∷ 50 ∷ 125 ∷ [])))))))
        ≡ 123 ∷ ((p ++ 58 ∷ d) ++ 44 ∷ ((s ++ 58 ∷ k) ++ 44 ∷ ((q ++ 58 ∷ r) ++ 44 ∷ (v ++ 58 ∷ 50 ∷ [])))) ++ 125 ∷ []
    parts p d s k q r v = simp append_assoc
