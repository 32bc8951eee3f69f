-- The text of the dump's value is the dump, in either version.
use Rattle.std.proofs.Common.{◌≡◌, ℕ, Bool, true, false, ◌&&◌, ◌||◌, ◌==◌, nat_le, List, [], ◌∷◌, ◌++◌, length, map, codes, append_assoc, refl, sym, ap, ap₂, ◌∙◌, arith}
use Rattle.std.proofs.lemmas.Bool.{and_parts, le-leb, leb-true}
use Rattle.std.specs.Fmt.{digits}
use Rattle.std.specs.List.{AllByRecursion, join_with_byte, list_all}
use Rattle.std.specs.Prelude.{decimal}
use Rattle.json.specs.Print.{escape, escape_byte}
use Rattle.serde_json.specs.Data.{Data, string}
use Rattle.serde_json.specs.View.{items_of}
use Rattle.serde_json.specs.Written.{compact_text, items_text}
use Rattle.mt_names.specs.declared.text.Alphabet.TheVariants.{Plain, WithDollar}
use Rattle.mt_names.specs.Names.{IsTableName, dash, is_plain_byte}
use Rattle.mt_names.specs.Shards.{KeyRange, is_bound, is_digit, is_range, longest_bound, range_text, ranges_of}
use Rattle.mt_names.specs.Types.{comma}
use Rattle.mt_model.specs.Topology.{KeyspaceState, TopologyState}
use Rattle.mt_rules.specs.Values.{rule_value}
use Rattle.mt_model.specs.Documents.{keyspace_text, keyspaces_in_order, quoted, rule_text, shard_texts, sorted_rules, tables_in_order, text_with}
use Rattle.mt_rules.proofs.TextLemmas.{escape-allowed, escape-name, escape-target, items_text-each, items_text-rules, regroup}
use Rattle.mt_keyspace.specs.Values.{IsDenialText, IsNamedKeyspace, IsReadRange, keyspace_value}
use Rattle.mt_topology.specs.Values.{IsNamedTopology, dump_value, value_with}
use Rattle.mt_topology.specs.Versions.{dump_value_one, keyspace_text_one, keyspace_value_one}
use Rattle.mt_keyspace.specs.Written.{denied_in_order}

-- ---- lists

compact_text-text : (text : List ℕ) → escape text ≡ text → compact_text (string text) ≡ quoted text
compact_text-text text is = ap (λ x. 34 ∷ (x ++ 34 ∷ [])) is

tables_text : (tables : List (List ℕ)) → AllByRecursion IsTableName tables → AllByRecursion (λ t. compact_text (string t) ≡ quoted t) tables
tables_text [] named = tt
tables_text (t ∷ ts) named = (compact_text-text t (escape-name WithDollar t named.0), tables_text ts named.1)

denials_text : (texts : List (List ℕ)) → AllByRecursion IsDenialText texts → AllByRecursion (λ t. compact_text (string t) ≡ quoted t) texts
denials_text [] named = tt
denials_text (t ∷ ts) named = (compact_text-text t (ap escape named.0.2 ∙ escape-target named.0.0 named.0.1 ∙ sym named.0.2), denials_text ts named.1)

-- ---- the range of a shard

letter_allowed : (b : ℕ) → nat_le 97 b ≡ true → nat_le b 122 ≡ true → is_plain_byte b ≡ true
letter_allowed b low high = by (nat_le 48 b && nat_le b 57) (nat_le 65 b && nat_le b 90)
  where
    by : (t u : Bool) → (t || u || nat_le 97 b && nat_le b 122 || (b == 95) || (b == 45)) ≡ true
    by true u = refl
    by false true = refl
    by false false = rw (low, high) refl

hex_allowed : (b : ℕ) → is_digit b ≡ true → is_plain_byte b ≡ true
hex_allowed b digit = by (nat_le 48 b && nat_le b 57) refl digit
  where
    by : (t : Bool) → (nat_le 48 b && nat_le b 57) ≡ t → (t || nat_le 97 b && nat_le b 102) ≡ true → is_plain_byte b ≡ true
    by true number e = rw number refl
    by false number e =
        let p = and_parts (nat_le 97 b) (nat_le b 102) e in
        let high = leb-true b 102 p.1 in
        letter_allowed b p.0 (le-leb b 122 (omega (arith, high)))

digits_allowed : (digits : List ℕ) → list_all is_digit digits ≡ true → AllByRecursion (λ b. is_plain_byte b ≡ true) digits
digits_allowed [] all = tt
digits_allowed (d ∷ ds) all = let p = and_parts (is_digit d) (list_all is_digit ds) all in (hex_allowed d p.0, digits_allowed ds p.1)

both_allowed : (xs ys : List ℕ) → AllByRecursion (λ b. is_plain_byte b ≡ true) xs → AllByRecursion (λ b. is_plain_byte b ≡ true) ys → AllByRecursion (λ b. is_plain_byte b ≡ true) (xs ++ ys)
both_allowed [] ys all rest = rest
both_allowed (x ∷ xs) ys all rest = (all.0, both_allowed xs ys all.1 rest)

pub range_allowed : (range : KeyRange) → is_range range ≡ true → AllByRecursion (λ b. is_plain_byte b ≡ true) (range_text range)
range_allowed range is =
    let bounds = and_parts (is_bound range.start && is_bound range.end) _ is in
    let each = and_parts (is_bound range.start) (is_bound range.end) bounds.0 in
    both_allowed range.start (dash ∷ range.end) (bound range.start each.0) (refl, bound range.end each.1)
  where
    bound : (digits : List ℕ) → is_bound digits ≡ true → AllByRecursion (λ b. is_plain_byte b ≡ true) digits
    bound digits e = digits_allowed digits (and_parts (list_all is_digit digits) _ (and_parts (list_all is_digit digits && nat_le (length digits) longest_bound) _ e).0).0

ranges_text : (ranges : List KeyRange) → AllByRecursion IsReadRange ranges → AllByRecursion (λ t. compact_text (string t) ≡ quoted t) (map range_text ranges)
ranges_text [] all = tt
ranges_text (r ∷ rs) all = (compact_text-text (range_text r) (escape-allowed Plain (range_text r) (range_allowed r all.0.0)), ranges_text rs all.1)

-- ---- a keyspace

regroup_keyspace : (p n q h s t : List ℕ) → 123 ∷ (p ++ 58 ∷ (n ++ 44 ∷ (q ++ 58 ∷ ((91 ∷ (h ++ 93 ∷ [])) ++ 44 ∷ (s ++ 58 ∷ ((91 ∷ (t ++ 93 ∷ [])) ++ 125 ∷ []))))))
    ≡ 123 ∷ (((p ++ 58 ∷ n) ++ 44 ∷ ((q ++ 58 ∷ 91 ∷ (h ++ 93 ∷ [])) ++ 44 ∷ (s ++ 58 ∷ 91 ∷ (t ++ 93 ∷ [])))) ++ 125 ∷ [])
regroup_keyspace p n q h s t = simp append_assoc

spread_keyspace : (n h t : List ℕ) → List ℕ
spread_keyspace n h t =
    123 ∷ (quoted (codes "name") ++ 58 ∷ ((34 ∷ (n ++ 34 ∷ [])) ++ 44 ∷ (quoted (codes "shards") ++ 58 ∷ ((91 ∷ h) ++ 44 ∷ (quoted (codes "tables") ++ 58 ∷ ((91 ∷ t) ++ 125 ∷ []))))))

compact_text-keyspace : (k : List ℕ × KeyspaceState) → IsNamedKeyspace k → compact_text (keyspace_value k) ≡ keyspace_text k
unfolding escape_byte spread_keyspace
compact_text-keyspace k named =
    let shards = shard_texts k.1 in
    let tables = tables_in_order k.1 in
    let h = items_text false (items_of (map string shards)) in
    let t = items_text false (items_of (map string tables)) in
    let hs = join_with_byte comma (map quoted shards) ++ 93 ∷ [] in
    ap (λ x. spread_keyspace x h t) (escape-name Plain k.0 named.name) ∙ ap (λ x. spread_keyspace k.0 x t) (items_text-each string quoted shards (ranges_text (ranges_of k.1.cuts) named.ranges))
    ∙ ap (λ x. spread_keyspace k.0 hs x) (items_text-each string quoted tables (tables_text tables named.tables))
    ∙ regroup_keyspace (quoted (codes "name")) (quoted k.0) (quoted (codes "shards")) (join_with_byte comma (map quoted shards)) (quoted (codes "tables")) (join_with_byte comma (map quoted tables))

-- in version 1
compact_text-keyspace_one : (k : List ℕ × KeyspaceState) → IsNamedKeyspace k → compact_text (keyspace_value_one k) ≡ keyspace_text_one k
unfolding escape_byte
compact_text-keyspace_one k named =
    ap₂ (λ x y. 123 ∷ (quoted (codes "name") ++ 58 ∷ ((34 ∷ (x ++ 34 ∷ [])) ++ 44 ∷ (quoted (codes "tables") ++ 58 ∷ ((91 ∷ y) ++ 125 ∷ [])))))
    (escape-name Plain k.0 named.name) (items_text-each string quoted (tables_in_order k.1) (tables_text (tables_in_order k.1) named.tables))
    ∙ regroup (quoted (codes "name")) (quoted k.0) (quoted (codes "tables")) (join_with_byte comma (map quoted (tables_in_order k.1)))

-- ---- the whole, with keyspaces that have this value and this text

pub one_text : decimal 1 ≡ codes "1"
unfolding digits
one_text = refl

pub two_text : decimal 2 ≡ codes "2"
unfolding digits
two_text = refl

regroup_dump : (p d s k q r v n : List ℕ)
    → 123 ∷ (p ++ 58 ∷ ((91 ∷ (d ++ 93 ∷ [])) ++ 44 ∷ (s ++ 58 ∷ ((91 ∷ (k ++ 93 ∷ [])) ++ 44 ∷ (q ++ 58 ∷ ((91 ∷ (r ++ 93 ∷ [])) ++ 44 ∷ (v ++ 58 ∷ (n ++ 125 ∷ []))))))))
    ≡ 123 ∷ (((p ++ 58 ∷ 91 ∷ (d ++ 93 ∷ [])) ++ 44 ∷ ((s ++ 58 ∷ 91 ∷ (k ++ 93 ∷ [])) ++ 44 ∷ ((q ++ 58 ∷ 91 ∷ (r ++ 93 ∷ [])) ++ 44 ∷ (v ++ 58 ∷ n)))) ++ 125 ∷ [])
regroup_dump p d s k q r v n = simp append_assoc

spread : (d k r n : List ℕ) → List ℕ
spread d k r n =
    123 ∷ (quoted (codes "denied") ++ 58 ∷ ((91 ∷ d) ++ 44 ∷ (quoted (codes "keyspaces") ++ 58 ∷ ((91 ∷ k) ++ 44 ∷ (quoted (codes "rules") ++ 58 ∷ ((91 ∷ r) ++ 44 ∷ (quoted (codes "version") ++ 58 ∷ (n ++ 125 ∷ []))))))))

module _ (value : List ℕ × KeyspaceState → Data) (text : List ℕ × KeyspaceState → List ℕ) (each : (k : List ℕ × KeyspaceState) → IsNamedKeyspace k → compact_text (value k) ≡ text k) (n : ℕ) (version : List ℕ) (is : decimal n ≡ version) where
  keyspaces_text : (ks : List (List ℕ × KeyspaceState)) → AllByRecursion IsNamedKeyspace ks → AllByRecursion (λ k. compact_text (value k) ≡ text k) ks
  keyspaces_text [] named = tt
  keyspaces_text (k ∷ ks) named = (each k named.0, keyspaces_text ks named.1)

  compact_text-with : (t : TopologyState) → IsNamedTopology t → compact_text (value_with n value t) ≡ text_with version text (denied_in_order t) t
  unfolding escape_byte spread
  compact_text-with t named =
      let denied = items_text-each string quoted (denied_in_order t) (denials_text (denied_in_order t) named.denied) in
      let keyspaces = items_text-each value text (keyspaces_in_order t) (keyspaces_text (keyspaces_in_order t) named.keyspaces) in
      let rules = items_text-rules (sorted_rules t.rules) named.rules.named in
      let d = items_text false (items_of (map string (denied_in_order t))) in
      let k = items_text false (items_of (map value (keyspaces_in_order t))) in
      let r = items_text false (items_of (map rule_value (sorted_rules t.rules))) in
      let ds = join_with_byte comma (map quoted (denied_in_order t)) ++ 93 ∷ [] in
      let ks = join_with_byte comma (map text (keyspaces_in_order t)) ++ 93 ∷ [] in
      let rs = join_with_byte comma (map rule_text (sorted_rules t.rules)) ++ 93 ∷ [] in
      ap (λ x. spread x k r (decimal n)) denied ∙ ap (λ x. spread ds x r (decimal n)) keyspaces ∙ ap (λ x. spread ds ks x (decimal n)) rules ∙ ap (λ x. spread ds ks rs x) is
      ∙ regroup_dump (quoted (codes "denied")) (join_with_byte comma (map quoted (denied_in_order t))) (quoted (codes "keyspaces")) (join_with_byte comma (map text (keyspaces_in_order t))) (quoted (codes "rules"))
      (join_with_byte comma (map rule_text (sorted_rules t.rules))) (quoted (codes "version")) version

pub compact_text-dump : (t : TopologyState) → IsNamedTopology t → compact_text (dump_value t) ≡ text_with (codes "2") keyspace_text (denied_in_order t) t
compact_text-dump = compact_text-with keyspace_value keyspace_text compact_text-keyspace 2 (codes "2") two_text

pub compact_text-dump_one : (t : TopologyState) → IsNamedTopology t → compact_text (dump_value_one t) ≡ text_with (codes "1") keyspace_text_one (denied_in_order t) t
compact_text-dump_one = compact_text-with keyspace_value_one keyspace_text_one compact_text-keyspace_one 1 (codes "1") one_text
