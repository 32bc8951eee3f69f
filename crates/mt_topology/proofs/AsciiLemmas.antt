-- A dump of names has no high byte, in either version; so it is UTF-8.
use Rattle.std.proofs.Common.{◌≡◌, ◌≤◌, ℕ, nat_le, nat_lt, Bool, true, false, List, [], ◌∷◌, ◌++◌, codes, map, Option, None, Some, IfSome, IsUtf8, refl, sym, ap, ◌∙◌, arith}
use Rattle.std.proofs.Math.Bool.{and-false}
use Rattle.std.proofs.lemmas.Bool.{and_parts, lt-leb, ltb-false, ne_eqb, true≢false}
use Rattle.std.proofs.lemmas.List.Elements.{recursion_from_All}
use Rattle.std.specs.List.{AllByRecursion, join_with_byte}
use Rattle.json.proofs.Printed.Utf8.{IsUtf8-are_ascii, are_ascii}
use Rattle.mt_names.specs.declared.keys.RuleKey.{RuleKey}
use Rattle.mt_names.specs.declared.keys.RuleTarget.{RuleTarget}
use Rattle.mt_names.specs.declared.text.Alphabet.{Alphabet}
use Rattle.mt_names.specs.declared.text.Alphabet.TheVariants.{Plain, WithDollar}
use Rattle.mt_names.specs.declared.types.TabletType.{TabletType}
use Rattle.mt_names.specs.declared.types.TabletType.TheVariants.{Primary, Replica, Rdonly}
use Rattle.mt_names.specs.Keys.{IsRuleKey, IsRuleTarget, dot, key_text, qualifier_text, suffix_text, target_text}
use Rattle.mt_names.specs.Names.{IsKeyspaceName, IsName, IsTableName, allows, is_plain_byte}
use Rattle.mt_names.specs.Shards.{KeyRange, range_text, ranges_of}
use Rattle.mt_names.specs.Types.{comma}
use Rattle.mt_model.specs.Documents.{array, denied_sorted, dump_text, keyspace_text, keyspaces_in_order, member, object, quoted, rule_text, rules_array, shard_texts, sorted_rules, tables_in_order, text_with}
use Rattle.mt_model.specs.Topology.{KeyspaceState, TopologyState}
use Rattle.mt_rules.specs.Values.{IsNamed}
use Rattle.mt_keyspace.specs.Values.{IsDenialText, IsNamedKeyspace, IsReadRange}
use Rattle.mt_topology.specs.Values.{IsNamedTopology}
use Rattle.mt_topology.specs.Versions.{dump_text_one, keyspace_text_one}
use Rattle.mt_topology.proofs.DumpLemmas.{range_allowed}

abbrev IsLow : List ℕ → Type 0
IsLow text = are_ascii text ≡ true

-- ---- documents of such texts

low-append : (xs ys : List ℕ) → IsLow xs → IsLow ys → IsLow (xs ++ ys)
low-append [] ys one two = two
low-append (x ∷ xs) ys one two = let p = and_parts (nat_lt x 128) (are_ascii xs) one in rw (p.0, low-append xs ys p.1 two) refl

low-quoted : (text : List ℕ) → IsLow text → IsLow (quoted text)
low-quoted text is = low-append text (34 ∷ []) is refl

low-joined : (texts : List (List ℕ)) → AllByRecursion IsLow texts → IsLow (join_with_byte comma texts)
low-joined [] all = refl
low-joined (t ∷ []) all = all.0
low-joined (t ∷ u ∷ texts) all = low-append t (comma ∷ join_with_byte comma (u ∷ texts)) all.0 (low-joined (u ∷ texts) all.1)

low-array : (texts : List (List ℕ)) → AllByRecursion IsLow texts → IsLow (array texts)
low-array texts all = low-append (join_with_byte comma texts) (codes "]") (low-joined texts all) refl

low-object : (texts : List (List ℕ)) → AllByRecursion IsLow texts → IsLow (object texts)
low-object texts all = low-append (join_with_byte comma texts) (codes "}") (low-joined texts all) refl

low-member : (name value : List ℕ) → IsLow name → IsLow value → IsLow (member name value)
low-member name value one two = low-append (quoted name ++ codes ":") value (low-append (quoted name) (codes ":") (low-quoted name one) refl) two

all-mapped : {A : Type 0} (P : A → Type 0) (text : A → List ℕ) → ((a : A) → P a → IsLow (text a)) → (items : List A) → AllByRecursion P items → AllByRecursion IsLow (map text items)
all-mapped P text each [] all = tt
all-mapped P text each (a ∷ items) all = (each a all.0, all-mapped P text each items all.1)

-- ---- names

high_is_not_plain : (b : ℕ) → 128 ≤ b → is_plain_byte b ≡ false
high_is_not_plain b high =
    rw (
      lt-leb b 57 (omega (arith, high)),
      lt-leb b 90 (omega (arith, high)),
      lt-leb b 122 (omega (arith, high)),
      ne_eqb b 95 (λ e. omega (arith, e, high)),
      ne_eqb b 45 (λ e. omega (arith, e, high)),
      and-false (nat_le 48 b),
      and-false (nat_le 65 b),
      and-false (nat_le 97 b),
    ) refl

high_is_not_allowed : (alphabet : Alphabet) (b : ℕ) → 128 ≤ b → allows alphabet b ≡ false
high_is_not_allowed Plain b high = high_is_not_plain b high
high_is_not_allowed WithDollar b high = rw (high_is_not_plain b high, ne_eqb b 36 (λ e. omega (arith, e, high))) refl

allowed_is_low : (alphabet : Alphabet) (b : ℕ) → allows alphabet b ≡ true → nat_lt b 128 ≡ true
allowed_is_low alphabet b allowed = by (nat_lt b 128) refl
  where
    by : (t : Bool) → nat_lt b 128 ≡ t → nat_lt b 128 ≡ true
    by true e = e
    by false e = absurd (true≢false (sym allowed ∙ high_is_not_allowed alphabet b (ltb-false b 128 e)))

low-allowed : (alphabet : Alphabet) (bytes : List ℕ) → AllByRecursion (λ b. allows alphabet b ≡ true) bytes → IsLow bytes
low-allowed alphabet [] each = refl
low-allowed alphabet (b ∷ bs) each = rw (allowed_is_low alphabet b each.0, low-allowed alphabet bs each.1) refl

low-name : (alphabet : Alphabet) (bytes : List ℕ) → IsName alphabet bytes → IsLow bytes
low-name alphabet bytes name = low-allowed alphabet bytes (recursion_from_All (λ b. allows alphabet b ≡ true) bytes name.each)

low-qualifier : (keyspace : Option (List ℕ)) → IfSome keyspace IsKeyspaceName → IsLow (qualifier_text keyspace)
low-qualifier None name = refl
low-qualifier (Some keyspace) name = low-append keyspace (dot ∷ []) (low-name Plain keyspace name) refl

low-suffix : (tablet_type : Option TabletType) → IsLow (suffix_text tablet_type)
low-suffix None = refl
low-suffix (Some Primary) = refl
low-suffix (Some Replica) = refl
low-suffix (Some Rdonly) = refl

low-key : (key : RuleKey) → IsRuleKey key → IsLow (key_text key)
low-key key is =
    low-append (qualifier_text key.keyspace ++ key.table) (suffix_text key.tablet_type)
    (low-append (qualifier_text key.keyspace) key.table (low-qualifier key.keyspace is.keyspace) (low-name WithDollar key.table is.table)) (low-suffix key.tablet_type)

low-target : (target : RuleTarget) → IsRuleTarget target → IsLow (target_text target)
low-target target is = low-append target.keyspace (dot ∷ target.table) (low-name Plain target.keyspace is.keyspace) (low-name WithDollar target.table is.table)

-- ---- the parts of a dump

low-rule : (r : RuleKey × RuleTarget) → IsNamed r → IsLow (rule_text r)
low-rule r named =
    low-object (member (codes "from_table") (quoted (key_text r.0)) ∷ member (codes "to_tables") (array (quoted (target_text r.1) ∷ [])) ∷ []) (
      low-member (codes "from_table") (quoted (key_text r.0)) refl (low-quoted (key_text r.0) (low-key r.0 named.key)),
      (
        low-member (codes "to_tables") (array (quoted (target_text r.1) ∷ [])) refl (low-array (quoted (target_text r.1) ∷ []) (low-quoted (target_text r.1) (low-target r.1 named.target), tt)),
        tt,
      ),
    )

low-tables : (tables : List (List ℕ)) → AllByRecursion IsTableName tables → IsLow (array (map quoted tables))
low-tables tables named = low-array (map quoted tables) (all-mapped IsTableName quoted (λ t is. low-quoted t (low-name WithDollar t is)) tables named)

low-ranges : (ranges : List KeyRange) → AllByRecursion IsReadRange ranges → AllByRecursion IsLow (map quoted (map range_text ranges))
low-ranges [] read = tt
low-ranges (r ∷ rs) read = (low-quoted (range_text r) (low-allowed Plain (range_text r) (range_allowed r read.0.0)), low-ranges rs read.1)

low-keyspace : (k : List ℕ × KeyspaceState) → IsNamedKeyspace k → IsLow (keyspace_text k)
low-keyspace k named =
    let shards = array (map quoted (shard_texts k.1)) in
    let tables = array (map quoted (tables_in_order k.1)) in
    low-object (member (codes "name") (quoted k.0) ∷ member (codes "shards") shards ∷ member (codes "tables") tables ∷ []) (
      low-member (codes "name") (quoted k.0) refl (low-quoted k.0 (low-name Plain k.0 named.name)),
      (
        low-member (codes "shards") shards refl (low-array (map quoted (shard_texts k.1)) (low-ranges (ranges_of k.1.cuts) named.ranges)),
        (low-member (codes "tables") tables refl (low-tables (tables_in_order k.1) named.tables), tt),
      ),
    )

low-keyspace_one : (k : List ℕ × KeyspaceState) → IsNamedKeyspace k → IsLow (keyspace_text_one k)
low-keyspace_one k named =
    let tables = array (map quoted (tables_in_order k.1)) in
    low-object (member (codes "name") (quoted k.0) ∷ member (codes "tables") tables ∷ []) (
      low-member (codes "name") (quoted k.0) refl (low-quoted k.0 (low-name Plain k.0 named.name)),
      (low-member (codes "tables") tables refl (low-tables (tables_in_order k.1) named.tables), tt),
    )

-- ---- the whole

low-with : (version : List ℕ) (text : List ℕ × KeyspaceState → List ℕ) (denied : List (List ℕ)) (t : TopologyState) → IsLow version → ((k : List ℕ × KeyspaceState) → IsNamedKeyspace k → IsLow (text k))
    → AllByRecursion IsDenialText denied → IsNamedTopology t → IsLow (text_with version text denied t)
low-with version text denied t number each denials named =
    let refused = array (map quoted denied) in
    let keyspaces = array (map text (keyspaces_in_order t)) in
    let rules = rules_array t.rules in
    low-object (member (codes "denied") refused ∷ member (codes "keyspaces") keyspaces ∷ member (codes "rules") rules ∷ member (codes "version") version ∷ []) (
      low-member (codes "denied") refused refl
          (low-array (map quoted denied) (all-mapped IsDenialText quoted (λ x is. low-quoted x (ap are_ascii is.2 ∙ low-target is.0 is.1)) denied denials)),
      (
        low-member (codes "keyspaces") keyspaces refl (low-array (map text (keyspaces_in_order t)) (all-mapped IsNamedKeyspace text each (keyspaces_in_order t) named.keyspaces)),
        (
          low-member (codes "rules") rules refl (low-array (map rule_text (sorted_rules t.rules)) (all-mapped IsNamed rule_text low-rule (sorted_rules t.rules) named.rules.named)),
          (low-member (codes "version") version refl number, tt),
        ),
      ),
    )

module _ (t : TopologyState) (named : IsNamedTopology t) (denials : AllByRecursion IsDenialText (denied_sorted t)) where
  pub dump_utf8 : IsUtf8 (dump_text t)
  dump_utf8 = IsUtf8-are_ascii (dump_text t) (low-with (codes "2") keyspace_text (denied_sorted t) t refl low-keyspace denials named)

  pub dump_utf8_one : IsUtf8 (dump_text_one t)
  dump_utf8_one = IsUtf8-are_ascii (dump_text_one t) (low-with (codes "1") keyspace_text_one (denied_sorted t) t refl low-keyspace_one denials named)
