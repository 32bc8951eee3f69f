-- The text of the rules' value is their document.
use Rattle.std.proofs.Common.{◌≡◌, ◌≢◌, ◌<◌, ◌≤◌, ℕ, Bool, true, false, List, [], ◌∷◌, ◌++◌, map, codes, Option, None, Some, IfSome, append_assoc, refl, sym, ap, ap₂, ◌∙◌, arith, nat_le}
use Rattle.std.proofs.lemmas.Bool.{true≢false, ne_eqb, le-ltb, lt-leb, leb-false, leb-true}
use Rattle.std.proofs.lemmas.Grind.{flat_map-append}
use Rattle.std.proofs.lemmas.List.Elements.{recursion_from_All}
use Rattle.std.specs.List.{AllByRecursion, join_with_byte}
use Rattle.json.specs.Print.{escape, escape_byte}
use Rattle.serde_json.specs.Data.{Data}
use Rattle.serde_json.specs.View.{items_of}
use Rattle.serde_json.specs.Written.{compact_text, items_text}
use Rattle.mt_names.specs.declared.keys.RuleKey.{RuleKey}
use Rattle.mt_names.specs.declared.keys.RuleTarget.{RuleTarget}
use Rattle.mt_names.specs.declared.text.Alphabet.{Alphabet}
use Rattle.mt_names.specs.declared.text.Alphabet.TheVariants.{Plain, WithDollar}
use Rattle.mt_names.specs.declared.types.TabletType.{TabletType}
use Rattle.mt_names.specs.declared.types.TabletType.TheVariants.{Primary, Replica, Rdonly}
use Rattle.mt_names.specs.Keys.{IsRuleKey, IsRuleTarget, dot, key_text, qualifier_text, suffix_text, target_text}
use Rattle.mt_names.specs.Names.{IsKeyspaceName, IsName, allows, is_plain_byte}
use Rattle.mt_names.specs.Types.{comma}
use Rattle.mt_model.specs.Topology.{Rules}
use Rattle.mt_rules.specs.Values.{IsNamed, document_value, rule_value}
use Rattle.mt_model.specs.Documents.{quoted, rule_text, rules_text, sorted_rules}

-- ---- no byte of a name is escaped

escape-one : (b : ℕ) → b ≢ 34 → b ≢ 92 → 32 ≤ b → escape_byte b ≡ b ∷ []
unfolding escape_byte
escape-one b quote slash high =
    rw (
      ne_eqb b 34 quote,
      ne_eqb b 92 slash,
      ne_eqb b 8 (λ e. omega (arith, e, high)),
      ne_eqb b 12 (λ e. omega (arith, e, high)),
      ne_eqb b 10 (λ e. omega (arith, e, high)),
      ne_eqb b 13 (λ e. omega (arith, e, high)),
      ne_eqb b 9 (λ e. omega (arith, e, high)),
      le-ltb b 32 high,
    ) refl

low_is_not_plain : (b : ℕ) → b < 32 → is_plain_byte b ≡ false
low_is_not_plain b low =
    rw (lt-leb 48 b (omega (arith, low)), lt-leb 65 b (omega (arith, low)), lt-leb 97 b (omega (arith, low)), ne_eqb b 95 (λ e. omega (arith, e, low)), ne_eqb b 45 (λ e. omega (arith, e, low))) refl

low_is_not_allowed : (alphabet : Alphabet) (b : ℕ) → b < 32 → allows alphabet b ≡ false
low_is_not_allowed Plain b low = low_is_not_plain b low
low_is_not_allowed WithDollar b low = rw (low_is_not_plain b low, ne_eqb b 36 (λ e. omega (arith, e, low))) refl

quote_is_not_allowed : (alphabet : Alphabet) → allows alphabet 34 ≡ false
quote_is_not_allowed Plain = refl
quote_is_not_allowed WithDollar = refl

slash_is_not_allowed : (alphabet : Alphabet) → allows alphabet 92 ≡ false
slash_is_not_allowed Plain = refl
slash_is_not_allowed WithDollar = refl

allowed_is_high : (alphabet : Alphabet) (b : ℕ) → allows alphabet b ≡ true → 32 ≤ b
allowed_is_high alphabet b allowed = by (nat_le 32 b) refl
  where
    by : (t : Bool) → nat_le 32 b ≡ t → 32 ≤ b
    by true e = leb-true 32 b e
    by false e = absurd (true≢false (sym allowed ∙ low_is_not_allowed alphabet b (leb-false 32 b e)))

pub escape-allowed : (alphabet : Alphabet) (bytes : List ℕ) → AllByRecursion (λ b. allows alphabet b ≡ true) bytes → escape bytes ≡ bytes
escape-allowed alphabet [] each = refl
escape-allowed alphabet (b ∷ bs) each =
    let one : escape_byte b ≡ b ∷ [] = escape-one b (λ e. true≢false (sym each.0 ∙ ap (allows alphabet) e ∙ quote_is_not_allowed alphabet))
    (λ e. true≢false (sym each.0 ∙ ap (allows alphabet) e ∙ slash_is_not_allowed alphabet)) (allowed_is_high alphabet b each.0) in
    ap₂ (λ x y. x ++ y) one (escape-allowed alphabet bs each.1)

pub escape-name : (alphabet : Alphabet) (bytes : List ℕ) → IsName alphabet bytes → escape bytes ≡ bytes
escape-name alphabet bytes name = escape-allowed alphabet bytes (recursion_from_All (λ b. allows alphabet b ≡ true) bytes name.each)

escape-append : (xs ys : List ℕ) → escape xs ≡ xs → escape ys ≡ ys → escape (xs ++ ys) ≡ xs ++ ys
escape-append xs ys first second = flat_map-append escape_byte xs ys ∙ ap₂ (λ x y. x ++ y) first second

escape-dot : escape (dot ∷ []) ≡ dot ∷ []
unfolding escape_byte
escape-dot = refl

escape-qualifier : (keyspace : Option (List ℕ)) → IfSome keyspace IsKeyspaceName → escape (qualifier_text keyspace) ≡ qualifier_text keyspace
escape-qualifier None name = refl
escape-qualifier (Some keyspace) name = escape-append keyspace (dot ∷ []) (escape-name Plain keyspace name) escape-dot

escape-suffix : (tablet_type : Option TabletType) → escape (suffix_text tablet_type) ≡ suffix_text tablet_type
unfolding escape_byte
escape-suffix None = refl
escape-suffix (Some Primary) = refl
escape-suffix (Some Replica) = refl
escape-suffix (Some Rdonly) = refl

pub escape-key : (key : RuleKey) → IsRuleKey key → escape (key_text key) ≡ key_text key
escape-key key is =
    escape-append (qualifier_text key.keyspace ++ key.table) (suffix_text key.tablet_type)
    (escape-append (qualifier_text key.keyspace) key.table (escape-qualifier key.keyspace is.keyspace) (escape-name WithDollar key.table is.table)) (escape-suffix key.tablet_type)

pub escape-target : (target : RuleTarget) → IsRuleTarget target → escape (target_text target) ≡ target_text target
escape-target target is =
    escape-append target.keyspace (dot ∷ target.table) (escape-name Plain target.keyspace is.keyspace) (escape-append (dot ∷ []) target.table escape-dot (escape-name WithDollar target.table is.table))

-- ---- a rule, and all of them

pub regroup : (p a s b : List ℕ) → 123 ∷ (p ++ 58 ∷ (a ++ 44 ∷ (s ++ 58 ∷ ((91 ∷ (b ++ 93 ∷ [])) ++ 125 ∷ [])))) ≡ 123 ∷ (((p ++ 58 ∷ a) ++ 44 ∷ (s ++ 58 ∷ 91 ∷ (b ++ 93 ∷ []))) ++ 125 ∷ [])
regroup p a s b = simp append_assoc

pub compact_text-rule : (r : RuleKey × RuleTarget) → IsNamed r → compact_text (rule_value r) ≡ rule_text r
unfolding escape_byte
compact_text-rule r named =
    ap₂ (λ x y. 123 ∷ (quoted (codes "from_table") ++ 58 ∷ ((34 ∷ (x ++ 34 ∷ [])) ++ 44 ∷ (quoted (codes "to_tables") ++ 58 ∷ ((91 ∷ ((34 ∷ (y ++ 34 ∷ [])) ++ 93 ∷ [])) ++ 125 ∷ [])))))
    (escape-key r.0 named.key) (escape-target r.1 named.target)
    ∙ regroup (quoted (codes "from_table")) (quoted (key_text r.0)) (quoted (codes "to_tables")) (quoted (target_text r.1))

-- a list of values, each of which has its text
pub items_text-each : {A : Type 0} (value : A → Data) (text : A → List ℕ) (items : List A) → AllByRecursion (λ a. compact_text (value a) ≡ text a) items
    → items_text false (items_of (map value items)) ≡ join_with_byte comma (map text items) ++ 93 ∷ []
items_text-each value text [] each = refl
items_text-each value text (a ∷ []) each = ap (λ t. t ++ 93 ∷ []) each.0
items_text-each value text (a ∷ b ∷ more) each =
    ap₂ (λ t u. t ++ 44 ∷ u) each.0 (items_text-each value text (b ∷ more) each.1) ∙ sym (append_assoc (text a) (44 ∷ join_with_byte comma (map text (b ∷ more))) (93 ∷ []))

rules_text-each : (rs : List (RuleKey × RuleTarget)) → AllByRecursion IsNamed rs → AllByRecursion (λ r. compact_text (rule_value r) ≡ rule_text r) rs
rules_text-each [] named = tt
rules_text-each (r ∷ rs) named = (compact_text-rule r named.0, rules_text-each rs named.1)

pub items_text-rules : (rs : List (RuleKey × RuleTarget)) → AllByRecursion IsNamed rs → items_text false (items_of (map rule_value rs)) ≡ join_with_byte comma (map rule_text rs) ++ 93 ∷ []
items_text-rules rs named = items_text-each rule_value rule_text rs (rules_text-each rs named)

regroup_document : (p a : List ℕ) → 123 ∷ (p ++ 58 ∷ ((91 ∷ (a ++ 93 ∷ [])) ++ 125 ∷ [])) ≡ 123 ∷ ((p ++ 58 ∷ 91 ∷ (a ++ 93 ∷ [])) ++ 125 ∷ [])
regroup_document p a = simp append_assoc

pub compact_text-document : (rules : Rules) → AllByRecursion IsNamed (sorted_rules rules) → compact_text (document_value rules) ≡ rules_text rules
unfolding escape_byte
compact_text-document rules named =
    ap (λ t. 123 ∷ (quoted (codes "rules") ++ 58 ∷ ((91 ∷ t) ++ 125 ∷ []))) (items_text-rules (sorted_rules rules) named)
    ∙ regroup_document (quoted (codes "rules")) (join_with_byte comma (map rule_text (sorted_rules rules)))
