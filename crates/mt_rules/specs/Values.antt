-- The rules as a value of `serde_json`, whose text is their document.
use Rattle.std.specs.Prelude.{◌≡◌, ◌≢◌, ◌≤◌, ℕ, List, [], ◌∷◌, length, map, fold, flat_map, codes, Some, Ok}
use Rattle.std.specs.List.{AllByRecursion, IsDistinct}
use Rattle.std.specs.Map.{keys_of}
use Rattle.serde_json.specs.Data.{Data, string, array, object, Items, no_items, item, Members, no_members, member}
use Rattle.serde_json.specs.View.{items_of}
use Rattle.mt_names.specs.declared.keys.RuleKey.{RuleKey}
use Rattle.mt_names.specs.declared.keys.RuleTarget.{RuleTarget}
use Rattle.mt_names.specs.Keys.{IsRuleKey, IsRuleTarget, key_text, target_text, read_key, read_target}
use Rattle.mt_names.specs.Same.{same_key}
use Rattle.mt_model.specs.Topology.{Rules, rule_at}
use Rattle.mt_rules.specs.Read.{rules_of_text}
use Rattle.mt_model.specs.Documents.{entries_of, put_by_text, sorted_rules}

-- a rule of these two texts ("Routing Rules": from_table, to_tables)
abbrev pub texts_value : List ℕ → List ℕ → Data
texts_value from to =
    object (member (codes "from_table") (string from) (member (codes "to_tables") (array (item (string to) no_items)) no_members))

-- a rule
abbrev pub rule_value : RuleKey × RuleTarget → Data
rule_value r = texts_value (key_text r.0) (target_text r.1)

-- the list of the rules
abbrev pub rules_value : Rules → Data
rules_value rules = array (items_of (map rule_value (sorted_rules rules)))

-- the document of the rules
abbrev pub document_value : Rules → Data
document_value rules = object (member (codes "rules") (rules_value rules) no_members)

-- the text says these rules: reading it gives places with the same rules
abbrev pub Says : List ℕ → Rules → Type 0
Says text rules = (found : Rules) × (rules_of_text text ≡ Ok found) × ((key : RuleKey) → rule_at found key ≡ rule_at rules key)

-- ---- how it is made

-- the rules, each with the text of its key, in the order of these
abbrev pub by_text : Rules → List (List ℕ × (RuleKey × RuleTarget))
by_text rules = fold put_by_text [] (map (λ r. (key_text r.0, r)) (flat_map entries_of rules))

-- members, each a value under its text
abbrev pub members_by : {A : Type 0} → (A → Data) → List (List ℕ × A) → Members
members_by value [] = no_members
members_by value (x ∷ xs) = member x.0 (value x.1) (members_by value xs)

-- the text is none of those of the items
abbrev pub IsApart : {A : Type 0} → List ℕ → List (List ℕ × A) → Type 0
IsApart text items = AllByRecursion (λ x. text ≢ x.0) items

-- the values of members, as a list
abbrev pub values_in : Members → Items
values_in no_members = no_items
values_in (member name d ms) = item d (values_in ms)

-- a rule's key and target are names, and are read back from their texts
pub record IsNamed (r : RuleKey × RuleTarget) : Type 0 where
  pub key : IsRuleKey r.0
  pub target : IsRuleTarget r.1
  pub key_back : read_key (key_text r.0) ≡ Ok r.0
  pub target_back : read_target (target_text r.1) ≡ Ok r.1

-- places with these rules
abbrev pub ruled : List (RuleKey × RuleTarget) → Rules
ruled rs = map (λ r. (r.0, Some r.1)) rs

-- the rules in their order: keys and targets are names, no key stands twice, and they say what the rules say
pub record IsWellSorted (rules : Rules) : Type 0 where
  pub named : AllByRecursion IsNamed (sorted_rules rules)
  pub distinct : IsDistinct same_key (keys_of (ruled (sorted_rules rules)))
  pub says : (key : RuleKey) → rule_at (ruled (sorted_rules rules)) key ≡ rule_at rules key
  pub few : length (sorted_rules rules) ≤ length rules

-- the members are the rules in their order
pub record AreInOrder (ms : Members) (rules : Rules) : Type 0 where
  pub members : ms ≡ members_by rule_value (by_text rules)
  pub sorted : IsWellSorted rules
