-- The document of the rules as it is written: the texts of the rules, in the order of their keys' texts.
use Rattle.std.specs.Prelude.{ℕ, List, [], ◌∷◌, ◌++◌, Option, None, Some, codes, flat_map, map, option_map, string_bytes}
use Rattle.mt_names.specs.declared.keys.RuleKey.{RuleKey}
use Rattle.mt_names.specs.declared.keys.RuleTarget.{RuleTarget}
use Rattle.mt_names.specs.Keys.{key_text, target_text}
use Rattle.mt_names.specs.Types.{comma}
use Rattle.mt_model.specs.Documents.{array, entries_of, member, object, quoted, rule_text}
use Rattle.mt_model.specs.Topology.{Rules}
use Rattle.mt_rules.specs.declared.text.WrittenItem.{WrittenItem}

-- the text of a rule of these two texts
abbrev pub text_of_texts : (from to : List ℕ) → List ℕ
text_of_texts from to = object (member (codes "from_table") (quoted from) ∷ member (codes "to_tables") (array (quoted to ∷ [])) ∷ [])

-- the text of a rule, with that of its key
abbrev pub named_text : RuleKey × RuleTarget → List ℕ × List ℕ
named_text r = (key_text r.0, rule_text r)

-- those of the rules, in the order of their places
abbrev pub texts_of : Rules → List (List ℕ × List ℕ)
texts_of rules = map named_text (flat_map entries_of rules)

-- a text in quotes, under itself
abbrev pub quoted_item : List ℕ → List ℕ × List ℕ
quoted_item text = (text, quoted text)

-- the text of an item with this key: of a rule where it leads somewhere, else one of its own, or the key in quotes
abbrev pub item_text : List ℕ → Option RuleTarget → Option (List ℕ) → List ℕ
item_text key (Some target) text = text_of_texts key (target_text target)
item_text key None (Some text) = text
item_text key None None = quoted key

-- the key and the text of an item
abbrev pub written_text : WrittenItem → List ℕ × List ℕ
written_text item = (item.key.bytes, item_text item.key.bytes item.target (option_map string_bytes item.text))

-- the document of rules with these texts, in their order
abbrev pub written_document : List (List ℕ × List ℕ) → List ℕ
written_document texts = object (member (codes "rules") (array (map (λ x. x.1) texts)) ∷ [])

-- the texts that are left to be written, the first behind `before` and each later one behind a comma
abbrev pub rest_text : List ℕ → List (List ℕ) → List ℕ
rest_text before [] = []
rest_text before (text ∷ texts) = before ++ (text ++ rest_text (comma ∷ []) texts)
