-- Rule keys that their texts tell apart, and the events of which such keys come.
use Rattle.std.specs.Prelude.{◌≡◌, true, is_some, ⊤}
use Rattle.std.specs.List.{AllByRecursion}
use Rattle.mt_names.specs.declared.keys.RuleKey.{RuleKey}
use Rattle.mt_names.specs.Keys.{IsRuleKey, key_text}
use Rattle.mt_names.specs.Names.{IsKeyspaceName, IsTableName}
use Rattle.mt_model.specs.Topology.{Rules, rule_at}
use Rattle.mt_plain.specs.Events.{Event, create, edit_rule}

-- no two keys that have a rule are written as the same text
abbrev pub HasDistinctTexts : Rules → Type 0
HasDistinctTexts rules = (a b : RuleKey) → is_some (rule_at rules a) ≡ true → is_some (rule_at rules b) ≡ true → key_text a ≡ key_text b → a ≡ b

-- the parts of each key that has a rule are names
abbrev pub HasNamedKeys : Rules → Type 0
HasNamedKeys rules = (key : RuleKey) → is_some (rule_at rules key) ≡ true → IsRuleKey key

-- what an event brings into the keys of rules are names: the parts of a key that is edited, the sides and tables of a workflow
abbrev pub BringsNames : Event → Type 0
BringsNames (edit_rule key target) = IsRuleKey key
BringsNames (create workflow source target tables) = IsKeyspaceName source × IsKeyspaceName target × AllByRecursion IsTableName tables
BringsNames other = ⊤
