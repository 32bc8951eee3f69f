-- The document of the rules as it is read: which rules the value of a text says, or which fault comes first.
use Rattle.std.specs.Prelude.{◌≡◌, ◌⊎◌, ℕ, ◌&&◌, ◌==◌, Bool, true, is_some, if◌then◌else◌, List, [], length, codes, Option, None, Some, option_and_then, Result, Ok, Err}
use Rattle.std.specs.Borrow.{Bor}
use Rattle.std.specs.Option.{option_map_or, option_or}
use Rattle.std.specs.Str.{is_utf8}
use Rattle.serde_json.specs.Data.{Data, null, boolean, number, string, array, object, Items, no_items, item}
use Rattle.serde_json.specs.Find.{get, get_member, as_str}
use Rattle.serde_json.specs.Read.{read}
use Rattle.mt_names.specs.declared.fault.NameFault.{NameFault}
use Rattle.mt_names.specs.declared.keys.RuleKey.{RuleKey}
use Rattle.mt_names.specs.declared.keys.RuleTarget.{RuleTarget}
use Rattle.mt_names.specs.Keys.{read_key, read_target}
use Rattle.mt_names.specs.Results.{◌>>=◌}
use Rattle.mt_model.specs.Limits.{most_rules}
use Rattle.mt_model.specs.Topology.{Rules, put_rule}
use Rattle.mt_rules.specs.declared.fault.RulesFault.{RulesFault}
use Rattle.mt_rules.specs.declared.fault.RulesFault.TheVariants.{Memory, Full, NotJson, Shape, BadName, NotOneTarget, RepeatedKey}
use Rattle.mt_rules.specs.Rules.{has_rule_place}

-- ---- one rule

-- of a member with two spellings: its value under the first, or else under the second
abbrev pub spelled : List ℕ → List ℕ → Data → Option Data
spelled first second rule = option_or (get first rule) (get second rule)

-- the text that a value is
abbrev pub text_of : Option Data → Result (List ℕ) RulesFault
text_of found = option_map_or (λ text. Ok text) (option_and_then as_str found) (Err Shape)

-- the text of the rule's key ("Routing Rules": from_table)
abbrev pub from_table : Data → Result (List ℕ) RulesFault
from_table rule = text_of (spelled (codes "from_table") (codes "fromTable") rule)

-- whether each item of a list is a text
abbrev pub are_texts : Items → Bool
are_texts no_items = true
are_texts (item d ds) = is_some (as_str d) && are_texts ds

-- the text of a list that has one item
abbrev pub sole_text : Items → Result (List ℕ) RulesFault
sole_text no_items = Err NotOneTarget
sole_text (item d no_items) = text_of (Some d)
sole_text (item d (item e ds)) = Err NotOneTarget

-- the one target of a list of texts
abbrev pub sole_target : Option Data → Result (List ℕ) RulesFault
sole_target None = Err NotOneTarget
sole_target (Some null) = Err NotOneTarget
sole_target (Some (boolean b)) = Err Shape
sole_target (Some (number n)) = Err Shape
sole_target (Some (string s)) = Err Shape
sole_target (Some (array ds)) = if are_texts ds then sole_text ds else Err Shape
sole_target (Some (object ms)) = Err Shape

-- the text of the rule's target ("Routing Rules": to_tables)
abbrev pub to_table : Data → Result (List ℕ) RulesFault
to_table rule = sole_target (spelled (codes "to_tables") (codes "toTables") rule)

-- a name that was read, or that it is none
abbrev pub or_bad_name : {A : Type 0} → Result A NameFault → Result A RulesFault
or_bad_name (Ok x) = Ok x
or_bad_name (Err fault) = Err BadName

-- the rule of these two texts
abbrev pub rule_of_texts : List ℕ → List ℕ → Result (RuleKey × RuleTarget) RulesFault
rule_of_texts from to = or_bad_name (read_key from) >>= λ key. or_bad_name (read_target to) >>= λ target. Ok (key, target)

-- the rule that a value says, or its first fault
abbrev pub rule_of : Data → Result (RuleKey × RuleTarget) RulesFault
rule_of rule = from_table rule >>= λ from. to_table rule >>= λ to. rule_of_texts from to

-- ---- all rules

-- the rules with one more, unless its key has one already or there are as many as there may be
abbrev pub with_one_more : Rules → RuleKey × RuleTarget → Result Rules RulesFault
with_one_more rules r =
    if has_rule_place rules r.0 then Err RepeatedKey
    else if length rules == most_rules then Err Full
    else Ok (put_rule rules (r.0, Some r.1))

-- the rules with those of a list, taken in turn, or the first fault
abbrev pub with_rules : Rules → Items → Result Rules RulesFault
with_rules rules no_items = Ok rules
with_rules rules (item d ds) = (rule_of d >>= with_one_more rules) >>= λ more. with_rules more ds

-- the rules of a member, which may be missing or null
abbrev pub rules_of_member : Option Data → Result Rules RulesFault
rules_of_member None = Ok []
rules_of_member (Some null) = Ok []
rules_of_member (Some (boolean b)) = Err Shape
rules_of_member (Some (number n)) = Err Shape
rules_of_member (Some (string s)) = Err Shape
rules_of_member (Some (array ds)) = with_rules [] ds
rules_of_member (Some (object ms)) = Err Shape

-- the rules that a document's value says, or the first fault
abbrev pub rules_of_value : Data → Result Rules RulesFault
rules_of_value null = Err Shape
rules_of_value (boolean b) = Err Shape
rules_of_value (number n) = Err Shape
rules_of_value (string s) = Err Shape
rules_of_value (array ds) = Err Shape
rules_of_value (object ms) = rules_of_member (get_member (codes "rules") ms)

-- the value that `serde_json` reads of a text, if it reads one: none of bytes that are no UTF-8
abbrev pub value_of_text : List ℕ → Option Data
value_of_text text = if is_utf8 text then read text else None

-- the rules that a text says, or the first fault
abbrev pub rules_of_text : List ℕ → Result Rules RulesFault
rules_of_text text = option_map_or rules_of_value (value_of_text text) (Err NotJson)

-- an answer is this one, out of memory aside
abbrev pub IsUnlessMemory : {A : Type 0} → Result A RulesFault → Result A RulesFault → Type 0
IsUnlessMemory answer due = (answer ≡ Err Memory) ⊎ (answer ≡ due)

-- the answer of a call that changes a value, which is this one after it
abbrev pub answer_with : {A E : Type 0} → A → Result Unit E → Result A E
answer_with value (Ok done) = Ok value
answer_with value (Err fault) = Err fault

-- a text behind a reference, or a fault
abbrev pub result_copied : Result (Bor (List ℕ)) RulesFault → Result (List ℕ) RulesFault
result_copied (Ok text) = Ok text.now
result_copied (Err fault) = Err fault
