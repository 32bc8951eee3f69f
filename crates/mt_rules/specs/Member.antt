-- The rules as a member of a larger document: however many they are, they are read to the end, and the limit is told last.
use Rattle.std.specs.Prelude.{nat_lt, if◌then◌else◌, [], length, Option, None, Some, option_and_then, Result, Ok, Err}
use Rattle.std.specs.Option.{option_map_or}
use Rattle.serde_json.specs.Data.{Data, null, boolean, number, string, array, object, Items, no_items, item}
use Rattle.mt_names.specs.declared.keys.RuleKey.{RuleKey}
use Rattle.mt_names.specs.declared.keys.RuleTarget.{RuleTarget}
use Rattle.mt_model.specs.Limits.{most_rules}
use Rattle.mt_model.specs.Topology.{Rules, put_rule}
use Rattle.mt_rules.specs.declared.fault.RulesFault.{RulesFault}
use Rattle.mt_rules.specs.declared.fault.RulesFault.TheVariants.{Full, Shape}
use Rattle.mt_rules.specs.Read.{rule_of}
use Rattle.mt_rules.specs.Rules.{has_rule_place}

-- what was read, unless there is a fault
abbrev pub unless_fault : {A E : Type 0} → Result A E → Option A
unless_fault (Ok x) = Some x
unless_fault (Err fault) = None

-- the rules with one more, unless its key has one already
abbrev pub with_new_rule : Rules → RuleKey × RuleTarget → Option Rules
with_new_rule rules r = if has_rule_place rules r.0 then None else Some (put_rule rules (r.0, Some r.1))

-- the rules with that of a value
abbrev pub with_rule_of : Rules → Data → Option Rules
with_rule_of rules d = option_and_then (with_new_rule rules) (unless_fault (rule_of d))

-- rules of a list, however many, no key of them twice
abbrev pub rules_of : Rules → Items → Option Rules
rules_of rules no_items = Some rules
rules_of rules (item d ds) = option_and_then (λ more. rules_of more ds) (with_rule_of rules d)

-- the rules of a member, which may be missing or null
abbrev pub rules_in : Option Data → Option Rules
rules_in None = Some []
rules_in (Some null) = Some []
rules_in (Some (boolean b)) = None
rules_in (Some (number n)) = None
rules_in (Some (string s)) = None
rules_in (Some (array ds)) = rules_of [] ds
rules_in (Some (object ms)) = None

-- what was read; any fault is told as one
abbrev pub or_shape : {A : Type 0} → Option A → Result A RulesFault
or_shape (Some x) = Ok x
or_shape None = Err Shape

-- the rules, unless there are more than there may be
abbrev pub unless_full : Rules → Result Rules RulesFault
unless_full rules = if nat_lt most_rules (length rules) then Err Full else Ok rules

-- the rules of a member, or the fault: the limit is told only where nothing else is wrong
abbrev pub rules_within : Option Data → Result Rules RulesFault
rules_within member = option_map_or unless_full (rules_in member) (Err Shape)
