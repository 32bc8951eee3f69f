-- Rules by their keys: whether a key has a place, a rule by names that are lent, what a name's four keys get at once, how a key is
-- reserved, and how a refusal is printed.
use Rattle.std.specs.Prelude.{◌≡◌, ℕ, ◌<◌, Bool, true, false, List, [], ◌∷◌, fold, is_some, length, codes, ◌⊎◌, Option, None, Some, Result, Ok, Err}
use Rattle.std.specs.Borrow.{Bor}
use Rattle.std.specs.Map.{lookup, set_value}
use Rattle.mt_names.specs.declared.keys.RuleKey.{RuleKey}
use Rattle.mt_names.specs.declared.keys.RuleTarget.{RuleTarget}
use Rattle.mt_names.specs.declared.types.TabletType.{TabletType}
use Rattle.mt_names.specs.declared.types.TabletType.TheVariants.{Primary, Replica, Rdonly}
use Rattle.mt_names.specs.Same.{same_key}
use Rattle.mt_model.specs.Limits.{most_rules}
use Rattle.mt_model.specs.Part.{keys_of_name}
use Rattle.mt_model.specs.Topology.{Rules, with_rule_place}
use Rattle.mt_rules.specs.declared.fault.RulesFault.{RulesFault}
use Rattle.mt_rules.specs.declared.fault.RulesFault.TheVariants.{Memory, Full, NotJson, Shape, BadName, NotOneTarget, RepeatedKey}

-- the key of a name for a type or for all
abbrev pub of_type : RuleKey → Option TabletType → RuleKey
of_type name type = record name { tablet_type = type }

-- the key has a place
abbrev pub has_rule_place : Rules → RuleKey → Bool
has_rule_place rules key = is_some (lookup (same_key key) rules)

-- the rule that leads where two lent names say, those of a keyspace and of a table there
abbrev pub lent_rule : Option (Bor (List ℕ) × Bor (List ℕ)) → Option RuleTarget
lent_rule None = None
lent_rule (Some names) = Some (record { keyspace = names.0.now; table = names.1.now })

-- the four keys of a name: for all types, for primary, replica and rdonly
abbrev pub four_keys : RuleKey → List RuleKey
four_keys name = keys_of_name name.keyspace name.table

-- a rule for each of them, or none
abbrev pub four_rules : RuleKey → Option RuleTarget → Option RuleTarget → Option RuleTarget → Option RuleTarget → List (RuleKey × Option RuleTarget)
four_rules name plain primary replica rdonly =
    (record name { tablet_type = None }, plain) ∷ (record name { tablet_type = Some Primary }, primary)
    ∷ (record name { tablet_type = Some Replica }, replica) ∷ (record name { tablet_type = Some Rdonly }, rdonly) ∷ []

-- rules that are set one after the other
abbrev pub with_rules_set : Rules → List (RuleKey × Option RuleTarget) → Rules
with_rules_set rules sets = fold (λ l r. set_value (same_key r.0) l r.1) rules sets

abbrev pub rules_fault_text : RulesFault → List ℕ
rules_fault_text Memory = codes "R0 Memory"
rules_fault_text Full = codes "R1 Full"
rules_fault_text NotJson = codes "R2 NotJson"
rules_fault_text Shape = codes "R3 Shape"
rules_fault_text BadName = codes "R4 BadName"
rules_fault_text NotOneTarget = codes "R5 NotOneTarget"
rules_fault_text RepeatedKey = codes "R6 RepeatedKey"

-- what becomes of the rules where a key is reserved: it has a place or gets one; else there were as many as there may
-- be, or no memory for one more
abbrev pub Reserves : Rules → RuleKey → Result Unit RulesFault → Rules → Type 0
Reserves old key (Ok done) new = ((has_rule_place old key ≡ true) ⊎ (length old < most_rules)) × (new ≡ with_rule_place old key)
Reserves old key (Err Full) new = (has_rule_place old key ≡ false) × (length old ≡ most_rules) × (new ≡ old)
Reserves old key (Err Memory) new = (has_rule_place old key ≡ false) × (length old < most_rules) × (new ≡ old)
Reserves old key (Err NotJson) new = ⊥
Reserves old key (Err Shape) new = ⊥
Reserves old key (Err BadName) new = ⊥
Reserves old key (Err NotOneTarget) new = ⊥
Reserves old key (Err RepeatedKey) new = ⊥
