-- What an operator edits by hand: when an edit of a rule is refused.
use Rattle.std.specs.Prelude.{◌&&◌, ◌==◌, not, Bool, false, length, if◌then◌else◌, Option, None, Some, is_some}
use Rattle.std.specs.Map.{lookup}
use Rattle.mt_names.specs.declared.keys.RuleKey.{RuleKey}
use Rattle.mt_names.specs.declared.keys.RuleTarget.{RuleTarget}
use Rattle.mt_names.specs.Same.{same_key}
use Rattle.mt_model.specs.declared.faults.TopologyFault.{TopologyFault}
use Rattle.mt_model.specs.declared.faults.TopologyFault.TheVariants.{Full}
use Rattle.mt_model.specs.Limits.{most_rules}
use Rattle.mt_model.specs.Topology.{Rules}
pub use Rattle.mt_keyspace.specs.Edits.{Edits, add_keyspace_refusal, add_table_grows, add_table_refusal, lacks_table_place, new_table_refusal}

-- a rule that is set needs a place where its key has none
abbrev pub edit_rule_grows : Rules → RuleKey → Option RuleTarget → Bool
edit_rule_grows rules key None = false
edit_rule_grows rules key (Some target) = not (is_some (lookup (same_key key) rules))

abbrev pub edit_rule_refusal : Rules → RuleKey → Option RuleTarget → Option TopologyFault
edit_rule_refusal rules key target =
    if edit_rule_grows rules key target && (length rules == most_rules) then Some Full else None

-- the key lacks a place
abbrev pub lacks_rule_place : Rules → RuleKey → Bool
lacks_rule_place rules key = not (is_some (lookup (same_key key) rules))

-- why a key gets no place, if it doesn't: it lacks one, and there are as many as there may be
abbrev pub rule_place_refusal : Rules → RuleKey → Option TopologyFault
rule_place_refusal rules key = if lacks_rule_place rules key && (length rules == most_rules) then Some Full else None
