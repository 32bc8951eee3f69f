-- Where a name leads by the routes that were published: the rules that stand, and the tables that are there.
use Rattle.std.specs.Prelude.{◌≡◌, ℕ, Bool, true, false, cond, List, [], ◌∷◌, Option, None, Some, option_map, Result, Ok, Err}
use Rattle.std.specs.List.{IsDistinct, flat_map, last_or, list_any}
use Rattle.std.specs.Map.{lookup}
use Rattle.std.specs.Option.{option_map_or, option_or}
use Rattle.mt_names.specs.declared.keys.RuleKey.{RuleKey}
use Rattle.mt_names.specs.declared.keys.RuleTarget.{RuleTarget}
use Rattle.mt_names.specs.declared.types.TabletType.{TabletType}
use Rattle.mt_names.specs.Names.{same_text}
use Rattle.mt_names.specs.Same.{same_key}
use Rattle.mt_model.specs.declared.entries.Entry.{Entry}
use Rattle.mt_model.specs.declared.entries.Entry.TheVariants as entry
use Rattle.mt_model.specs.declared.entries.EntryKey.{EntryKey}
use Rattle.mt_model.specs.declared.entries.EntryKey.TheVariants as about
use Rattle.mt_model.specs.declared.faults.TopologyFault.{TopologyFault}
use Rattle.mt_model.specs.Topology.{for_all_types, for_type, sole_holder}
use Rattle.mt_routes.specs.declared.publication.Publication.{Publication}
use Rattle.mt_routes.specs.declared.publication.Front.{Front}

-- the rule that an entry is, if it is one that stands
abbrev pub rule_in : Entry → List (RuleKey × RuleTarget)
rule_in (entry.Rule key None) = []
rule_in (entry.Rule key (Some target)) = (key, target) ∷ []
rule_in (entry.Denied keyspace table mark) = []
rule_in (entry.Present keyspace table mark) = []

-- the table that an entry says to be there, with its keyspace
abbrev pub table_in : Entry → List (List ℕ × List ℕ)
table_in (entry.Rule key target) = []
table_in (entry.Denied keyspace table mark) = []
table_in (entry.Present keyspace table true) = (table, keyspace) ∷ []
table_in (entry.Present keyspace table false) = []

-- the target of a key's rule
abbrev pub target_in : List Entry → RuleKey → Option RuleTarget
target_in entries key = lookup (same_key key) (flat_map rule_in entries)

-- the rule that applies to a name: that for the type, else that for all types
abbrev pub target_for : List Entry → RuleKey → TabletType → Option RuleTarget
target_for entries key tablet_type = option_or (target_in entries (for_type key tablet_type)) (target_in entries (for_all_types key))

-- the keyspaces that have a table
abbrev pub holders_in : List Entry → List ℕ → List (List ℕ)
holders_in entries table = flat_map (λ t. cond (same_text table t.0) (t.1 ∷ []) []) (flat_map table_in entries)

-- whether a keyspace is said to have a table
abbrev pub is_listed : List Entry → (keyspace table : List ℕ) → Bool
is_listed entries keyspace table = list_any (same_text keyspace) (holders_in entries table)

-- no table is said twice to be in one keyspace
abbrev pub AreListedOnce : List Entry → Type 0
AreListedOnce entries = (table : List ℕ) → IsDistinct same_text (holders_in entries table)

-- what routes say at a key: where there is no route there is no rule, or no table. Of denials they say none
abbrev pub said_by : List Entry → EntryKey → Entry
said_by entries (about.Rule key) = entry.Rule key (target_in entries key)
said_by entries (about.Denied keyspace table) = entry.Denied keyspace table false
said_by entries (about.Present keyspace table) = entry.Present keyspace table (is_listed entries keyspace table)

-- a name without a rule: a qualified one is itself, another the table of the one keyspace that has it
abbrev pub unruled_in : List Entry → Option (List ℕ) → List ℕ → Result RuleTarget TopologyFault
unruled_in entries (Some keyspace) table = Ok (record { keyspace = keyspace; table = table })
unruled_in entries None table = sole_holder (holders_in entries table) table

-- where a name leads for a type
abbrev pub led_by : List Entry → RuleKey → TabletType → Result RuleTarget TopologyFault
led_by entries key tablet_type = option_map_or Ok (target_for entries key tablet_type) (unruled_in entries key.keyspace key.table)

-- the last publication of the list has this front, and a name leads there by its routes
abbrev pub LastLeads : List Publication → RuleKey → TabletType → ℕ → Result RuleTarget TopologyFault → Type 0
LastLeads list key tablet_type front answer =
    option_map {U = ℕ × Result RuleTarget TopologyFault} (λ p. (p.front, led_by p.entries key tablet_type)) (last_or None list) ≡ Some (front, answer)

-- what a router answers by its list
abbrev pub Routes : List Publication → RuleKey → TabletType → Result (RuleTarget × Front) (TopologyFault × Front) → Type 0
Routes list key tablet_type (Ok answer) = LastLeads list key tablet_type answer.1.0 (Ok answer.0)
Routes list key tablet_type (Err refusal) = LastLeads list key tablet_type refusal.1.0 (Err refusal.0)
