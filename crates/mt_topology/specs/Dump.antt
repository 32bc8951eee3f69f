-- The dump of a topology, of either version: which topology the value of a text says, or which fault comes first.
use Rattle.std.specs.Prelude.{ℕ, ◌==◌, ◌||◌, nat_lt, Bool, if◌then◌else◌, List, length, codes, Option, None, Some, option_map, option_and_then, Result, Ok, Err}
use Rattle.std.specs.List.{list_any}
use Rattle.std.specs.Option.{option_map_or}
use Rattle.serde_json.specs.Data.{Data, Num, unsigned, negative, float}
use Rattle.serde_json.specs.Find.{get, as_number}
use Rattle.mt_model.specs.declared.faults.TopologyFault.{TopologyFault}
use Rattle.mt_model.specs.declared.faults.TopologyFault.TheVariants.{Full, BadDump}
use Rattle.mt_model.specs.Limits.{most_keyspaces, most_rules}
use Rattle.mt_model.specs.Topology.{Keyspaces, Rules, TopologyState}
use Rattle.mt_rules.specs.Read.{value_of_text}
use Rattle.mt_rules.specs.Member.{rules_in}
use Rattle.mt_keyspace.specs.declared.load.DumpVersion.{DumpVersion}
use Rattle.mt_keyspace.specs.declared.load.DumpVersion.TheVariants.{One, Two}
use Rattle.mt_keyspace.specs.Load.{has_too_many_tables, keyspaces_in}
pub use Rattle.mt_keyspace.specs.Load.{IsUnlessMemory}

-- the version that a number is: the integer 1 or 2
abbrev pub version_from : Option Num → Option DumpVersion
version_from None = None
version_from (Some (unsigned n)) = if n == 1 then Some One else if n == 2 then Some Two else None
version_from (Some (negative z)) = None
version_from (Some (float x)) = None

-- the topology that a value of a version says, however large, or none
abbrev pub topology_in : Data → DumpVersion → Option TopologyState
topology_in d version =
    option_and_then (λ rules. option_map (λ keyspaces. record { rules = rules; keyspaces = keyspaces }) (keyspaces_in version d)) (rules_in (get (codes "rules") d))

-- that of a value, which tells its version
abbrev pub whole_topology : Data → Option TopologyState
whole_topology d = option_and_then (topology_in d) (version_from (option_and_then as_number (get (codes "version") d)))

-- a limit is passed
abbrev pub is_too_large : TopologyState → Bool
is_too_large t = nat_lt most_rules (length t.rules) || nat_lt most_keyspaces (length t.keyspaces) || list_any has_too_many_tables t.keyspaces

-- the topology, unless a limit is passed
abbrev pub within_limits : TopologyState → Result TopologyState TopologyFault
within_limits t = if is_too_large t then Err Full else Ok t

-- the topology that a text says, or the fault: a limit is told only where nothing else is wrong
abbrev pub topology_of_text : List ℕ → Result TopologyState TopologyFault
topology_of_text text = option_map_or within_limits (option_and_then whole_topology (value_of_text text)) (Err BadDump)

-- ---- what a reading step answers

-- rules and keyspaces as one, or a fault
abbrev pub joined : Result (Rules × Keyspaces) TopologyFault → Result TopologyState TopologyFault
joined (Ok parts) = Ok (record { rules = parts.0; keyspaces = parts.1 })
joined (Err fault) = Err fault

-- rules, unless there are more than there may be
abbrev pub unless_many : Rules → Option Rules
unless_many rules = if nat_lt most_rules (length rules) then None else Some rules
