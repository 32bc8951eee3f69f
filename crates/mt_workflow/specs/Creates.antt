-- When a workflow isn't created: what its tables meet in the topology.
use Rattle.std.specs.Prelude.{ℕ, ◌==◌, Bool, false, not, ◌||◌, List, [], ◌∷◌, ⊤, length, find, nat_lt, if◌then◌else◌, Option, None, Some, option_map, Result, Ok, Err}
use Rattle.std.specs.Option.{option_map_or, option_or}
use Rattle.mt_names.specs.declared.keys.RuleKey.{RuleKey}
use Rattle.mt_names.specs.Names.{same_text}
use Rattle.mt_names.specs.Same.{same_target}
use Rattle.mt_names.specs.Shards.{shard_count}
use Rattle.mt_model.specs.Part.{table_rule_keys}
use Rattle.mt_model.specs.Topology.{Keyspaces, Rules, TopologyState, cuts_at, is_denied, is_present, rule_at}
use Rattle.mt_plain.specs.Plain.{in_keyspace}
use Rattle.mt_workflow.specs.declared.fault.WorkflowFault.{WorkflowFault}
use Rattle.mt_workflow.specs.declared.fault.WorkflowFault.TheVariants.{SameKeyspace, ShardedSource, NoTables, RuleConflict, TargetHasTable, DeniedByHand, NoTable}

-- a refusal where a test holds (this profile's own)
abbrev pub refuse_if : Bool → WorkflowFault → Option WorkflowFault
refuse_if test fault = if test then Some fault else None

-- whether the rule of a key leads elsewhere than to the table at the source (Routing Rules)
abbrev pub leads_elsewhere : Rules → (source table : List ℕ) → RuleKey → Bool
leads_elsewhere rules source table key = option_map_or (λ to. not (same_target to (in_keyspace source table))) (rule_at rules key) false

-- the first of a table's rule keys whose rule leads elsewhere (MoveTables: the routing rules)
abbrev pub conflict_of : Rules → (source target table : List ℕ) → Option WorkflowFault
conflict_of rules source target table = option_map RuleConflict (find (leads_elsewhere rules source table) (table_rule_keys source target table))

-- whether a table is denied at one of the sides, which no workflow has done yet (How traffic is switched: denied tables)
abbrev pub is_denied_by_hand : TopologyState → (source target table : List ℕ) → Bool
is_denied_by_hand t source target table = is_denied t.keyspaces source table || is_denied t.keyspaces target table

-- why a table can't move: the source lacks it, the target has it, a rule of it leads elsewhere, it is denied (MoveTables: Create)
abbrev pub table_refusal : TopologyState → (source target table : List ℕ) → Option WorkflowFault
table_refusal t source target table =
    option_or (refuse_if (not (is_present t.keyspaces source table)) (NoTable table))
    (option_or (refuse_if (is_present t.keyspaces target table) (TargetHasTable table))
    (option_or (conflict_of t.rules source target table) (refuse_if (is_denied_by_hand t source target table) (DeniedByHand table))))

-- why some tables can't: the first refusal, in the order in which they are named (MoveTables: Create)
abbrev pub tables_refusal : TopologyState → (source target : List ℕ) → List (List ℕ) → Option WorkflowFault
tables_refusal t source target [] = None
tables_refusal t source target (table ∷ tables) = option_or (table_refusal t source target table) (tables_refusal t source target tables)

-- whether a keyspace has several shards (Sharding)
abbrev pub is_sharded : Keyspaces → List ℕ → Bool
is_sharded keyspaces keyspace = nat_lt 1 (shard_count (cuts_at keyspaces keyspace))

-- why a workflow isn't created: it has no table, its sides are one, its source has several shards, a table can't move (MoveTables: Create)
abbrev pub create_refusal : TopologyState → (source target : List ℕ) → List (List ℕ) → Option WorkflowFault
create_refusal t source target tables =
    option_or (refuse_if (length tables == 0) NoTables)
    (option_or (refuse_if (same_text source target) SameKeyspace)
    (option_or (refuse_if (is_sharded t.keyspaces source) ShardedSource) (tables_refusal t source target tables)))

-- the answer with a refusal, or without one (this profile's own)
abbrev pub answer_of : Option WorkflowFault → Result ⊤ WorkflowFault
answer_of None = Ok tt
answer_of (Some fault) = Err fault
