-- What an event does to a base that is of no workflow: keyspaces, tables and rules by hand, and clients' rows. All of this page is this
-- profile's own.
use Rattle.std.specs.Prelude.{◌≡◌, ℕ, Bool, true, List, Option, None, Some, option_map, Result, Ok, Err}
use Rattle.std.specs.List.{list_any}
use Rattle.mt_names.specs.declared.keys.RuleKey.{RuleKey}
use Rattle.mt_names.specs.declared.keys.RuleTarget.{RuleTarget}
use Rattle.mt_names.specs.declared.types.TabletType.{TabletType}
use Rattle.mt_names.specs.Names.{same_text}
use Rattle.mt_model.specs.declared.entries.EntryKey.{EntryKey}
use Rattle.mt_model.specs.declared.entries.EntryKey.TheVariants as about
use Rattle.mt_model.specs.declared.faults.PrimaryFault.{PrimaryFault}
use Rattle.mt_model.specs.declared.faults.TopologyFault.{TopologyFault}
use Rattle.mt_model.specs.declared.faults.TopologyFault.TheVariants as topology
use Rattle.mt_model.specs.declared.rows.Op.{Op}
use Rattle.mt_model.specs.Rows as rows
use Rattle.mt_model.specs.Topology.{with_keyspace, with_rule, with_table}
use Rattle.mt_topology.specs.Edits.{add_keyspace_refusal, add_table_refusal, edit_rule_grows, edit_rule_refusal}
use Rattle.mt_names.specs.Shards.{Cuts}
use Rattle.mt_primary.specs.Primaries as primaries
use Rattle.mt_primary.specs.Primaries.{ShardsState, place_of_key, primary_in, shards_at, with_all, with_primary}
use Rattle.mt_primary.specs.Primary.{PrimaryState}
use Rattle.mt_primary.specs.Reads.{read_row}
use Rattle.mt_primary.specs.Writes.{Writes, with_new_table}
use Rattle.mt_workflow.specs.Workflows.{live_of}
use Rattle.mt_plain.specs.Events.{Answer, row, refused, Refusal, memory, no_keyspace, no_table, exists, full, rule_owned}
use Rattle.mt_plain.specs.Plain.{has_part}
use Rattle.mt_plain.specs.Refuse.{or_else, refuse_if}
use Rattle.mt_stands.specs.Answers.{answer_by, refusal_by}
use Rattle.mt_stands.specs.Base.{BaseState, Does, Workflows}

-- a refusal of the topology, as the base tells it
abbrev pub refusal_by_topology : TopologyFault → Refusal
refusal_by_topology topology.Memory = memory
refusal_by_topology topology.NoKeyspace = no_keyspace
refusal_by_topology topology.NoTable = no_table
refusal_by_topology topology.Exists = exists
refusal_by_topology other = full

-- ---- by hand

-- a keyspace: it is there, with an empty primary for each of its shards
abbrev pub AddsKeyspace : BaseState → (name : List ℕ) → Cuts → Answer → BaseState → Type 0
AddsKeyspace old name cuts =
    Does old (option_map refusal_by_topology (add_keyspace_refusal old.topology.keyspaces name)) true
    (record old { topology = with_keyspace old.topology name cuts; primaries = primaries.with_keyspace old.primaries name cuts })

-- a table: it is there, without rows at each primary of its keyspace
abbrev pub AddsTable : BaseState → (keyspace table : List ℕ) → Answer → BaseState → Type 0
AddsTable old keyspace table =
    Does old (option_map refusal_by_topology (add_table_refusal old.topology.keyspaces keyspace table)) true
    (record old { topology = with_table old.topology keyspace table; primaries = with_all old.primaries keyspace (λ primary. with_new_table primary table) })

-- whether an entry lies in the part of a live workflow
abbrev pub is_owned : Workflows → EntryKey → Bool
is_owned workflows key = list_any (λ w. has_part (live_of w.1) key) workflows

-- a rule: it is that of its key, or gone with its place; not in the part of a live workflow
abbrev pub EditsRule : BaseState → RuleKey → Option RuleTarget → Answer → BaseState → Type 0
EditsRule old key target =
    Does old
    (or_else (refuse_if (is_owned old.workflows (about.Rule key)) rule_owned) (option_map refusal_by_topology (edit_rule_refusal old.topology.rules key target)))
    (edit_rule_grows old.topology.rules key target)
    (record old { topology = record old.topology { rules = with_rule old.topology.rules key target } })

-- ---- rows

-- a write goes to the primary of the shard that its key stands in, which answers it
abbrev pub WritesAt : Option ShardsState → BaseState → (keyspace table : List ℕ) → Op → Answer → BaseState → Type 0
WritesAt None old keyspace table op answer new = (answer ≡ refused no_keyspace) × (new ≡ old)
WritesAt (Some shards) old keyspace table op answer new =
    (result : Result ℕ PrimaryFault) × (after : PrimaryState)
    × Writes (primary_in shards (place_of_key shards (rows.op_key op))) table op result after × (answer ≡ answer_by result)
    × (new ≡ record old { primaries = with_primary old.primaries keyspace (place_of_key shards (rows.op_key op)) after })

abbrev pub WritesRow : BaseState → (keyspace table : List ℕ) → Op → Answer → BaseState → Type 0
WritesRow old keyspace table op answer new = WritesAt (shards_at old.primaries keyspace) old keyspace table op answer new

-- a row that a primary read
abbrev pub answer_by_read : Result rows.Row PrimaryFault → Answer
answer_by_read (Ok r) = row r
answer_by_read (Err fault) = refused (refusal_by fault)

-- a read is answered by the primary of the shard that its key stands in
abbrev pub read_at : Option ShardsState → (table : List ℕ) → ℕ → TabletType → Answer
read_at None table key tablet_type = refused no_keyspace
read_at (Some shards) table key tablet_type = answer_by_read (read_row (primary_in shards (place_of_key shards key)) table key tablet_type)

-- and changes nothing
abbrev pub ReadsRow : BaseState → (keyspace table : List ℕ) → ℕ → TabletType → Answer → BaseState → Type 0
ReadsRow old keyspace table key tablet_type answer new =
    (answer ≡ read_at (shards_at old.primaries keyspace) table key tablet_type) × (new ≡ old)
