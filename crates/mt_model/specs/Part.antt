-- The part of a topology that a workflow moves, places for it, and writes that are taken back.
use Rattle.std.specs.Prelude.{◌≡◌, ℕ, true, cond, List, [], ◌∷◌, ◌++◌, map, fold, Option, None, Some, is_some}
use Rattle.std.specs.List.{flat_map}
use Rattle.mt_names.specs.declared.keys.RuleKey.{RuleKey}
use Rattle.mt_names.specs.declared.types.TabletType.TheVariants.{Primary, Replica, Rdonly}
use Rattle.mt_model.specs.declared.entries.Entry.{Entry}
use Rattle.mt_model.specs.declared.entries.Entry.TheVariants as entry
use Rattle.mt_model.specs.declared.entries.EntryKey.{EntryKey}
use Rattle.mt_model.specs.declared.entries.EntryKey.TheVariants as about
use Rattle.mt_model.specs.Topology.{KeyspaceState, Rules, TopologyState, key_of, value_of, keyspace_at, cuts_at, with_entry, with_keyspace_state, with_rule_place, without_rule_place, with_table_place, without_table_place, with_denied_place, without_denied_place}

-- ---- the part

-- the rule keys of a name: for all tablet types, then for each ("Routing Rules")
abbrev pub keys_of_name : Option (List ℕ) → List ℕ → List RuleKey
keys_of_name keyspace table =
    record { keyspace = keyspace; table = table; tablet_type = None }
    ∷ record { keyspace = keyspace; table = table; tablet_type = Some Primary }
    ∷ record { keyspace = keyspace; table = table; tablet_type = Some Replica }
    ∷ record { keyspace = keyspace; table = table; tablet_type = Some Rdonly }
    ∷ []

-- the twelve rule keys of a table that moves ("MoveTables")
abbrev pub table_rule_keys : List ℕ → List ℕ → List ℕ → List RuleKey
table_rule_keys source target table = keys_of_name None table ++ keys_of_name (Some source) table ++ keys_of_name (Some target) table

-- with them the table's denial at both sides, and its presence at the target ("How traffic is switched")
abbrev pub table_part_keys : List ℕ → List ℕ → List ℕ → List EntryKey
table_part_keys source target table =
    map about.Rule (table_rule_keys source target table)
    ++ about.Denied source table ∷ about.Denied target table ∷ about.Present target table ∷ []

-- the part of a workflow, in the order in which its tables are named ("MoveTables")
abbrev pub part_keys : List ℕ → List ℕ → List (List ℕ) → List EntryKey
part_keys source target tables = flat_map (table_part_keys source target) tables

-- ---- places for it

-- a place for a key, unless it has one or its keyspace isn't there (this profile's own)
abbrev pub with_place : TopologyState → EntryKey → TopologyState
with_place t (about.Rule key) = record t { rules = with_rule_place t.rules key }
with_place t (about.Denied keyspace table) = record t { keyspaces = with_keyspace_state (with_denied_place table) t.keyspaces keyspace }
with_place t (about.Present keyspace table) = record t { keyspaces = with_keyspace_state (with_table_place table) t.keyspaces keyspace }

-- without the place of a key, if it holds no rule, no denial and no table (this profile's own)
abbrev pub without_place : TopologyState → EntryKey → TopologyState
without_place t (about.Rule key) = record t { rules = without_rule_place t.rules key }
without_place t (about.Denied keyspace table) = record t { keyspaces = with_keyspace_state (without_denied_place table) t.keyspaces keyspace }
without_place t (about.Present keyspace table) = record t { keyspaces = with_keyspace_state (without_table_place table) t.keyspaces keyspace }

-- places for several keys, one after the other (this profile's own)
abbrev pub with_places : TopologyState → List EntryKey → TopologyState
with_places t keys = fold with_place t keys

-- without the places of several keys that hold nothing (this profile's own)
abbrev pub without_places : TopologyState → List EntryKey → TopologyState
without_places t keys = fold without_place t keys

-- ---- writes that are taken back

-- several writes, one after the other (this profile's own)
abbrev pub with_entries : TopologyState → List Entry → TopologyState
with_entries t entries = fold with_entry t entries

-- what stood before each of several writes (this profile's own)
abbrev pub befores : TopologyState → List Entry → List Entry
befores t [] = []
befores t (entry ∷ entries) = value_of t (key_of entry) ∷ befores (with_entry t entry) entries

-- ---- topologies that say the same

-- two topologies have the same keyspaces in whatever order, with the same shards, and the same value at each key; places don't count (this
-- profile's own)
pub record IsSameTopology (one other : TopologyState) : Type 0 where
  pub keyspaces : (name : List ℕ) → is_some (keyspace_at one.keyspaces name) ≡ is_some (keyspace_at other.keyspaces name)
  pub shards : (name : List ℕ) → cuts_at one.keyspaces name ≡ cuts_at other.keyspaces name
  pub values : (key : EntryKey) → value_of one key ≡ value_of other key

-- ---- the two kinds of routes, of which `routes_of` of Topology is made

-- the rules that stand, in the order of their places ("Routing Rules")
abbrev pub rule_routes : Rules → List Entry
rule_routes rules = flat_map (λ r. cond (is_some r.1) (entry.Rule r.0 r.1 ∷ []) []) rules

-- the tables of a keyspace that are there, in the order of their places (this profile's own)
abbrev pub table_routes : List ℕ × KeyspaceState → List Entry
table_routes k = flat_map (λ mark. cond mark.1 (entry.Present k.0 mark.0 true ∷ []) []) k.1.tables
