-- When the part of a workflow is reserved: what its places lack, and when it is refused.
use Rattle.std.specs.Prelude.{ℕ, ◌+◌, ◌&&◌, not, nat_lt, Bool, List, [], ◌∷◌, length, filter, map, if◌then◌else◌, Option, None, Some, is_some, option_copied}
use Rattle.std.specs.List.{flat_map, list_any}
use Rattle.std.specs.Map.{lookup}
use Rattle.std.specs.Option.{option_map_or, option_or}
use Rattle.mt_names.specs.declared.keys.RuleKey.{RuleKey}
use Rattle.mt_names.specs.declared.types.TabletType.{TabletType}
use Rattle.mt_names.specs.Same.{same_key}
use Rattle.mt_model.specs.declared.entries.EntryKey.{EntryKey}
use Rattle.mt_model.specs.declared.entries.EntryKey.TheVariants as about
use Rattle.mt_model.specs.declared.faults.TopologyFault.{TopologyFault}
use Rattle.mt_model.specs.declared.faults.TopologyFault.TheVariants.{NoKeyspace, Full}
use Rattle.mt_model.specs.Limits.{most_rules}
use Rattle.mt_model.specs.Part.{keys_of_name, table_rule_keys, with_place}
use Rattle.mt_model.specs.Topology.{TopologyState, KeyspaceState, Rules, has_place, keyspace_at}
use Rattle.mt_keyspace.specs.Edits.{denied_place_grows, denied_place_refusal, table_place_grows, table_place_refusal}
use Rattle.mt_keyspace.specs.Room.{has_mark_room}
use Rattle.mt_topology.specs.Edits.{lacks_rule_place, rule_place_refusal}
use Rattle.mt_topology.specs.declared.made.Made.{Made}
use Rattle.mt_topology.specs.declared.made.Made.TheVariants as together

-- how many of some rule keys lack a place, each counted as often as it is named (this profile's own)
abbrev pub lacking_rules : Rules → List RuleKey → ℕ
lacking_rules rules keys = length (filter (λ key. not (is_some (lookup (same_key key) rules))) keys)

-- there is room for the places that rule keys lack (this profile's own)
abbrev pub has_rule_room : Rules → List RuleKey → Bool
has_rule_room rules keys = not (nat_lt most_rules (length rules + lacking_rules rules keys))

-- there is room for a part, between a source and a target that are there (this profile's own)
abbrev pub has_part_room : Rules → List RuleKey → KeyspaceState → KeyspaceState → List (List ℕ) → Bool
has_part_room rules keys source target tables =
    has_rule_room rules keys && has_mark_room source.denied tables && has_mark_room target.denied tables && has_mark_room target.tables tables

-- why a part can't be reserved, if it can't (this profile's own)
abbrev pub reserve_refusal : TopologyState → List ℕ → List ℕ → List (List ℕ) → Option TopologyFault
reserve_refusal t source target tables =
    option_map_or (λ s. option_map_or (λ g.
    if has_part_room t.rules (flat_map (table_rule_keys source target) tables) s g tables then None else Some Full)
    (keyspace_at t.keyspaces target) (Some NoKeyspace)) (keyspace_at t.keyspaces source) (Some NoKeyspace)

-- a key lacks a place, so that to reserve the keys takes memory (this profile's own)
abbrev pub lacks_a_place : TopologyState → List EntryKey → Bool
lacks_a_place t keys = list_any (λ key. not (has_place t key)) keys

-- why the key of an entry gets no place, if it doesn't (this profile's own)
abbrev pub place_refusal : TopologyState → EntryKey → Option TopologyFault
place_refusal t (about.Rule key) = rule_place_refusal t.rules key
place_refusal t (about.Denied keyspace table) = denied_place_refusal t.keyspaces keyspace table
place_refusal t (about.Present keyspace table) = table_place_refusal t.keyspaces keyspace table

-- a place for it takes memory (this profile's own)
abbrev pub place_grows : TopologyState → EntryKey → Bool
place_grows t (about.Rule key) = lacks_rule_place t.rules key
place_grows t (about.Denied keyspace table) = denied_place_grows t.keyspaces keyspace table
place_grows t (about.Present keyspace table) = table_place_grows t.keyspaces keyspace table

-- why the first of some keys that gets no place doesn't, each place made before the next (this profile's own)
abbrev pub places_refusal : TopologyState → List EntryKey → Option TopologyFault
places_refusal t [] = None
places_refusal t (key ∷ keys) = option_or (place_refusal t key) (places_refusal (with_place t key) keys)

-- the rule key of a name for a type, or for all types (this profile's own)
abbrev pub name_key : Option (List ℕ) → List ℕ → Option TabletType → RuleKey
name_key keyspace table tablet_type = record { keyspace = keyspace; table = table; tablet_type = tablet_type }

-- the keys whose places were made together (this profile's own)
abbrev pub keys_made : Made → List EntryKey
keys_made (together.Name keyspace table) = map about.Rule (keys_of_name (option_copied keyspace) table.now)
keys_made (together.Rule keyspace table tablet_type) = about.Rule (name_key (option_copied keyspace) table.now tablet_type) ∷ []
keys_made (together.Denied keyspace table) = about.Denied keyspace.now table.now ∷ []
keys_made (together.Present keyspace table) = about.Present keyspace.now table.now ∷ []

-- all keys whose places were made, in their order (this profile's own)
abbrev pub all_made : List Made → List EntryKey
all_made made = flat_map keys_made made
