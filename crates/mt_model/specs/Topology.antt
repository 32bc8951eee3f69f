-- A topology: its keyspaces with their tables and denials, and its routing rules. How a name is looked up in it.
use Rattle.std.specs.Prelude.{ℕ, Bool, true, false, cond, List, [], ◌∷◌, ◌++◌, map, filter, All, Option, None, Some, is_some, unwrap_or, if◌then◌else◌, Result, Ok, Err}
use Rattle.std.specs.List.{IsDistinct, flat_map}
use Rattle.std.specs.Option.{option_map_or, option_or}
use Rattle.std.specs.Map.{keys_of, lookup, remove_entry, set_value}
use Rattle.mt_names.specs.declared.keys.RuleKey.{RuleKey}
use Rattle.mt_names.specs.declared.keys.RuleTarget.{RuleTarget}
use Rattle.mt_names.specs.declared.types.TabletType.{TabletType}
use Rattle.mt_names.specs.Names.{same_text}
use Rattle.mt_names.specs.Same.{same_key}
use Rattle.mt_names.specs.Shards.{Cuts}
use Rattle.mt_model.specs.Order.{key_before, put_by}
use Rattle.mt_model.specs.declared.entries.Entry.{Entry}
use Rattle.mt_model.specs.declared.entries.Entry.TheVariants as entry
use Rattle.mt_model.specs.declared.entries.EntryKey.{EntryKey}
use Rattle.mt_model.specs.declared.entries.EntryKey.TheVariants as about
use Rattle.mt_model.specs.declared.faults.TopologyFault.{TopologyFault}
use Rattle.mt_model.specs.declared.faults.TopologyFault.TheVariants.{NoTable, Ambiguous}

-- what an entry is about (this profile's own)
abbrev pub key_of : Entry → EntryKey
key_of (entry.Rule key target) = about.Rule key
key_of (entry.Denied keyspace table is_denied) = about.Denied keyspace table
key_of (entry.Present keyspace table is_present) = about.Present keyspace table

-- ---- what it is

-- places for names, each with a yes or a no (this profile's own)
abbrev pub Marks : Type 0
Marks = List (List ℕ × Bool)

-- places for rule keys in the order of these, each with a rule or none ("Routing Rules": from-table and to-table)
abbrev pub Rules : Type 0
Rules = List (RuleKey × Option RuleTarget)

-- the bounds between the shards of a keyspace, the tables that it has, and those that its primaries are to refuse ("Sharding"; "How
-- traffic is switched": denied tables)
pub record KeyspaceState : Type 0 where
  pub cuts : Cuts
  pub tables : Marks
  pub denied : Marks

-- keyspaces by their names, source and target among them ("MoveTables")
abbrev pub Keyspaces : Type 0
Keyspaces = List (List ℕ × KeyspaceState)

-- routing rules and keyspaces together (this profile's own)
pub record TopologyState : Type 0 where
  pub rules : Rules
  pub keyspaces : Keyspaces

-- what a site opens with (this profile's own)
abbrev pub empty_topology : TopologyState
empty_topology = record { rules = []; keyspaces = [] }

-- no name and no key has two places (this profile's own)
pub record HasDistinctPlaces (t : TopologyState) : Type 0 where
  pub rules : IsDistinct same_key (keys_of t.rules)
  pub keyspaces : IsDistinct same_text (keys_of t.keyspaces)
  pub tables : All (λ k. IsDistinct same_text (keys_of k.1.tables)) t.keyspaces
  pub denied : All (λ k. IsDistinct same_text (keys_of k.1.denied)) t.keyspaces

-- ---- what it says at an entry

-- whether a name is marked; one without a place isn't (this profile's own)
abbrev pub is_marked : Marks → List ℕ → Bool
is_marked marks name = unwrap_or (lookup (same_text name) marks) false

-- the rule of a key ("Routing Rules")
abbrev pub rule_at : Rules → RuleKey → Option RuleTarget
rule_at rules key = unwrap_or (lookup (same_key key) rules) None

-- the keyspace of a name (this profile's own)
abbrev pub keyspace_at : Keyspaces → List ℕ → Option KeyspaceState
keyspace_at keyspaces name = lookup (same_text name) keyspaces

-- whether a keyspace has a table ("MoveTables": the source has it, then the target too)
abbrev pub is_present : Keyspaces → List ℕ → List ℕ → Bool
is_present keyspaces keyspace table = option_map_or (λ state. is_marked state.tables table) (keyspace_at keyspaces keyspace) false

-- whether a keyspace's primary is to refuse a table ("How traffic is switched")
abbrev pub is_denied : Keyspaces → List ℕ → List ℕ → Bool
is_denied keyspaces keyspace table = option_map_or (λ state. is_marked state.denied table) (keyspace_at keyspaces keyspace) false

-- the entry of a key, with the value that the topology gives it (this profile's own)
abbrev pub value_of : TopologyState → EntryKey → Entry
value_of t (about.Rule key) = entry.Rule key (rule_at t.rules key)
value_of t (about.Denied keyspace table) = entry.Denied keyspace table (is_denied t.keyspaces keyspace table)
value_of t (about.Present keyspace table) = entry.Present keyspace table (is_present t.keyspaces keyspace table)

-- ---- a write of an entry that has a place

-- the keyspaces, with one of them changed (this profile's own)
abbrev pub with_keyspace_state : (KeyspaceState → KeyspaceState) → Keyspaces → List ℕ → Keyspaces
with_keyspace_state change keyspaces name =
    option_map_or (λ state. set_value (same_text name) keyspaces (change state)) (keyspace_at keyspaces name) keyspaces

-- a table said to be there or not (this profile's own)
abbrev pub with_table_mark : List ℕ → Bool → KeyspaceState → KeyspaceState
with_table_mark table mark state = record state { tables = set_value (same_text table) state.tables mark }

-- a table denied or allowed ("How traffic is switched")
abbrev pub with_denied_mark : List ℕ → Bool → KeyspaceState → KeyspaceState
with_denied_mark table mark state = record state { denied = set_value (same_text table) state.denied mark }

-- one entry written, and no other (this profile's own)
abbrev pub with_entry : TopologyState → Entry → TopologyState
with_entry t (entry.Rule key target) = record t { rules = set_value (same_key key) t.rules target }
with_entry t (entry.Denied keyspace table mark) = record t { keyspaces = with_keyspace_state (with_denied_mark table mark) t.keyspaces keyspace }
with_entry t (entry.Present keyspace table mark) = record t { keyspaces = with_keyspace_state (with_table_mark table mark) t.keyspaces keyspace }

-- the entry has a place (this profile's own)
abbrev pub has_place : TopologyState → EntryKey → Bool
has_place t (about.Rule key) = is_some (lookup (same_key key) t.rules)
has_place t (about.Denied keyspace table) = option_map_or (λ state. is_some (lookup (same_text table) state.denied)) (keyspace_at t.keyspaces keyspace) false
has_place t (about.Present keyspace table) = option_map_or (λ state. is_some (lookup (same_text table) state.tables)) (keyspace_at t.keyspaces keyspace) false

-- ---- places made and dropped

-- a place at the end, unless the name has one (this profile's own)
abbrev pub with_mark_place : Marks → List ℕ → Marks
with_mark_place marks name = option_map_or (λ mark. marks) (lookup (same_text name) marks) (marks ++ (name, false) ∷ [])

-- a key with its rule or none, put in the order of the keys (this profile's own)
abbrev pub put_rule : Rules → RuleKey × Option RuleTarget → Rules
put_rule rules r = put_by key_before rules r

-- a place for a rule key, without a rule, unless it has one (this profile's own)
abbrev pub with_rule_place : Rules → RuleKey → Rules
with_rule_place rules key = option_map_or (λ rule. rules) (lookup (same_key key) rules) (put_rule rules (key, None))

-- without the place of the name, if that is there and unmarked (this profile's own)
abbrev pub without_mark_place : Marks → List ℕ → Marks
without_mark_place marks name = if is_marked marks name then marks else remove_entry (same_text name) marks

-- without the place of the key, if that is there and holds no rule (this profile's own)
abbrev pub without_rule_place : Rules → RuleKey → Rules
without_rule_place rules key = option_map_or (λ target. rules) (rule_at rules key) (remove_entry (same_key key) rules)

-- a place for a table in its keyspace (this profile's own)
abbrev pub with_table_place : List ℕ → KeyspaceState → KeyspaceState
with_table_place table state = record state { tables = with_mark_place state.tables table }

-- without it, if the table isn't there (this profile's own)
abbrev pub without_table_place : List ℕ → KeyspaceState → KeyspaceState
without_table_place table state = record state { tables = without_mark_place state.tables table }

-- a place for a table's denial at a keyspace (this profile's own)
abbrev pub with_denied_place : List ℕ → KeyspaceState → KeyspaceState
with_denied_place table state = record state { denied = with_mark_place state.denied table }

-- without it, if the table isn't denied (this profile's own)
abbrev pub without_denied_place : List ℕ → KeyspaceState → KeyspaceState
without_denied_place table state = record state { denied = without_mark_place state.denied table }

-- ---- keyspaces, tables and rules made by hand

-- the bounds between the shards of a keyspace; none where it isn't there ("Sharding")
abbrev pub cuts_at : Keyspaces → List ℕ → Cuts
cuts_at keyspaces keyspace = option_map_or (λ state. state.cuts) (keyspace_at keyspaces keyspace) []

-- a keyspace of some shards, without tables and denials (this profile's own)
abbrev pub new_keyspace : Cuts → KeyspaceState
new_keyspace cuts = record { cuts = cuts; tables = []; denied = [] }

-- a keyspace more (this profile's own)
abbrev pub with_keyspace : TopologyState → List ℕ → Cuts → TopologyState
with_keyspace t name cuts = record t { keyspaces = t.keyspaces ++ (name, new_keyspace cuts) ∷ [] }

-- a table more in a keyspace (this profile's own)
abbrev pub with_new_table : List ℕ → KeyspaceState → KeyspaceState
with_new_table table state = with_table_mark table true (with_table_place table state)

-- a table more in the keyspace of a name (this profile's own)
abbrev pub with_table : TopologyState → List ℕ → List ℕ → TopologyState
with_table t keyspace table = record t { keyspaces = with_keyspace_state (with_new_table table) t.keyspaces keyspace }

-- a rule that is set makes its place, one that is taken away drops it (this profile's own)
abbrev pub with_rule : Rules → RuleKey → Option RuleTarget → Rules
with_rule rules key (Some target) = set_value (same_key key) (with_rule_place rules key) (Some target)
with_rule rules key None = remove_entry (same_key key) rules

-- ---- look-up

-- the key for one type ("Routing Rules")
abbrev pub for_type : RuleKey → TabletType → RuleKey
for_type key tablet_type = record key { tablet_type = Some tablet_type }

-- the key for all types ("Routing Rules")
abbrev pub for_all_types : RuleKey → RuleKey
for_all_types key = record key { tablet_type = None }

-- the rule that applies to a name: that for the type, else that for all types ("Routing Rules")
abbrev pub rule_for : Rules → RuleKey → TabletType → Option RuleTarget
rule_for rules key tablet_type = option_or (rule_at rules (for_type key tablet_type)) (rule_at rules (for_all_types key))

-- the keyspaces that have a table (this profile's own)
abbrev pub holders : Keyspaces → List ℕ → List (List ℕ)
holders keyspaces table = map (λ k. k.0) (filter (λ k. is_marked k.1.tables table) keyspaces)

-- the one keyspace that has it ("Routing Rules": an unqualified name is looked up among the keyspaces)
abbrev pub sole_holder : List (List ℕ) → List ℕ → Result RuleTarget TopologyFault
sole_holder [] table = Err NoTable
sole_holder (keyspace ∷ []) table = Ok (record { keyspace = keyspace; table = table })
sole_holder (first ∷ second ∷ others) table = Err Ambiguous

-- a name without a rule: a qualified one is itself, another the table of the one keyspace that has it ("Routing Rules")
abbrev pub unruled : Keyspaces → Option (List ℕ) → List ℕ → Result RuleTarget TopologyFault
unruled keyspaces (Some keyspace) table = Ok (record { keyspace = keyspace; table = table })
unruled keyspaces None table = sole_holder (holders keyspaces table) table

-- where a name leads for a type ("Routing Rules"). That a rule's target isn't looked up again is this profile's own
abbrev pub resolution : TopologyState → RuleKey → TabletType → Result RuleTarget TopologyFault
resolution t key tablet_type = option_map_or Ok (rule_for t.rules key tablet_type) (unruled t.keyspaces key.keyspace key.table)

-- ---- what routers follow

-- whether an entry leads a name somewhere: a rule that stands, or a table that is there ("Routing Rules")
abbrev pub is_routed : Entry → Bool
is_routed (entry.Rule key target) = is_some target
is_routed (entry.Denied keyspace table mark) = false
is_routed (entry.Present keyspace table mark) = mark

-- the rules that stand, and the tables that are there ("Routing Rules")
abbrev pub routes_of : TopologyState → List Entry
routes_of t =
    flat_map (λ r. cond (is_some r.1) (entry.Rule r.0 r.1 ∷ []) []) t.rules
    ++ flat_map (λ k. flat_map (λ mark. cond mark.1 (entry.Present k.0 mark.0 true ∷ []) []) k.1.tables) t.keyspaces
