-- What the topology serves, and what the primaries refuse: the part of each live workflow lies over the topology as if none
-- were live, and follows one table of twelve keys read with a set of types.
use Rattle.std.specs.Prelude.{◌≡◌, ℕ, ◌<◌, Bool, true, false, not, ◌&&◌, if◌then◌else◌, List, [], ◌++◌, fold, map, Option, None, Some, is_some}
use Rattle.std.specs.List.{list_any}
use Rattle.std.specs.Map.{remove_entry}
use Rattle.std.specs.Option.{option_map_or}
use Rattle.mt_names.specs.declared.keys.RuleKey.{RuleKey}
use Rattle.mt_names.specs.declared.keys.RuleTarget.{RuleTarget}
use Rattle.mt_names.specs.declared.types.TabletType.{TabletType}
use Rattle.mt_names.specs.declared.types.TabletType.TheVariants.{Primary}
use Rattle.mt_names.specs.declared.types.TypeSet.{TypeSet}
use Rattle.mt_names.specs.Names.{same_text}
use Rattle.mt_names.specs.Same.{same_key}
use Rattle.mt_names.specs.Shards.{shard_count}
use Rattle.mt_names.specs.Types.{has}
use Rattle.mt_model.specs.declared.entries.Entry.{Entry}
use Rattle.mt_model.specs.declared.entries.Entry.TheVariants as entry
use Rattle.mt_model.specs.declared.entries.EntryKey.{EntryKey}
use Rattle.mt_model.specs.declared.entries.EntryKey.TheVariants as about
use Rattle.mt_model.specs.Topology.{HasDistinctPlaces, KeyspaceState, Keyspaces, Marks, TopologyState, cuts_at, is_present, keyspace_at, rule_at, value_of, with_keyspace_state}
use Rattle.mt_plain.specs.Plain.{Live, Plain, allow_target, before_way, cuts_of, deny_source, has_keyspace, in_keyspace, is_side, mover, moves, owner_by, part_owner, refresh_source, refresh_target, rule_keys, stands_done, stands_done_at, switch_reads, switch_write_rules}

-- ---- the table: what a part serves once some types are switched

-- the plain keys: a name leads to the owner; at the target it leads back, or needs no rule; at the source it keeps the rule that
-- stood before Create as long as the source is the owner (MoveTables, Routing Rules)
abbrev pub serve_plain : TopologyState → Live → TypeSet → RuleKey → Option (List ℕ) → Option RuleTarget
serve_plain u w types key None = Some (in_keyspace (owner_by w types) key.table)
serve_plain u w types key (Some keyspace) =
    if same_text w.source keyspace then (if types.primary then Some (in_keyspace w.target key.table) else rule_at u.rules key)
    else if types.primary then None else Some (in_keyspace w.source key.table)

-- the keys of a type: none for the primary, else to the side that serves these reads (How traffic is switched: reads)
abbrev pub serve_rule : TopologyState → Live → TypeSet → RuleKey → Option TabletType → Option RuleTarget
serve_rule u w types key None = serve_plain u w types key key.keyspace
serve_rule u w types key (Some Primary) = None
serve_rule u w types key (Some read_type) = Some (in_keyspace (if has types read_type then w.target else w.source) key.table)

-- the side that is not the owner is denied (How traffic is switched: denied tables)
abbrev pub is_denied_at : Live → TypeSet → (keyspace : List ℕ) → Bool
is_denied_at w types keyspace = if same_text w.source keyspace then types.primary else not types.primary

-- an entry of a part, once some types are switched (MoveTables)
abbrev pub serve : TopologyState → Live → TypeSet → EntryKey → Entry
serve u w types (about.Rule key) = entry.Rule key (serve_rule u w types key key.tablet_type)
serve u w types (about.Denied keyspace table) = entry.Denied keyspace table (is_denied_at w types keyspace)
serve u w types (about.Present keyspace table) = entry.Present keyspace table true

-- ---- at rest and on a way

-- the types to read the table with at an entry that changes with a step: those after the way where that step stands done, else
-- those before it; and the switched ones where no way is open (How traffic is switched)
abbrev pub types_by : Live → ℕ → TypeSet
types_by w step = option_map_or (λ way. if stands_done way step then way.after else way.before) w.way w.switched

-- whether a keyspace is the one that owned the tables before the way (MoveTables)
abbrev pub owned_before : Live → List ℕ → Bool
owned_before w keyspace = same_text (owner_by w (before_way w)) keyspace

-- the step with which a rule of the part changes (How traffic is switched)
abbrev pub rule_step : Option TabletType → ℕ
rule_step None = switch_write_rules
rule_step (Some Primary) = switch_write_rules
rule_step (Some read_type) = switch_reads

-- the step with which an entry of the part changes: the old owner is denied before the new one is allowed
-- (How traffic is switched)
abbrev pub step_of_entry : Live → EntryKey → ℕ
step_of_entry w (about.Rule key) = rule_step key.tablet_type
step_of_entry w (about.Denied keyspace table) = if owned_before w keyspace then deny_source else allow_target
step_of_entry w (about.Present keyspace table) = switch_reads

-- an entry of the part of a live workflow (MoveTables)
abbrev pub served_by : TopologyState → Live → EntryKey → Entry
served_by u w key = serve u w (types_by w (step_of_entry w key)) key

-- what the topology says at an entry: in the part of a live workflow what that serves, elsewhere what is there as if none were
-- live (MoveTables, Routing Rules)
abbrev pub served_entry : Plain → EntryKey → Entry
served_entry p key = option_map_or (λ w. served_by p.topology w key) (part_owner p key) (value_of p.topology key)

-- a topology says at each entry what a state serves there (this profile's own)
abbrev pub Serves : Plain → TopologyState → Type 0
Serves p t = (key : EntryKey) → value_of t key ≡ served_entry p key

-- a topology is one that a state serves: it has the keyspaces of the state with their shards, says at each entry what is served there, and
-- gives nothing two places; in which order its places stand, and which of them hold nothing, is left open (this profile's own)
pub record IsServed (p : Plain) (t : TopologyState) : Type 0 where
  pub keyspaces : (name : List ℕ) → is_some (keyspace_at t.keyspaces name) ≡ has_keyspace p name
  pub shards : (name : List ℕ) → cuts_at t.keyspaces name ≡ cuts_of p name
  pub entries : Serves p t
  pub places : HasDistinctPlaces t

-- the step with which the own list of a side's primary changes: a refresh, a step behind the topology's denial (How traffic is switched)
abbrev pub step_of_list : Live → (keyspace : List ℕ) → ℕ
step_of_list w keyspace = if owned_before w keyspace then refresh_source else refresh_target

-- whether the own list of a keyspace's primary has the moved tables, once some types are switched (How traffic is switched)
abbrev pub is_listed_at : Live → TypeSet → (keyspace : List ℕ) → Bool
is_listed_at w types keyspace = is_side w keyspace && is_denied_at w types keyspace

-- the types to read the table with at the own list of a shard's primary: those after the way where its own refresh stands done, else
-- those before it; and the switched ones where no way is open (How traffic is switched)
abbrev pub list_types : Live → (keyspace : List ℕ) → (shard : ℕ) → TypeSet
list_types w keyspace shard =
    option_map_or (λ way. if stands_done_at way (step_of_list w keyspace) shard then way.after else way.before) w.way w.switched

-- the same at rest and on a way
abbrev pub refuses_by : Live → (keyspace : List ℕ) → (shard : ℕ) → Bool
refuses_by w keyspace shard = is_listed_at w (list_types w keyspace shard) keyspace

-- whether the own list of a shard's primary refuses a table. It follows the topology's denials with a refresh, a step later; at rest it
-- is the denial, and no list has a table that no live workflow moves (How traffic is switched: the primary reloads its denied tables)
abbrev pub refuses : Plain → (keyspace : List ℕ) → (shard : ℕ) → (table : List ℕ) → Bool
refuses p keyspace shard table = option_map_or (λ w. refuses_by w keyspace shard) (mover p table) false

-- whether a keyspace has a table: one that was made there, or that a live workflow moves there (MoveTables)
abbrev pub has_table : Plain → (keyspace table : List ℕ) → Bool
has_table p keyspace table =
    if list_any (λ w. moves w table && same_text w.target keyspace) p.lives then true else is_present p.topology.keyspaces keyspace table

-- a table is writable where the primary of some shard of the keyspace has it and its own list doesn't refuse it (MoveTables)
abbrev pub IsWritable : Plain → (keyspace table : List ℕ) → Type 0
IsWritable p keyspace table =
    (has_table p keyspace table ≡ true)
    × ((shard : ℕ) × (shard < shard_count (cuts_of p keyspace)) × (refuses p keyspace shard table ≡ false))

-- ---- the topology that is served, as a list of its entries

-- the target of a rule entry, and the yes or no of another one
abbrev pub rule_in : Entry → Option RuleTarget
rule_in (entry.Rule key target) = target
rule_in other = None

-- the yes or no of another entry
abbrev pub mark_in : Entry → Bool
mark_in (entry.Rule key target) = false
mark_in (entry.Denied keyspace table mark) = mark
mark_in (entry.Present keyspace table mark) = mark

-- the rules of a part lie over the others (Routing Rules)
abbrev pub rules_over : TopologyState → Live → List (RuleKey × Option RuleTarget)
rules_over u w =
    map (λ key. (key, rule_in (served_by u w (about.Rule key)))) (rule_keys w)
    ++ fold (λ rules key. remove_entry (same_key key) rules) u.rules (rule_keys w)

-- the denials of a workflow's tables at a keyspace, and the tables that it moves there
abbrev pub denials_over : TopologyState → Live → List ℕ → Marks
denials_over u w keyspace = map (λ table. (table, mark_in (served_by u w (about.Denied keyspace table)))) w.tables

-- a keyspace with what a workflow puts there
abbrev pub with_part_at : TopologyState → Live → (keyspace : List ℕ) → Marks → KeyspaceState → KeyspaceState
with_part_at u w keyspace moved state = record state { tables = moved ++ state.tables; denied = denials_over u w keyspace ++ state.denied }

-- the keyspaces with both sides of a workflow so
abbrev pub keyspaces_over : TopologyState → Live → Keyspaces
keyspaces_over u w =
    with_keyspace_state (with_part_at u w w.target (map (λ table. (table, true)) w.tables))
    (with_keyspace_state (with_part_at u w w.source []) u.keyspaces w.source) w.target

-- a live workflow lies over a topology; Cancel takes it away (MoveTables)
abbrev pub with_workflow : TopologyState → Live → TopologyState
with_workflow u w = record { rules = rules_over u w; keyspaces = keyspaces_over u w }

-- the topology that is served (MoveTables, Routing Rules)
abbrev pub served : Plain → TopologyState
served p = fold with_workflow p.topology p.lives
