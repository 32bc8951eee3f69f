-- The plain state: the topology as if no workflow were live, the client tables as one list of acknowledged writes, the live
-- workflows, and what the logs list (this profile's own; topology, workflows and streams are Vitess's).
use Rattle.std.specs.Prelude.{ℕ, ◌+◌, ◌-◌, Bool, true, not, ◌&&◌, ◌||◌, ◌==◌, nat_le, nat_lt, max, min, if◌then◌else◌, List, [], ◌∷◌, filter, find, flat_map, Option, unwrap_or, is_some}
use Rattle.std.specs.List.{list_any}
use Rattle.std.specs.Map.{lookup}
use Rattle.std.specs.Option.{option_map_or}
use Rattle.mt_names.specs.declared.keys.RuleKey.{RuleKey}
use Rattle.mt_names.specs.declared.keys.RuleTarget.{RuleTarget}
use Rattle.mt_names.specs.declared.types.TypeSet.{TypeSet}
use Rattle.mt_names.specs.Names.{same_text}
use Rattle.mt_names.specs.Same.{same_target}
use Rattle.mt_names.specs.Shards.{Cuts, shard_count, shard_of}
use Rattle.mt_model.specs.declared.entries.EntryKey.{EntryKey}
use Rattle.mt_model.specs.declared.entries.EntryKey.TheVariants as about
use Rattle.mt_model.specs.declared.entries.Scope.{Scope}
use Rattle.mt_model.specs.Part.{table_rule_keys}
use Rattle.mt_model.specs.Rows.{Row}
use Rattle.mt_model.specs.Topology.{TopologyState, cuts_at, empty_topology, keyspace_at}
use Rattle.mt_plain.specs.Events.{Way}

-- an acknowledged write: the number of its table, the key, and the row that it left (this profile's own)
pub record Write : Type 0 where
  pub table : ℕ
  pub key : ℕ
  pub after : Row

-- an entry of the log of a primary, which is that of a shard of a keyspace, without its rows (this profile's own; in Vitess it is a row
-- event of the binary log)
pub record LogEntry : Type 0 where
  pub keyspace : List ℕ
  pub shard : ℕ
  pub table : List ℕ
  pub key : ℕ

-- how far a copy has come: nothing yet, up to a row, or to its end (MoveTables: the copy phase, in primary key order)
pub data Copied : Type 0 where
  not_begun : Copied
  up_to : (table : List ℕ) → ℕ → Copied
  ended : Copied

-- what goes on for one shard of a workflow's target: how many of the acknowledged writes to its tables with a key in that shard have
-- reached the side that is not the owner, how far the copy has come there, and the positions of the forward stream, the back stream, and
-- the one that the open way has made (MoveTables: a stream for each shard of the target)
pub record Lane : Type 0 where
  pub shard : ℕ
  pub fed : ℕ
  pub copied : Copied
  pub forward_at : ℕ
  pub back_at : ℕ
  pub fresh_at : ℕ

-- a live workflow: its sides and tables, the bounds between the shards of its target, the types whose traffic it has switched, the way
-- that is open, and a lane for each shard of the target (MoveTables)
pub record Live : Type 0 where
  pub name : List ℕ
  pub source : List ℕ
  pub target : List ℕ
  pub tables : List (List ℕ)
  pub cuts : Cuts
  pub switched : TypeSet
  pub way : Option Way
  pub lanes : List Lane

-- the plain state (this profile's own): the topology as if no workflow were live; the number that each table got when it was
-- made, and how many were ever made; all acknowledged writes, and the entries of all logs, each in their order; the live
-- workflows; whom each watcher keeps up to date; how many ways were begun, and how many entries the journal has
pub record Plain : Type 0 where
  pub topology : TopologyState
  pub numbers : List (RuleTarget × ℕ)
  pub made : ℕ
  pub writes : List Write
  pub log : List LogEntry
  pub lives : List Live
  pub scopes : List Scope
  pub ways : ℕ
  pub journal : ℕ

-- no keyspace, no table, no write, no workflow; and the watchers of these scopes (this profile's own)
abbrev pub opening : List Scope → Plain
opening scopes = record { topology = empty_topology; numbers = []; made = 0; writes = []; log = []; lives = []; scopes = scopes; ways = 0; journal = 0 }

-- a table of a keyspace (Routing Rules: the to-table)
abbrev pub in_keyspace : (keyspace table : List ℕ) → RuleTarget
in_keyspace keyspace table = record { keyspace = keyspace; table = table }

-- whether there is a keyspace of that name (this profile's own)
abbrev pub has_keyspace : Plain → List ℕ → Bool
has_keyspace p keyspace = is_some (keyspace_at p.topology.keyspaces keyspace)

-- the bounds between the shards of a keyspace, and whether it has several ("Sharding")
abbrev pub cuts_of : Plain → List ℕ → Cuts
cuts_of p keyspace = cuts_at p.topology.keyspaces keyspace

abbrev pub is_sharded : Plain → List ℕ → Bool
is_sharded p keyspace = nat_lt 1 (shard_count (cuts_of p keyspace))

-- the place of the shard of a keyspace in which a key stands ("Sharding")
abbrev pub shard_at : Plain → (keyspace : List ℕ) → (key : ℕ) → ℕ
shard_at p keyspace key = shard_of (cuts_of p keyspace) key

-- the number of a table; where there is none, one that no table has yet (this profile's own)
abbrev pub number_of : Plain → (keyspace table : List ℕ) → ℕ
number_of p keyspace table = unwrap_or (lookup (same_target (in_keyspace keyspace table)) p.numbers) p.made

-- ---- the live workflows

-- the live workflow of a name (MoveTables: the workflow's name)
abbrev pub live_at : Plain → List ℕ → Option Live
live_at p name = find (λ w. same_text w.name name) p.lives

-- whether a name stands among some (this profile's own)
abbrev pub among : List (List ℕ) → List ℕ → Bool
among names name = list_any (λ n. same_text n name) names

-- names as a set, in the order first named: each of them once (this profile's own)
abbrev pub each_once : List (List ℕ) → List (List ℕ)
each_once [] = []
each_once (name ∷ names) = name ∷ filter (λ n. not (same_text n name)) (each_once names)

-- whether a workflow moves a table of that name (MoveTables: the tables)
abbrev pub moves : Live → List ℕ → Bool
moves w table = among w.tables table

-- the live workflow that moves a table of that name; there is one at most (this profile's own)
abbrev pub mover : Plain → List ℕ → Option Live
mover p table = find (λ w. moves w table) p.lives

-- whether a keyspace is one of a workflow's sides (MoveTables: source and target keyspace)
abbrev pub is_side : Live → List ℕ → Bool
is_side w keyspace = same_text w.source keyspace || same_text w.target keyspace

-- the side that owns the moved tables once these types are switched (MoveTables: writes go to the primary)
abbrev pub owner_by : Live → TypeSet → List ℕ
owner_by w types = if types.primary then w.target else w.source

-- the owner (MoveTables)
abbrev pub owner : Live → List ℕ
owner w = owner_by w w.switched

-- the switched types before the way that is open, or now where none is (MoveTables)
abbrev pub before_way : Live → TypeSet
before_way w = option_map_or (λ way. way.before) w.way w.switched

-- ---- the lanes of a workflow

-- whether a key stands in the shard of a lane ("Sharding")
abbrev pub in_lane : Live → Lane → (key : ℕ) → Bool
in_lane w lane key = shard_of w.cuts key == lane.shard

-- the lane of a shard, by its place in the target's list
abbrev pub lane_at : Live → (shard : ℕ) → Option Lane
lane_at w shard = find (λ lane. lane.shard == shard) w.lanes

-- the lane in whose shard a key stands
abbrev pub lane_of : Live → (key : ℕ) → Option Lane
lane_of w key = lane_at w (shard_of w.cuts key)

-- ---- the part of a workflow

-- the twelve rule keys of a table that moves: its name alone, at the source, at the target, each for all types and for each
-- (MoveTables: the routing rules)
abbrev pub twelve_keys : (source target table : List ℕ) → List RuleKey
twelve_keys = table_rule_keys

-- the rule keys of a workflow's part (MoveTables: the routing rules of its tables)
abbrev pub rule_keys : Live → List RuleKey
rule_keys w = flat_map (twelve_keys w.source w.target) w.tables

-- whether an entry lies in a workflow's part: the twelve keys, the denial at either side and the presence at the target of
-- each of its tables (this profile's own)
abbrev pub has_part : Live → EntryKey → Bool
has_part w (about.Rule key) = moves w key.table && option_map_or (is_side w) key.keyspace true
has_part w (about.Denied keyspace table) = moves w table && is_side w keyspace
has_part w (about.Present keyspace table) = moves w table && same_text w.target keyspace

-- the live workflow in whose part an entry lies; there is one at most (this profile's own)
abbrev pub part_owner : Plain → EntryKey → Option Live
part_owner p key = find (λ w. has_part w key) p.lives

-- ---- the steps of a way (How traffic is switched; the numbers are this profile's own)

-- the reads of the changed types go to the side that will serve them
abbrev pub switch_reads : ℕ
switch_reads = 0

-- the topology denies the tables at the owner
abbrev pub deny_source : ℕ
deny_source = 1

-- the owner's primary takes that over
abbrev pub refresh_source : ℕ
refresh_source = 2

-- a test that nothing is left to be fed
abbrev pub catch_up : ℕ
catch_up = 3

-- the feeding stream stops
abbrev pub stop_feeding : ℕ
stop_feeding = 4

-- a stream the other way is made
abbrev pub create_back : ℕ
create_back = 5

-- the journal: the other side owns the tables from here
abbrev pub write_journal : ℕ
write_journal = 6

-- the topology allows the tables at the new owner
abbrev pub allow_target : ℕ
allow_target = 7

-- the new owner's primary takes that over
abbrev pub refresh_target : ℕ
refresh_target = 8

-- the plain rules lead to the new owner
abbrev pub switch_write_rules : ℕ
switch_write_rules = 9

-- the stream the other way starts
abbrev pub start_back : ℕ
start_back = 10

-- the old feeding stream is frozen, or ends
abbrev pub freeze_old : ℕ
freeze_old = 11

-- whether one has what the other lacks
abbrev pub differ : Bool → Bool → Bool
differ a b = if a then not b else b

-- the types that a way changes (SwitchTraffic, ReverseTraffic: the tablet types)
abbrev pub changed_types : Way → TypeSet
changed_types way = record { primary = differ way.before.primary way.after.primary; replica = differ way.before.replica way.after.replica; rdonly = differ way.before.rdonly way.after.rdonly }

-- whether a way changes writes (How traffic is switched: writes)
abbrev pub changes_primary : Way → Bool
changes_primary way = (changed_types way).primary

-- the first step of a way, and the one behind its last: steps 0 to 11, 1 to 11 without reads, 0 alone without primary
-- (How traffic is switched: reads first, then writes)
abbrev pub first_step : Way → ℕ
first_step way = if (changed_types way).replica || (changed_types way).rdonly then switch_reads else deny_source

-- the number behind its last step
abbrev pub behind_last : Way → ℕ
behind_last way = if changes_primary way then 12 else 1

-- the refresh of the target's primaries, which are those of its shards: each of them is refreshed at a place of its own, behind the
-- journal on a way forward, and before it on a way back (How traffic is switched)
abbrev pub repeated_step : Way → ℕ
repeated_step way = if way.back then refresh_source else refresh_target

-- the plan of a way is a row of places: each step has one, in the order of the steps' numbers, and the refresh of the target has one for
-- each shard, in their order. The first place of a step (this profile's own)
abbrev pub place_of_step : Way → (step : ℕ) → ℕ
place_of_step way step = if nat_le step (repeated_step way) then step else step + (way.shards - 1)

-- the step at a place (this profile's own)
abbrev pub step_at_place : Way → (place : ℕ) → ℕ
step_at_place way place = if nat_le place (repeated_step way) then place else max (repeated_step way) (place - (way.shards - 1))

-- the place of a refresh of a shard of its side: the source has one shard, the target has those of the plan (this profile's own)
abbrev pub place_of_refresh : Way → (step shard : ℕ) → ℕ
place_of_refresh way step shard = place_of_step way step + (if step == repeated_step way then min shard (way.shards - 1) else 0)

-- the last place of a step; once that stands done, the step does, for each shard (this profile's own)
abbrev pub last_place_of : Way → (step : ℕ) → ℕ
last_place_of way step = place_of_refresh way step (way.shards - 1)

-- the shard that a place is for: the first one, but for the later places of the refresh of the target (this profile's own)
abbrev pub shard_at_place : Way → (place : ℕ) → ℕ
shard_at_place way place = if step_at_place way place == repeated_step way then place - repeated_step way else 0

-- the place that is next, and the step there (this profile's own)
abbrev pub next_place : Way → ℕ
next_place way = first_step way + way.done

abbrev pub next_step : Way → ℕ
next_step way = step_at_place way (next_place way)

-- the step at the place that was done last, where one stands done (this profile's own)
abbrev pub last_step : Way → ℕ
last_step way = step_at_place way (next_place way - 1)

-- a step stands done where all its places are among the first `done` of the way (this profile's own)
abbrev pub stands_done : Way → ℕ → Bool
stands_done way step = nat_le (first_step way) step && nat_lt step (next_step way)

-- whether the refresh of a shard of its side stands done (this profile's own)
abbrev pub stands_done_at : Way → (step shard : ℕ) → Bool
stands_done_at way step shard = nat_lt (place_of_refresh way step shard) (next_place way)
