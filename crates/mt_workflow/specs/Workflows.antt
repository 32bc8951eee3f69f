-- A workflow: what it keeps, how the definitions know it, and what its part is to say.
use Rattle.std.specs.Prelude.{◌≡◌, Bool, true, false, ◌||◌, ◌≢◌, ℕ, zero, suc, ◌≤◌, List, [], ◌∷◌, map, flat_map, length, AllPairs, if◌then◌else◌, Option, None, Some, is_some, option_map, option_and_then, slice_get}
use Rattle.std.specs.Option.{option_map_or}
use Rattle.mt_names.specs.declared.keys.RuleKey.{RuleKey}
use Rattle.mt_names.specs.declared.types.TypeSet.{TypeSet}
use Rattle.mt_names.specs.Names.{same_text}
use Rattle.mt_names.specs.Shards.{AreCuts, Cuts, KeyRange, cuts_between, ranges_of}
use Rattle.mt_names.specs.Tables.{most_tables}
use Rattle.mt_names.specs.Types.{no_types}
use Rattle.mt_model.specs.declared.entries.Entry.{Entry}
use Rattle.mt_model.specs.declared.entries.EntryKey.{EntryKey}
use Rattle.mt_model.specs.Part.{part_keys, table_rule_keys}
use Rattle.mt_model.specs.Topology.{Rules, TopologyState, cuts_at, rule_at, value_of}
use Rattle.mt_plain.specs.Events.{StreamName, StreamState, forward, back, running, Way}
use Rattle.mt_plain.specs.Plain.{Live, has_part, not_begun}
use Rattle.mt_plain.specs.Serve.{serve}
use Rattle.mt_stream.specs.Streams.{StreamValue}
use Rattle.mt_workflow.specs.declared.way.Slot as code
use Rattle.mt_workflow.specs.declared.way.Slot.TheVariants as slot
use Rattle.mt_workflow.specs.declared.way.Way as code_way

-- what goes on for one shard of its target: the range of the keys in that shard, the stream from the source to it, and the one from it
-- to the source (MoveTables: a stream for each shard of the target)
pub record LaneState : Type 0 where
  pub range : KeyRange
  pub forward : Option StreamValue
  pub back : Option StreamValue

-- what a workflow keeps: its name, its sides, its tables in the order named, the types whose traffic is switched, the way that is
-- open, the rule that each rule key of its part had before Create, and a lane for each shard of its target, in their order (MoveTables)
pub record WorkflowState : Type 0 where
  pub name : List ℕ
  pub source : List ℕ
  pub target : List ℕ
  pub tables : List (List ℕ)
  pub switched : TypeSet
  pub way : Option Way
  pub kept : Rules
  pub lanes : List LaneState

-- the ranges of some lanes, and the bounds between them ("Sharding")
abbrev pub ranges_in : List LaneState → List KeyRange
ranges_in lanes = map (λ lane. lane.range) lanes

abbrev pub cuts_in : List LaneState → Cuts
cuts_in lanes = cuts_between (ranges_in lanes)

-- what holds of every workflow: no table is named twice, there are at most 16, the sides are two, and its lanes have the ranges of
-- the shards of a keyspace, from one to eight (MoveTables)
pub record IsWorkflow (source target : List ℕ) (tables : List (List ℕ)) (ranges : List KeyRange) : Type 0 where
  pub distinct : AllPairs ◌≢◌ tables
  pub few : length tables ≤ most_tables
  pub apart : source ≢ target
  pub covers : ranges_of (cuts_between ranges) ≡ ranges
  pub cuts : AreCuts (cuts_between ranges)

-- ---- the code's words

-- which of its streams (MoveTables: the workflow and its reverse workflow)
abbrev pub stream_name : code.Slot → StreamName
stream_name slot.Forward = forward
stream_name slot.Back = back

-- the way that is open, in the words of the definitions (MoveTables: SwitchTraffic, ReverseTraffic)
abbrev pub way_from : code_way.Way → Way
way_from way = record { back = way.back; shards = way.shards; before = way.before; after = way.after; done = way.done; undoing = way.undoing }

-- ---- the workflow as the definitions know it

-- the workflow as the definitions know it; what they read of it here is its name, sides, tables, shards, types and way (MoveTables)
abbrev pub live_of : WorkflowState → Live
live_of w = record {
  name = w.name;
  source = w.source;
  target = w.target;
  tables = w.tables;
  cuts = cuts_in w.lanes;
  switched = w.switched;
  way = w.way;
  lanes = [];
}

-- some rules as a topology without keyspaces (this profile's own)
abbrev pub rules_only : Rules → TopologyState
rules_only kept = record { rules = kept; keyspaces = [] }

-- the keys of its part, table by table (MoveTables)
abbrev pub keys_of_part : WorkflowState → List EntryKey
keys_of_part w = part_keys w.source w.target w.tables

-- what an entry of its part is to say once some types are switched (How traffic is switched)
abbrev pub wanted : WorkflowState → TypeSet → EntryKey → Entry
wanted w types key = serve (rules_only w.kept) (live_of w) types key

-- whether a rule key is to say what stood there before Create: that of the name at the source for all types, as long as the source
-- is the owner (How traffic is switched)
abbrev pub is_as_before : WorkflowState → TypeSet → RuleKey → Bool
is_as_before w types key = if types.primary || is_some key.tablet_type then false else option_map_or (same_text w.source) key.keyspace false

-- ---- what is kept of the rules before Create

-- the rule keys of some tables that move, table by table (MoveTables: the routing rules)
abbrev pub keys_of_rules : (source target : List ℕ) → List (List ℕ) → List RuleKey
keys_of_rules source target tables = flat_map (table_rule_keys source target) tables

-- each of them with the rule that stands there (Routing Rules)
abbrev pub kept_of : Rules → (source target : List ℕ) → List (List ℕ) → Rules
kept_of rules source target tables = map (λ key. (key, rule_at rules key)) (keys_of_rules source target tables)

-- what a workflow keeps is what a topology says at each entry of its part (this profile's own)
abbrev pub IsKept : TopologyState → WorkflowState → Type 0
IsKept u w = (key : EntryKey) → has_part (live_of w) key ≡ true → value_of (rules_only w.kept) key ≡ value_of u key

-- ---- streams

-- the forward stream or the back stream of a lane, where there is one
abbrev pub lane_slot : StreamName → LaneState → Option StreamValue
lane_slot forward lane = lane.forward
lane_slot back lane = lane.back

-- the lane with another stream there, or with none (this profile's own)
abbrev pub with_lane_slot : StreamName → Option StreamValue → LaneState → LaneState
with_lane_slot forward stream lane = record lane { forward = stream }
with_lane_slot back stream lane = record lane { back = stream }

-- lanes of which that of a shard changes; where there is none, none does (this profile's own)
abbrev pub change_lane : (shard : ℕ) → (LaneState → LaneState) → List LaneState → List LaneState
change_lane shard change [] = []
change_lane zero change (lane ∷ lanes) = change lane ∷ lanes
change_lane (suc shard) change (lane ∷ lanes) = lane ∷ change_lane shard change lanes

-- the forward stream or the back stream of a shard, where there is one (MoveTables: Show)
abbrev pub slot_of : WorkflowState → (shard : ℕ) → StreamName → Option StreamValue
slot_of w shard name = option_and_then (lane_slot name) (slice_get w.lanes shard)

-- the workflow with another stream there, or with none (this profile's own)
abbrev pub with_slot : WorkflowState → (shard : ℕ) → StreamName → Option StreamValue → WorkflowState
with_slot w shard name stream = record w { lanes = change_lane shard (with_lane_slot name stream) w.lanes }

-- a stream that does something else (MoveTables: the state of a workflow's stream)
abbrev pub in_state : StreamState → StreamValue → StreamValue
in_state state s = record s { state = state }

-- a lane whose forward stream or back stream, where there is one, does something else
abbrev pub lane_in_state : StreamName → StreamState → LaneState → LaneState
lane_in_state name state lane = with_lane_slot name (option_map (in_state state) (lane_slot name lane)) lane

-- the workflow of which each forward stream or each back stream does something else: that of every shard (MoveTables)
abbrev pub all_in_state : WorkflowState → StreamName → StreamState → WorkflowState
all_in_state w name state = record w { lanes = map (lane_in_state name state) w.lanes }

-- the stream that writes at a side: the back stream at the source, else the forward stream (MoveTables)
abbrev pub feeding : WorkflowState → (side : List ℕ) → StreamName
feeding w side = if same_text w.source side then back else forward

-- ---- a new workflow

-- a stream of a new workflow: it has the keys in a range, has copied nothing, runs, and reads the source's log from a position on
-- (MoveTables: the copy phase)
abbrev pub new_stream : List (List ℕ) → KeyRange → (position : ℕ) → StreamValue
new_stream tables range position = record { tables = tables; range = range; copied = not_begun; position = position; state = running }

-- a lane of a new workflow: it has a forward stream alone (MoveTables: Create)
abbrev pub new_lane : List (List ℕ) → (position : ℕ) → KeyRange → LaneState
new_lane tables position range = record { range = range; forward = Some (new_stream tables range position); back = None }

-- a new workflow of distinct tables: nothing is switched, no way is open, it keeps the rules that stand, and has a lane for each shard
-- that its target has in the topology (MoveTables: Create)
abbrev pub new_workflow : TopologyState → (name source target : List ℕ) → List (List ℕ) → (position : ℕ) → WorkflowState
new_workflow t name source target tables position = record {
  name = name;
  source = source;
  target = target;
  tables = tables;
  switched = no_types;
  way = None;
  kept = kept_of t.rules source target tables;
  lanes = map (new_lane tables position) (ranges_of (cuts_at t.keyspaces target));
}
