-- What can be asked of the controller, and what it answers. The commands are those of Vitess's MoveTables (Create,
-- SwitchTraffic, ReverseTraffic, Cancel, Complete, Show) in this profile's atomic steps; the refusals are this profile's own.
use Rattle.std.specs.Prelude.{ℕ, Bool, List, codes, Option}
use Rattle.mt_names.specs.declared.keys.RuleKey.{RuleKey}
use Rattle.mt_names.specs.declared.keys.RuleTarget.{RuleTarget}
use Rattle.mt_names.specs.declared.types.TabletType.{TabletType}
use Rattle.mt_names.specs.declared.types.TypeSet.{TypeSet}
use Rattle.mt_names.specs.Shards.{Cuts, KeyRange}
use Rattle.mt_model.specs.declared.rows.Op.{Op}
use Rattle.mt_model.specs.Rows.{Row}

-- which stream of a workflow: the one that feeds the target, or the one that feeds the source back
-- (MoveTables: the workflow and its reverse workflow)
pub data StreamName : Type 0 where
  forward : StreamName
  back : StreamName

-- an event of the core. Each is one atomic step (this profile's own; the commands are those of MoveTables)
pub data Event : Type 0 where
  write : (keyspace table : List ℕ) → Op → Event
  read : (keyspace table : List ℕ) → ℕ → TabletType → Event
  add_keyspace : List ℕ → Cuts → Event
  add_table : (keyspace table : List ℕ) → Event
  edit_rule : RuleKey → Option RuleTarget → Event
  create : (workflow source target : List ℕ) → List (List ℕ) → Event
  advance : (workflow : List ℕ) → StreamName → (shard at most : ℕ) → Event
  begin_switch : (workflow : List ℕ) → TypeSet → Event
  begin_reverse : (workflow : List ℕ) → TypeSet → Event
  step : (workflow : List ℕ) → ℕ → Event
  undo : (workflow : List ℕ) → ℕ → Event
  cancel : (workflow : List ℕ) → Event
  complete : (workflow : List ℕ) → Event
  show : (workflow : List ℕ) → Event

-- why an event is refused (this profile's own numbers and names)
pub data Refusal : Type 0 where
  memory : Refusal
  no_keyspace : Refusal
  no_table : Refusal
  denied : Refusal
  row_exists : Refusal
  no_row : Refusal
  workflow_exists : Refusal
  no_workflow : Refusal
  table_in_workflow : Refusal
  rule_conflict : RuleKey → Refusal
  target_has_table : List ℕ → Refusal
  same_keyspace : Refusal
  no_tables : Refusal
  under_way : Refusal
  nothing_under_way : Refusal
  nothing_to_switch : Refusal
  nothing_to_reverse : Refusal
  copying : Refusal
  not_level : Refusal
  past_journal : Refusal
  traffic_switched : Refusal
  not_all_switched : Refusal
  rule_owned : Refusal
  watcher_refused : ℕ → Refusal
  no_watcher : Refusal
  stale : ℕ → Refusal
  stream_stopped : Refusal
  full : Refusal
  undoing : Refusal
  too_long : Refusal
  exists : Refusal
  no_shard : Refusal
  sharded_source : Refusal

-- a refusal as it is printed, without the values that it carries (this profile's own)
abbrev pub refusal_text : Refusal → List ℕ
refusal_text memory = codes "F0 Memory"
refusal_text no_keyspace = codes "F1 NoKeyspace"
refusal_text no_table = codes "F2 NoTable"
refusal_text denied = codes "F3 Denied"
refusal_text row_exists = codes "F4 RowExists"
refusal_text no_row = codes "F5 NoRow"
refusal_text workflow_exists = codes "F6 WorkflowExists"
refusal_text no_workflow = codes "F7 NoWorkflow"
refusal_text table_in_workflow = codes "F8 TableInWorkflow"
refusal_text (rule_conflict key) = codes "F9 RuleConflict"
refusal_text (target_has_table table) = codes "F10 TargetHasTable"
refusal_text same_keyspace = codes "F11 SameKeyspace"
refusal_text no_tables = codes "F12 NoTables"
refusal_text under_way = codes "F13 UnderWay"
refusal_text nothing_under_way = codes "F14 NothingUnderWay"
refusal_text nothing_to_switch = codes "F15 NothingToSwitch"
refusal_text nothing_to_reverse = codes "F16 NothingToReverse"
refusal_text copying = codes "F17 Copying"
refusal_text not_level = codes "F18 NotLevel"
refusal_text past_journal = codes "F19 PastJournal"
refusal_text traffic_switched = codes "F20 TrafficSwitched"
refusal_text not_all_switched = codes "F21 NotAllSwitched"
refusal_text rule_owned = codes "F22 RuleOwned"
refusal_text (watcher_refused index) = codes "F23 WatcherRefused"
refusal_text no_watcher = codes "F24 NoWatcher"
refusal_text (stale current) = codes "F25 Stale"
refusal_text stream_stopped = codes "F26 Stopped"
refusal_text full = codes "F27 Full"
refusal_text undoing = codes "F28 Undoing"
refusal_text too_long = codes "F29 TooLong"
refusal_text exists = codes "F30 Exists"
refusal_text no_shard = codes "F32 NoShard"
refusal_text sharded_source = codes "F33 ShardedSource"

-- a switch or a reversal of traffic that is open: its direction, how many shards the target has, each of which is refreshed at a place
-- of its own, the switched types before it and after it, how many places of its plan stand done, and whether an undo of it was taken
-- (MoveTables: SwitchTraffic, ReverseTraffic)
pub record Way : Type 0 where
  pub back : Bool
  pub shards : ℕ
  pub before : TypeSet
  pub after : TypeSet
  pub done : ℕ
  pub undoing : Bool

-- what a stream does (MoveTables: the state of a workflow's stream; frozen is the state that a finished switch leaves)
pub data StreamState : Type 0 where
  running : StreamState
  stopped : StreamState
  frozen : StreamState

-- a stream, and the position up to which it has read its log (MoveTables: Show)
pub record Slot : Type 0 where
  pub state : StreamState
  pub position : ℕ

-- the streams of a shard of the target, as they are shown (MoveTables: Show)
pub record ShownLane : Type 0 where
  pub range : KeyRange
  pub forward : Slot
  pub copied : Bool
  pub back : Option Slot

-- what Show tells of a workflow (MoveTables: Show; the layout is this profile's own)
pub record Shown : Type 0 where
  pub workflow : List ℕ
  pub source : List ℕ
  pub target : List ℕ
  pub tables : List (List ℕ)
  pub switched : TypeSet
  pub way : Option Way
  pub lanes : List ShownLane

-- the answer to an event (this profile's own)
pub data Answer : Type 0 where
  done : Answer
  row : Row → Answer
  advanced : (events rows : ℕ) → Answer
  shown : Shown → Answer
  refused : Refusal → Answer
