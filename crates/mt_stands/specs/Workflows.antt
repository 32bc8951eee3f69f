-- What an event on a workflow does to a base: it is created, advanced, cancelled and shown (MoveTables: Create, Cancel, Show). All of this
-- page is this profile's own, unless a comment names a page of Vitess's documentation.
use Rattle.std.specs.Prelude.{◌≡◌, ℕ, Bool, true, false, not, ◌==◌, ◌||◌, nat_le, nat_lt, List, [], ◌∷◌, ◌++◌, fold, length, Option, None, Some, is_some, unwrap_or, option_map, map, Result, Ok, Err}
use Rattle.std.specs.List.{list_any}
use Rattle.std.specs.Map.{remove_entry, set_value}
use Rattle.std.specs.Option.{option_map_or}
use Rattle.mt_names.specs.Names.{same_text}
use Rattle.mt_names.specs.Shards.{shard_count}
use Rattle.mt_names.specs.Types.{no_types}
use Rattle.mt_model.specs.declared.entries.Entry.{Entry}
use Rattle.mt_model.specs.declared.entries.Scope.{Scope}
use Rattle.mt_model.specs.declared.entries.Scope.TheVariants as scope
use Rattle.mt_model.specs.Part.{with_entries, with_places, without_places}
use Rattle.mt_topology.specs.Part.{reserve_refusal}
use Rattle.mt_watch.specs.Asking.{Answering, AsksEach}
use Rattle.mt_watch.specs.declared.fault.WatchersFault.TheVariants as watchers
use Rattle.mt_watch.specs.Scopes.{has_scope}
use Rattle.mt_primary.specs.Denials.{told_by_refresh, with_denials}
use Rattle.mt_primary.specs.Primary.{PrimaryState, end_of}
use Rattle.mt_primary.specs.Writes.{with_new_table, without_table}
use Rattle.mt_stream.specs.declared.fault.StreamFault.{StreamFault}
use Rattle.mt_stream.specs.declared.stream.Advanced.{Advanced}
use Rattle.mt_stream.specs.Advance.{Advances}
use Rattle.mt_stream.specs.Streams.{StreamValue, has_ended}
use Rattle.mt_workflow.specs.Creates as create
use Rattle.mt_workflow.specs.declared.fault.WorkflowFault.{WorkflowFault}
use Rattle.mt_workflow.specs.declared.fault.WorkflowFault.TheVariants as fault
use Rattle.mt_workflow.specs.Workflows.{LaneState, WorkflowState, live_of, new_workflow, slot_of, with_slot}
use Rattle.mt_plain.specs.Asks.{create_change}
use Rattle.mt_plain.specs.Events.{StreamName, forward, back, Slot, Shown, ShownLane, frozen, Answer, done, shown, refused, Refusal, memory, no_keyspace, no_table, workflow_exists, no_workflow, table_in_workflow, rule_conflict, target_has_table, same_keyspace, no_tables, watcher_refused, no_watcher, no_shard, sharded_source, stream_stopped, full}
use Rattle.mt_plain.specs.Plain.{among, each_once}
use Rattle.mt_plain.specs.Refuse.{cancel_refusal, most_workflows, or_else, refuse_if}
use Rattle.mt_plain.specs.Slots.{read_side, written_side}
use Rattle.mt_stands.specs.Keys.{kept_entries, keys_of_part, part_entries, rules_only}
use Rattle.mt_stands.specs.Answers.{answer_by_stream}
use Rattle.mt_primary.specs.Primaries.{has_primaries, primary_of, shards_of, with_all, with_primary}
use Rattle.mt_stands.specs.Base.{BaseState, Does, Workflows, workflow_at}

-- ---- Create: what refuses it

-- whether a live workflow moves a table of that name
abbrev pub is_moved : Workflows → (table : List ℕ) → Bool
is_moved workflows table = list_any (λ w. among w.1.tables table) workflows

-- what a table meets in the topology, and whether a workflow moves it, which comes behind the source's lack of it. The topology denies no
-- table that no workflow moves
abbrev pub refusal_by_table : (moved : Bool) → Option WorkflowFault → Option Refusal
refusal_by_table moved (Some (fault.NoTable table)) = Some no_table
refusal_by_table true other = Some table_in_workflow
refusal_by_table false (Some (fault.TargetHasTable table)) = Some (target_has_table table)
refusal_by_table false (Some (fault.RuleConflict key)) = Some (rule_conflict key)
refusal_by_table false other = None

abbrev pub table_refusal : BaseState → (source target table : List ℕ) → Option Refusal
table_refusal base source target table =
    refusal_by_table (is_moved base.workflows table) (create.table_refusal base.topology source target table)

-- the first refusal of some tables, in the order named
abbrev pub tables_refusal : BaseState → (source target : List ℕ) → List (List ℕ) → Option Refusal
tables_refusal base source target [] = None
tables_refusal base source target (table ∷ tables) = or_else (table_refusal base source target table) (tables_refusal base source target tables)

-- whether a limit would be passed: of live workflows, or of the topology's places
abbrev pub is_full : BaseState → (source target : List ℕ) → List (List ℕ) → Bool
is_full base source target tables =
    nat_le most_workflows (length base.workflows) || is_some (reserve_refusal base.topology source target tables)

-- whether a keyspace has several shards
abbrev pub is_sharded : BaseState → (keyspace : List ℕ) → Bool
is_sharded base keyspace = nat_lt 1 (shard_count (shards_of base.primaries keyspace).cuts)

-- Create of a set of tables: the name, the tables, the sides, whether the source is sharded, each table, the watcher, the limits
abbrev pub create_refusal : BaseState → List Scope → (workflow source target : List ℕ) → List (List ℕ) → Option Refusal
create_refusal base scopes workflow source target tables =
    or_else (refuse_if (is_some (workflow_at base.workflows workflow)) workflow_exists)
    (or_else (refuse_if (length tables == 0) no_tables)
    (or_else (refuse_if (same_text source target) same_keyspace)
    (or_else (refuse_if (not (has_primaries base.primaries source)) no_keyspace)
    (or_else (refuse_if (not (has_primaries base.primaries target)) no_keyspace)
    (or_else (refuse_if (is_sharded base source) sharded_source)
    (or_else (tables_refusal base source target tables)
    (or_else (refuse_if (not (has_scope scopes (scope.Primary target))) no_watcher)
    (refuse_if (is_full base source target tables) full))))))))

-- ---- Create: what it makes

-- the new workflow: it keeps the rules that stand in its part, and its streams read the source's log from its end on
abbrev pub new_of : BaseState → (workflow source target : List ℕ) → List (List ℕ) → WorkflowState
new_of base workflow source target tables =
    new_workflow base.topology workflow source target tables (end_of (primary_of base.primaries source 0))

-- the change with which the watchers of the target's primary are asked
abbrev pub change_of : WorkflowState → List Entry
change_of w = create_change (rules_only w.kept) (live_of w)

-- a primary of the target has the tables, without rows, and takes over what it is told of their denials
abbrev pub target_made : WorkflowState → (notice : List Entry) → PrimaryState → PrimaryState
target_made w notice primary = with_denials (told_by_refresh w.target notice w.tables) (fold with_new_table primary w.tables)

-- the part is written over its places, each primary of the target has the tables, and the workflow is live
abbrev pub with_created : BaseState → WorkflowState → (notice : List Entry) → BaseState
with_created base w notice = record {
  topology = with_entries (with_places base.topology (keys_of_part (live_of w))) (part_entries w.kept (live_of w) no_types);
  primaries = with_all base.primaries w.target (target_made w notice);
  workflows = base.workflows ++ (w.name, w) ∷ [];
}

-- a set of tables is taken if no test refuses it and each watcher of the target's primary answers; what is refused leaves the base as it was
abbrev pub CreatesSet : BaseState → List Scope → Answering → (workflow source target : List ℕ) → List (List ℕ) → Answer → BaseState → Type 0
CreatesSet old scopes may_answer workflow source target tables done new =
    (create_refusal old scopes workflow source target tables ≡ None)
    × ((notice : List Entry) × AsksEach scopes may_answer (scope.Primary target) (change_of (new_of old workflow source target tables)) (Ok notice)
    × (new ≡ with_created old (new_of old workflow source target tables) notice))
CreatesSet old scopes may_answer workflow source target tables (refused memory) new =
    (create_refusal old scopes workflow source target tables ≡ None) × (new ≡ old)
CreatesSet old scopes may_answer workflow source target tables (refused (watcher_refused index)) new =
    (create_refusal old scopes workflow source target tables ≡ None)
    × AsksEach scopes may_answer (scope.Primary target) (change_of (new_of old workflow source target tables)) (Err (watchers.Refused index))
    × (new ≡ old)
CreatesSet old scopes may_answer workflow source target tables (refused r) new =
    (create_refusal old scopes workflow source target tables ≡ Some r) × (new ≡ old)
CreatesSet old scopes may_answer workflow source target tables other new = ⊥

-- a table that is named twice counts once
abbrev pub Creates : BaseState → List Scope → Answering → (workflow source target : List ℕ) → List (List ℕ) → Answer → BaseState → Type 0
Creates old scopes may_answer workflow source target tables = CreatesSet old scopes may_answer workflow source target (each_once tables)

-- ---- Cancel

-- what was kept is written back over the part, which loses the places that hold nothing; the target's primaries lose the tables, and the
-- workflow is gone with its streams (MoveTables: Cancel)
abbrev pub cancelled : BaseState → WorkflowState → BaseState
cancelled base w = record {
  topology = without_places (with_entries base.topology (kept_entries w.kept (live_of w))) (keys_of_part (live_of w));
  primaries = with_all base.primaries w.target (λ primary. fold without_table primary w.tables);
  workflows = remove_entry (same_text w.name) base.workflows;
}

-- Cancel of a live workflow takes no memory
abbrev pub CancelsAt : Option WorkflowState → BaseState → Answer → BaseState → Type 0
CancelsAt None old answer new = (answer ≡ refused no_workflow) × (new ≡ old)
CancelsAt (Some w) old answer new = Does old (cancel_refusal (live_of w)) false (cancelled old w) answer new

abbrev pub Cancels : BaseState → (workflow : List ℕ) → Answer → BaseState → Type 0
Cancels old workflow answer new = CancelsAt (workflow_at old.workflows workflow) old answer new

-- ---- Advance

-- the shard of the side that a stream of a lane reads, and of the one that it writes: the source has one, the target that of the lane
abbrev pub shard_read : StreamName → (shard : ℕ) → ℕ
shard_read forward shard = 0
shard_read back shard = shard

abbrev pub shard_written : StreamName → (shard : ℕ) → ℕ
shard_written forward shard = shard
shard_written back shard = 0

-- the base with another stream of a shard of a workflow's target, and another primary at the side that the stream writes
abbrev pub with_advanced : BaseState → WorkflowState → StreamName → (shard : ℕ) → StreamValue → (sink : PrimaryState) → BaseState
with_advanced base w name shard stream sink = record base {
  primaries = with_primary base.primaries (written_side (live_of w) name) (shard_written name shard) sink;
  workflows = set_value (same_text w.name) base.workflows (with_slot w shard name (Some stream));
}

-- a stream of that shard advances between the primaries of its sides (MoveTables: the copy phase and the catchup)
abbrev pub AdvancesStream : Option StreamValue → BaseState → WorkflowState → StreamName → (shard at at_most : ℕ) → Answer → BaseState → Type 0
AdvancesStream None old w name shard at at_most answer new = (answer ≡ refused stream_stopped) × (new ≡ old)
AdvancesStream (Some stream) old w name shard at at_most answer new =
    (result : Result Advanced StreamFault) × (after : StreamValue) × (sink : PrimaryState)
    × Advances stream (primary_of old.primaries (read_side (live_of w) name) (shard_read name shard))
    (primary_of old.primaries (written_side (live_of w) name) (shard_written name shard)) at at_most result after sink
    × (answer ≡ answer_by_stream result) × (new ≡ with_advanced old w name shard after sink)

-- what asks of a shard that the target doesn't have leaves the base as it was
abbrev pub OrShardRefused : (has_shard : Bool) → BaseState → Answer → BaseState → Type 0 → Type 0
OrShardRefused true old answer new Made = Made
OrShardRefused false old answer new Made = (answer ≡ refused no_shard) × (new ≡ old)

abbrev pub AdvancesAt : Option WorkflowState → BaseState → StreamName → (shard at at_most : ℕ) → Answer → BaseState → Type 0
AdvancesAt None old name shard at at_most answer new = (answer ≡ refused no_workflow) × (new ≡ old)
AdvancesAt (Some w) old name shard at at_most answer new =
    OrShardRefused (nat_lt shard (length w.lanes)) old answer new (AdvancesStream (slot_of w shard name) old w name shard at at_most answer new)

abbrev pub AdvancesWorkflow : BaseState → (workflow : List ℕ) → StreamName → (shard at at_most : ℕ) → Answer → BaseState → Type 0
AdvancesWorkflow old workflow name shard at at_most answer new = AdvancesAt (workflow_at old.workflows workflow) old name shard at at_most answer new

-- ---- Show

-- a stream as it is shown
abbrev pub slot_from : StreamValue → Slot
slot_from stream = record { state = stream.state; position = stream.position }

-- what Show tells of a lane; a forward stream is always there (MoveTables: Show)
abbrev pub lane_by : LaneState → ShownLane
lane_by lane = record {
  range = lane.range;
  forward = unwrap_or (option_map slot_from lane.forward) (record { state = frozen; position = 0 });
  copied = option_map_or (λ stream. has_ended stream.copied) lane.forward false;
  back = option_map slot_from lane.back;
}

-- what it tells of the workflow (MoveTables: Show)
abbrev pub shown_by : WorkflowState → Shown
shown_by w = record {
  workflow = w.name;
  source = w.source;
  target = w.target;
  tables = w.tables;
  switched = w.switched;
  way = w.way;
  lanes = map lane_by w.lanes;
}

abbrev pub show_at : Option WorkflowState → Answer
show_at None = refused no_workflow
show_at (Some w) = shown (shown_by w)

-- and changes nothing
abbrev pub ShowsWorkflow : BaseState → (workflow : List ℕ) → Answer → BaseState → Type 0
ShowsWorkflow old workflow answer new = (answer ≡ show_at (workflow_at old.workflows workflow)) × (new ≡ old)
