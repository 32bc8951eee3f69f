-- The state after each event: what a command changes (MoveTables: Create, SwitchTraffic, ReverseTraffic, Cancel, Complete).
use Rattle.std.specs.Prelude.{ℕ, suc, ◌-◌, Bool, true, false, not, ◌&&◌, ◌||◌, ◌==◌, List, [], ◌∷◌, ◌++◌, filter, fold, length, map, if◌then◌else◌, Option, None, Some, Result, Ok, Err}
use Rattle.std.specs.Map.{remove_entry}
use Rattle.std.specs.List.{range_with_len}
use Rattle.std.specs.Option.{option_map_or}
use Rattle.mt_names.specs.declared.keys.RuleTarget.{RuleTarget}
use Rattle.mt_names.specs.declared.types.TypeSet.{TypeSet}
use Rattle.mt_names.specs.Names.{same_text}
use Rattle.mt_names.specs.Same.{same_key}
use Rattle.mt_names.specs.Shards.{Cuts, shard_count}
use Rattle.mt_names.specs.Types.{no_types}
use Rattle.mt_model.specs.declared.rows.Op.{Op}
use Rattle.mt_model.specs.declared.faults.PrimaryFault.{PrimaryFault}
use Rattle.mt_model.specs.Rows.{Row, op_key, op_row}
use Rattle.mt_model.specs.Topology.{KeyspaceState, TopologyState, with_keyspace, with_keyspace_state, with_new_table, with_rule, with_table}
use Rattle.mt_plain.specs.Events.{Event, write, add_keyspace, add_table, edit_rule, create, advance, begin_switch, begin_reverse, step, undo, cancel, complete, StreamName, Answer, done, row, advanced, shown, refused, Way}
use Rattle.mt_plain.specs.Plain.{Lane, Live, Plain, not_begun, before_way, behind_last, changes_primary, create_back, cuts_of, each_once, in_keyspace, lane_at, live_at, moves, next_step, rule_keys, shard_at, write_journal}
use Rattle.mt_plain.specs.Refuse.{new_owner}
use Rattle.mt_plain.specs.Slots.{live_advanced, log_advanced, log_length}
use Rattle.mt_plain.specs.Writes.{client_number, client_row, lane_writes}

-- ---- rows

-- the row that an operation leaves, where it isn't refused (this profile's own)
abbrev pub row_left : Result Row PrimaryFault → Row
row_left (Ok after) = after
row_left (Err fault) = None

-- one acknowledged write more, and one entry more in the log of the primary of the key's shard (this profile's own)
abbrev pub with_write : Plain → (keyspace table : List ℕ) → Op → Plain
with_write p keyspace table op =
    let after = row_left (op_row op (client_row p keyspace table (op_key op))) in
    record p {
      writes = p.writes ++ (record { table = client_number p keyspace table; key = op_key op; after = after }) ∷ [];
      log = p.log ++ (record { keyspace = keyspace; shard = shard_at p keyspace (op_key op); table = table; key = op_key op }) ∷ [];
    }

-- ---- workflows

-- the live workflows with one of them changed, and without it (this profile's own)
abbrev pub with_live : (Live → Live) → (name : List ℕ) → List Live → List Live
with_live change name lives = map (λ w. if same_text w.name name then change w else w) lives

-- the live workflows without one of them (this profile's own)
abbrev pub without_live : (name : List ℕ) → List Live → List Live
without_live name lives = filter (λ w. not (same_text w.name name)) lives

-- the state with a workflow changed (this profile's own)
abbrev pub change_live : Plain → (name : List ℕ) → (Live → Live) → Plain
change_live p name change = record p { lives = with_live change name p.lives }

-- a lane that has copied nothing: its stream starts at the end of the source's log, behind all writes acknowledged up to now
-- (MoveTables: Create)
abbrev pub new_lane : (position shard : ℕ) → Lane
new_lane position shard =
    record { shard = shard; fed = 0; copied = not_begun; forward_at = position; back_at = 0; fresh_at = 0 }

-- Create: a workflow that has switched nothing, with a lane for each shard of the target (MoveTables: Create)
abbrev pub created : (name source target : List ℕ) → List (List ℕ) → Cuts → (position : ℕ) → Live
created name source target tables cuts position =
    record {
      name = name;
      source = source;
      target = target;
      tables = tables;
      cuts = cuts;
      switched = no_types;
      way = None;
      lanes = map (new_lane position) (range_with_len 0 (shard_count cuts));
    }

-- the lanes of a workflow, to each of which all writes up to now with a key in its shard are fed (MoveTables: Create)
abbrev pub lane_fed : Plain → Live → Lane → Lane
lane_fed p w lane = record lane { fed = length (lane_writes p w lane) }

abbrev pub all_fed : Plain → Live → Live
all_fed p w = record w { lanes = map (lane_fed p w) w.lanes }

-- the state with a new workflow (MoveTables: Create)
abbrev pub with_created : Plain → (name source target : List ℕ) → List (List ℕ) → Plain
with_created p name source target tables =
    record p { lives = p.lives ++ all_fed p (created name source target tables (cuts_of p target) (log_length p source 0)) ∷ [] }

-- ---- ways (MoveTables: SwitchTraffic, ReverseTraffic)

-- the types of either set, and those of one that the other lacks
abbrev pub types_and : TypeSet → TypeSet → TypeSet
types_and a b = record { primary = a.primary || b.primary; replica = a.replica || b.replica; rdonly = a.rdonly || b.rdonly }

-- the types of one set that another lacks
abbrev pub types_without : TypeSet → TypeSet → TypeSet
types_without a b = record { primary = a.primary && not b.primary; replica = a.replica && not b.replica; rdonly = a.rdonly && not b.rdonly }

-- a way opens, with no step done
abbrev pub with_way_to : (back : Bool) → (TypeSet → TypeSet) → Live → Live
with_way_to back change w =
    record w { way = Some (record { back = back; shards = shard_count w.cuts; before = w.switched; after = change w.switched; done = 0; undoing = false }) }

-- the state with a way opened, which gets the next number (this profile's own)
abbrev pub with_way : Plain → (name : List ℕ) → (back : Bool) → (TypeSet → TypeSet) → Plain
with_way p name back change = record p { lives = with_live (with_way_to back change) name p.lives; ways = suc p.ways }

-- a step closes its way where it is the last one
abbrev pub closes : Way → Bool
closes way = suc (next_step way) == behind_last way

-- the way behind a step: closed by the last one; until then one step more stands done
abbrev pub way_stepped : Way → Option Way
way_stepped way = if closes way then None else Some (record way { done = suc way.done })

-- the types behind a step: with the journal the new side owns the tables, and with the last step all types are switched
-- (How traffic is switched: the journal is the point of no return)
abbrev pub types_stepped : Live → Way → TypeSet
types_stepped w way = if closes way || (next_step way == write_journal) then way.after else w.switched

-- a lane behind a step: a new stream begins at the end of the log that it reads; and once the way closes, the stream that it has made is
-- the one at rest, which is the back stream after a way forward, and the forward stream after a way back (How traffic is switched)
abbrev pub lane_made : Plain → Live → Lane → Lane
lane_made p w lane = record lane { fresh_at = log_length p (new_owner w) (if (before_way w).primary then 0 else lane.shard) }

abbrev pub lane_closed : Way → Lane → Lane
lane_closed way lane = if way.back then record lane { forward_at = lane.fresh_at } else record lane { back_at = lane.fresh_at }

abbrev pub lane_stepped : Plain → Live → Way → Lane → Lane
lane_stepped p w way lane =
    if next_step way == create_back then lane_made p w lane
    else if closes way && changes_primary way then lane_closed way lane
    else lane

-- what a step changes of a workflow (How traffic is switched)
abbrev pub live_stepped : Plain → Live → Way → Live
live_stepped p w way =
    record w { switched = types_stepped w way; way = way_stepped way; lanes = map (lane_stepped p w way) w.lanes }

-- an undo is the number of steps done less one; the way closes where none is done then
abbrev pub way_undone : Way → Option Way
way_undone way =
    let left = way.done - 1 in
    if left == 0 then None else Some (record way { done = left; undoing = true })

-- what an undo changes of a workflow (this profile's own)
abbrev pub live_undone : Live → Way → Live
live_undone w way = record w { way = way_undone way }

-- a workflow changed by its open way
abbrev pub on_way_of : (Way → Live) → Live → Live
on_way_of change w = option_map_or change w.way w

-- the journal has one entry more once its step is done
abbrev pub journal_after : Plain → Option Live → ℕ
journal_after p None = p.journal
journal_after p (Some w) = option_map_or (λ way. if next_step way == write_journal then suc p.journal else p.journal) w.way p.journal

-- the state after a step (How traffic is switched)
abbrev pub with_step : Plain → (name : List ℕ) → Plain
with_step p name =
    record p { lives = with_live (λ w. on_way_of (live_stepped p w) w) name p.lives; journal = journal_after p (live_at p name) }

-- the state after an undo (this profile's own)
abbrev pub with_undo : Plain → (name : List ℕ) → Plain
with_undo p name = change_live p name (λ w. on_way_of (live_undone w) w)

-- ---- Complete (MoveTables: Complete)

-- the source's tables are gone, and the target has them
abbrev pub without_tables : List (List ℕ) → KeyspaceState → KeyspaceState
without_tables tables state = record state { tables = fold (λ marks table. remove_entry (same_text table) marks) state.tables tables }

-- the target has the tables
abbrev pub with_tables : List (List ℕ) → KeyspaceState → KeyspaceState
with_tables tables state = fold (λ s table. with_new_table table s) state tables

-- the topology without the twelve rules and the source's tables (MoveTables: Complete)
abbrev pub completed : TopologyState → Live → TopologyState
completed u w =
    record {
      rules = fold (λ rules key. remove_entry (same_key key) rules) u.rules (rule_keys w);
      keyspaces = with_keyspace_state (with_tables w.tables) (with_keyspace_state (without_tables w.tables) u.keyspaces w.source) w.target;
    }

-- the target's tables get the numbers of the source's, and with them the lists of their writes
abbrev pub number_moved : Live → RuleTarget × ℕ → RuleTarget × ℕ
number_moved w numbered =
    if same_text w.source numbered.0.keyspace && moves w numbered.0.table then (in_keyspace w.target numbered.0.table, numbered.1) else numbered

-- the state after Complete (MoveTables: Complete)
abbrev pub with_completed : Plain → Option Live → Plain
with_completed p None = p
with_completed p (Some w) =
    record p { topology = completed p.topology w; numbers = map (number_moved w) p.numbers; lives = without_live w.name p.lives }

-- ---- Advance (MoveTables: the copy phase and the catchup)

-- the state after an advance of a workflow's stream of a shard (MoveTables)
abbrev pub with_advance : Plain → StreamName → (shard position at_most events rows : ℕ) → Option Live → Plain
with_advance p name shard position at_most events rows None = p
with_advance p name shard position at_most events rows (Some w) =
    record p {
      lives = with_live (λ v. live_advanced p v name shard position at_most events rows) w.name p.lives;
      log = option_map_or (λ lane. log_advanced p w lane name position events rows) (lane_at w shard) p.log;
    }

-- the state after an advance with its counts (MoveTables)
abbrev pub after_advance : Plain → Event → (events rows : ℕ) → Plain
after_advance p (advance workflow name shard at at_most) events rows = with_advance p name shard at at_most events rows (live_at p workflow)
after_advance p other events rows = p

-- ---- the next state

-- the state after an event that is done (MoveTables; the atomic steps are this profile's own)
abbrev pub next_taken : Plain → Event → Plain
next_taken p (write keyspace table op) = with_write p keyspace table op
next_taken p (add_keyspace keyspace cuts) = record p { topology = with_keyspace p.topology keyspace cuts }
next_taken p (add_table keyspace table) =
    record p { topology = with_table p.topology keyspace table; numbers = p.numbers ++ (in_keyspace keyspace table, p.made) ∷ []; made = suc p.made }
next_taken p (edit_rule key target) = record p { topology = record p.topology { rules = with_rule p.topology.rules key target } }
next_taken p (create workflow source target tables) = with_created p workflow source target (each_once tables)
next_taken p (begin_switch workflow types) = with_way p workflow false (λ switched. types_and switched types)
next_taken p (begin_reverse workflow types) = with_way p workflow true (λ switched. types_without switched types)
next_taken p (step workflow at) = with_step p workflow
next_taken p (undo workflow at) = with_undo p workflow
next_taken p (cancel workflow) = record p { lives = without_live workflow p.lives }
next_taken p (complete workflow) = with_completed p (live_at p workflow)
next_taken p other = p

-- a refused event changes nothing; an advance changes what its counts say (this profile's own)
abbrev pub next : Plain → Event → Answer → Plain
next p event (refused refusal) = p
next p event done = next_taken p event
next p event (row r) = next_taken p event
next p event (advanced events rows) = after_advance p event events rows
next p event (shown s) = p
