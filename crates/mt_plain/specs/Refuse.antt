-- Which refusal an event meets: the first in the order of the tests, or none. All of this page is this profile's own: Vitess refuses
-- in the same cases with other words.
use Rattle.std.specs.Prelude.{ℕ, ◌+◌, Bool, true, false, not, ◌&&◌, ◌||◌, ◌==◌, List, length, count_by, fold, find, if◌then◌else◌, nat_le, nat_lt, Option, None, Some, is_some, max, sum_by, Result, Ok, Err, map, option_and_then, option_map, slice_get, [], ◌∷◌}
use Rattle.std.specs.List.{list_any}
use Rattle.std.specs.Option.{option_map_or}
use Rattle.std.specs.Map.{lookup}
use Rattle.mt_names.specs.Shards.{KeyRange, place_of_range, shard_count}
use Rattle.mt_names.specs.declared.keys.RuleKey.{RuleKey}
use Rattle.mt_names.specs.declared.keys.RuleTarget.{RuleTarget}
use Rattle.mt_names.specs.declared.types.TabletType.{TabletType}
use Rattle.mt_names.specs.declared.types.TabletType.TheVariants.{Primary}
use Rattle.mt_names.specs.declared.types.TypeSet.{TypeSet}
use Rattle.mt_names.specs.Names.{same_text}
use Rattle.mt_names.specs.Same.{same_key, same_target}
use Rattle.mt_model.specs.declared.entries.EntryKey.TheVariants as about
use Rattle.mt_model.specs.declared.entries.Scope.{Scope}
use Rattle.mt_model.specs.declared.entries.Scope.TheVariants as scope
use Rattle.mt_model.specs.declared.faults.PrimaryFault.{PrimaryFault}
use Rattle.mt_model.specs.declared.faults.PrimaryFault.TheVariants as primary
use Rattle.mt_model.specs.Limits.{longest_log, most_keyspaces, most_rules, most_tables_in_keyspace}
use Rattle.mt_model.specs.declared.rows.Op.{Op}
use Rattle.mt_model.specs.Rows.{Row, op_key, op_row}
use Rattle.mt_model.specs.Topology.{Rules, keyspace_at, rule_at}
use Rattle.mt_plain.specs.Events.{Event, write, read, add_keyspace, add_table, edit_rule, create, advance, begin_switch, begin_reverse, step, undo, cancel, complete, show, StreamName, Way, Refusal, no_keyspace, no_table, denied, row_exists, no_row, workflow_exists, no_workflow, table_in_workflow, rule_conflict, target_has_table, same_keyspace, no_tables, under_way, nothing_under_way, nothing_to_switch, nothing_to_reverse, copying, not_level, past_journal, traffic_switched, not_all_switched, rule_owned, no_watcher, stale, stream_stopped, full, undoing, too_long, exists, no_shard, sharded_source}
use Rattle.mt_plain.specs.Plain.{Copied, ended, Lane, Live, Plain, before_way, catch_up, create_back, has_keyspace, each_once, in_keyspace, is_sharded, lane_at, shard_at, live_at, mover, next_step, owner_by, part_owner, refresh_source, refresh_target, rule_keys, stands_done, switch_reads, twelve_keys, write_journal}
use Rattle.mt_plain.specs.Serve.{has_table, refuses}
use Rattle.mt_plain.specs.Slots.{log_length, room_in_log, running_at, slot_of, writes_any, written_side, written_shard}
use Rattle.mt_plain.specs.Writes.{client_row, lane_writes}

-- the limits of live workflows, of journal entries, and of the numbers of ways
abbrev pub most_workflows : ℕ
most_workflows = 16

-- the limit of journal entries
abbrev pub most_journal_entries : ℕ
most_journal_entries = 4096

-- the limit of the numbers of ways
abbrev pub most_ways : ℕ
most_ways = 0x7fff_ffff_ffff_ffff

-- the first of two tests that refuses
abbrev pub or_else : Option Refusal → Option Refusal → Option Refusal
or_else (Some refusal) next = Some refusal
or_else None next = next

-- a refusal where a test holds
abbrev pub refuse_if : Bool → Refusal → Option Refusal
refuse_if test refusal = if test then Some refusal else None

-- ---- rows

-- a table is looked for in a keyspace that is there
abbrev pub unknown_table : Plain → (keyspace table : List ℕ) → Option Refusal
unknown_table p keyspace table = or_else (refuse_if (not (has_keyspace p keyspace)) no_keyspace) (refuse_if (not (has_table p keyspace table)) no_table)

-- what the row itself refuses
abbrev pub row_refusal : Result Row PrimaryFault → Option Refusal
row_refusal (Ok after) = None
row_refusal (Err primary.RowExists) = Some row_exists
row_refusal (Err primary.NoRow) = Some no_row
row_refusal (Err primary.TooLong) = Some too_long
row_refusal (Err other) = None

-- a write: the keyspace, the table, the own list of the key's shard, the row, the room in that shard's log
abbrev pub write_refusal : Plain → (keyspace table : List ℕ) → Op → Option Refusal
write_refusal p keyspace table op =
    or_else (unknown_table p keyspace table)
    (or_else (refuse_if (refuses p keyspace (shard_at p keyspace (op_key op)) table) denied)
    (or_else (row_refusal (op_row op (client_row p keyspace table (op_key op))))
    (refuse_if (nat_le longest_log (log_length p keyspace (shard_at p keyspace (op_key op)))) full)))

-- the primary's own list concerns reads of type primary alone
abbrev pub denied_read : Plain → (keyspace table : List ℕ) → ℕ → TabletType → Option Refusal
denied_read p keyspace table key Primary = refuse_if (refuses p keyspace (shard_at p keyspace key) table) denied
denied_read p keyspace table key other = None

-- a read: the keyspace, the table, the primary's own list
abbrev pub read_refusal : Plain → (keyspace table : List ℕ) → ℕ → TabletType → Option Refusal
read_refusal p keyspace table key tablet_type = or_else (unknown_table p keyspace table) (denied_read p keyspace table key tablet_type)

-- ---- keyspaces, tables, rules

-- a new keyspace: the name, the limit
abbrev pub keyspace_refusal : Plain → List ℕ → Option Refusal
keyspace_refusal p keyspace =
    or_else (refuse_if (has_keyspace p keyspace) exists) (refuse_if (nat_le most_keyspaces (length p.topology.keyspaces)) full)

-- how many tables a keyspace has, those among them that are moved there
abbrev pub table_count : Plain → List ℕ → ℕ
table_count p keyspace =
    fold (λ n w. if same_text w.target keyspace then n + length w.tables else n)
    (option_map_or (λ state. count_by (λ mark. mark.1) state.tables) (keyspace_at p.topology.keyspaces keyspace) 0) p.lives

-- a new table: the keyspace, the name, the limit
abbrev pub table_refusal : Plain → (keyspace table : List ℕ) → Option Refusal
table_refusal p keyspace table =
    or_else (refuse_if (not (has_keyspace p keyspace)) no_keyspace)
    (or_else (refuse_if (has_table p keyspace table) exists) (refuse_if (nat_le most_tables_in_keyspace (table_count p keyspace)) full))

-- how many rule entries there are: keys that have a rule or lie in the part of a live workflow
abbrev pub keys_without_rule : Rules → List RuleKey → ℕ
keys_without_rule rules keys = count_by (λ key. not (is_some (lookup (same_key key) rules))) keys

-- all of them, those of live parts once
abbrev pub rule_count : Plain → ℕ
rule_count p = fold (λ n w. n + keys_without_rule p.topology.rules (rule_keys w)) (length p.topology.rules) p.lives

-- a rule is refused at the limit only where it is a new one
abbrev pub rule_refusal : Plain → RuleKey → Option RuleTarget → Option Refusal
rule_refusal p key None = None
rule_refusal p key (Some target) =
    if is_some (lookup (same_key key) p.topology.rules) then None else refuse_if (nat_le most_rules (rule_count p)) full

-- a rule by hand: the part of a live workflow, the limit
abbrev pub edit_refusal : Plain → RuleKey → Option RuleTarget → Option Refusal
edit_refusal p key target = or_else (refuse_if (is_some (part_owner p (about.Rule key))) rule_owned) (rule_refusal p key target)

-- ---- watchers

-- whether a watcher keeps the primary of this keyspace up to date
abbrev pub is_of_primary : List ℕ → Scope → Bool
is_of_primary keyspace scope.Routes = false
is_of_primary keyspace (scope.Primary k) = same_text k keyspace

-- an event that asks needs a watcher of that primary
abbrev pub watcher_refusal : Plain → (keyspace : List ℕ) → Option Refusal
watcher_refusal p keyspace = refuse_if (not (list_any (is_of_primary keyspace) p.scopes)) no_watcher

-- ---- Create

-- the first of the twelve keys with a rule that leads elsewhere than to the table at the source
abbrev pub conflict_refusal : Plain → (source target table : List ℕ) → Option Refusal
conflict_refusal p source target table =
    let leads_elsewhere = λ (key : RuleKey). option_map_or (λ to. not (same_target to (in_keyspace source table))) (rule_at p.topology.rules key) false in
    option_map rule_conflict (find leads_elsewhere (twelve_keys source target table))

-- a table to move: at the source, in a workflow, at the target, its rules
abbrev pub moved_table_refusal : Plain → (source target table : List ℕ) → Option Refusal
moved_table_refusal p source target table =
    or_else (refuse_if (not (has_table p source table)) no_table)
    (or_else (refuse_if (is_some (mover p table)) table_in_workflow)
    (or_else (refuse_if (has_table p target table) (target_has_table table)) (conflict_refusal p source target table)))

-- the first refusal of some tables, in the order named
abbrev pub moved_tables_refusal : Plain → (source target : List ℕ) → List (List ℕ) → Option Refusal
moved_tables_refusal p source target tables = fold or_else None (map (moved_table_refusal p source target) tables)

-- a limit would be passed: of live workflows, of tables at the target, of rule entries
abbrev pub create_is_full : Plain → (source target : List ℕ) → List (List ℕ) → Bool
create_is_full p source target tables =
    nat_le most_workflows (length p.lives)
    || nat_lt most_tables_in_keyspace (table_count p target + length tables)
    || nat_lt most_rules (fold (λ n table. n + keys_without_rule p.topology.rules (twelve_keys source target table)) (rule_count p) tables)

-- Create of a set of tables: the name, the tables, the sides, that the source isn't sharded, each table, the watcher, the limits
abbrev pub create_refusal : Plain → (workflow source target : List ℕ) → List (List ℕ) → Option Refusal
create_refusal p workflow source target tables =
    or_else (refuse_if (is_some (live_at p workflow)) workflow_exists)
    (or_else (refuse_if (length tables == 0) no_tables)
    (or_else (refuse_if (same_text source target) same_keyspace)
    (or_else (refuse_if (not (has_keyspace p source)) no_keyspace)
    (or_else (refuse_if (not (has_keyspace p target)) no_keyspace)
    (or_else (refuse_if (is_sharded p source) sharded_source)
    (or_else (moved_tables_refusal p source target tables)
    (or_else (watcher_refusal p target) (refuse_if (create_is_full p source target tables) full))))))))

-- ---- events on a live workflow

-- what a live workflow refuses, where there is one of that name
abbrev pub in_workflow : Option Live → (Live → Option Refusal) → Option Refusal
in_workflow None refusal = Some no_workflow
in_workflow (Some w) refusal = refusal w

-- the same of a way, where one is open; and of a workflow at rest, where none is
abbrev pub on_way : Live → (Way → Option Refusal) → Option Refusal
on_way w refusal = option_map_or refusal w.way (Some nothing_under_way)

-- and of a workflow at rest, where none is
abbrev pub at_rest : Live → Option Refusal → Option Refusal
at_rest w refusal = or_else (refuse_if (is_some w.way) under_way) refusal

-- an advance: a stream that runs, at its position, with room for a first change
abbrev pub advance_at : Plain → Live → Lane → StreamName → (at at_most : ℕ) → Option ℕ → Option Refusal
advance_at p w lane name at at_most None = Some stream_stopped
advance_at p w lane name at at_most (Some position) =
    or_else (refuse_if (not (at == position)) (stale position))
    (refuse_if (writes_any p w lane name position at_most && (room_in_log p (written_side w name) (written_shard lane name) == 0)) full)

-- what a lane refuses, where the workflow has one for that shard
abbrev pub in_lane_at : Option Lane → (Lane → Option Refusal) → Option Refusal
in_lane_at None refusal = Some no_shard
in_lane_at (Some lane) refusal = refusal lane

-- an advance of a stream of a workflow
abbrev pub advance_refusal : Plain → StreamName → (shard at at_most : ℕ) → Live → Option Refusal
advance_refusal p name shard at at_most w =
    in_lane_at (lane_at w shard) (λ lane. advance_at p w lane name at at_most (running_at (slot_of w lane name)))

-- the shard of a workflow's target that has a range, as it is written
abbrev pub shard_of_range : Option Live → KeyRange → Result ℕ Refusal
shard_of_range None range = Err no_workflow
shard_of_range (Some w) range =
    let shard = place_of_range w.cuts range in
    if nat_lt shard (shard_count w.cuts) then Ok shard else Err no_shard

-- whether a set of types has one that another lacks, and whether they share one
abbrev pub has_more : TypeSet → TypeSet → Bool
has_more types others = types.primary && not others.primary || types.replica && not others.replica || types.rdonly && not others.rdonly

-- whether two sets of types share one
abbrev pub share_type : TypeSet → TypeSet → Bool
share_type types others = types.primary && others.primary || types.replica && others.replica || types.rdonly && others.rdonly

-- whether rows are still to be copied
abbrev pub is_still_copying : Copied → Bool
is_still_copying ended = false
is_still_copying other = true

-- in some shard of the target
abbrev pub copies_still : Live → Bool
copies_still w = list_any (λ lane. is_still_copying lane.copied) w.lanes

-- a way forward: a type to switch, a copy at its end, the limit
abbrev pub begin_switch_refusal : Plain → TypeSet → Live → Option Refusal
begin_switch_refusal p types w =
    at_rest w
    (or_else (refuse_if (not (has_more types w.switched)) nothing_to_switch)
    (or_else (refuse_if (copies_still w) copying) (refuse_if (nat_le most_ways p.ways) full)))

-- a way back: a type to reverse, the limit
abbrev pub begin_reverse_refusal : Plain → TypeSet → Live → Option Refusal
begin_reverse_refusal p types w =
    at_rest w (or_else (refuse_if (not (share_type types w.switched)) nothing_to_reverse) (refuse_if (nat_le most_ways p.ways) full))

-- the side that served before the way, and the other one
abbrev pub old_owner : Live → List ℕ
old_owner w = owner_by w (before_way w)

-- the side that did not
abbrev pub new_owner : Live → List ℕ
new_owner w = if (before_way w).primary then w.source else w.target

-- whether a write to the workflow's tables has not reached the other side, in a shard and in some shard
abbrev pub lane_is_behind : Plain → Live → Lane → Bool
lane_is_behind p w lane = nat_lt lane.fed (length (lane_writes p w lane))

abbrev pub is_behind : Plain → Live → Bool
is_behind p w = list_any (lane_is_behind p w) w.lanes

-- whether the side that will serve the reads is not the owner: the target on a way forward, the source on a way back
abbrev pub will_read_other_side : Live → Way → Bool
will_read_other_side w way = if way.back then (before_way w).primary else not (before_way w).primary

-- what a step itself refuses
abbrev pub own_refusal : Plain → Live → Way → (step : ℕ) → Option Refusal
own_refusal p w way number =
    if number == switch_reads then refuse_if (will_read_other_side w way && is_behind p w) not_level
    else if number == refresh_source then watcher_refusal p (old_owner w)
    else if number == catch_up then refuse_if (is_behind p w) not_level
    else if number == write_journal then refuse_if (nat_le most_journal_entries p.journal) full
    else if number == refresh_target then watcher_refusal p (new_owner w)
    else None

-- a step: an undo taken, the number, the step itself
abbrev pub step_refusal : Plain → (at : ℕ) → Live → Option Refusal
step_refusal p at w =
    on_way w (λ way. or_else (refuse_if way.undoing undoing)
    (or_else (refuse_if (not (at == way.done)) (stale way.done)) (own_refusal p w way (next_step way))))

-- an undo: the journal, the number
abbrev pub undo_refusal : (at : ℕ) → Live → Option Refusal
undo_refusal at w =
    on_way w (λ way. or_else (refuse_if (stands_done way write_journal) past_journal) (refuse_if (not (at == way.done)) (stale way.done)))

-- Cancel: nothing is switched
abbrev pub cancel_refusal : Live → Option Refusal
cancel_refusal w = at_rest w (refuse_if (w.switched.primary || w.switched.replica || w.switched.rdonly) traffic_switched)

-- Complete: all is switched
abbrev pub complete_refusal : Live → Option Refusal
complete_refusal w = at_rest w (refuse_if (not (w.switched.primary && w.switched.replica && w.switched.rdonly)) not_all_switched)

-- ---- all events

-- the first refusal of an event, out of memory and a watcher's refusal aside
abbrev pub refusal_of : Plain → Event → Option Refusal
refusal_of p (write keyspace table op) = write_refusal p keyspace table op
refusal_of p (read keyspace table key tablet_type) = read_refusal p keyspace table key tablet_type
refusal_of p (add_keyspace keyspace cuts) = keyspace_refusal p keyspace
refusal_of p (add_table keyspace table) = table_refusal p keyspace table
refusal_of p (edit_rule key target) = edit_refusal p key target
refusal_of p (create workflow source target tables) = create_refusal p workflow source target (each_once tables)
refusal_of p (advance workflow name shard at at_most) = in_workflow (live_at p workflow) (advance_refusal p name shard at at_most)
refusal_of p (begin_switch workflow types) = in_workflow (live_at p workflow) (begin_switch_refusal p types)
refusal_of p (begin_reverse workflow types) = in_workflow (live_at p workflow) (begin_reverse_refusal p types)
refusal_of p (step workflow at) = in_workflow (live_at p workflow) (step_refusal p at)
refusal_of p (undo workflow at) = in_workflow (live_at p workflow) (undo_refusal at)
refusal_of p (cancel workflow) = in_workflow (live_at p workflow) cancel_refusal
refusal_of p (complete workflow) = in_workflow (live_at p workflow) complete_refusal
refusal_of p (show workflow) = in_workflow (live_at p workflow) (λ w. None)

-- ---- what is free

-- whether the step of a workflow that is next is this one
abbrev pub is_next_step : Live → ℕ → Bool
is_next_step w number = option_map_or (λ way. next_step way == number) w.way false

-- the keyspace whose primary's watchers a step asks: a refresh those of its side
abbrev pub asked_by_step : Live → Option (List ℕ)
asked_by_step w =
    if is_next_step w refresh_source then Some (old_owner w) else if is_next_step w refresh_target then Some (new_owner w) else None

-- the same of each event: Create asks those of the target
abbrev pub asked_keyspace : Plain → Event → Option (List ℕ)
asked_keyspace p (create workflow source target tables) = Some target
asked_keyspace p (step workflow at) = option_and_then asked_by_step (live_at p workflow)
asked_keyspace p other = None

-- whether a watcher is asked by an event, and so may refuse it
abbrev pub may_refuse : Plain → Event → (index : ℕ) → Bool
may_refuse p event index =
    option_map_or (λ keyspace. option_map_or (is_of_primary keyspace) (slice_get p.scopes index) false) (asked_keyspace p event) false

-- the steps that may: the refreshes, the journal, and with several shards the one that makes their streams
abbrev pub steps_that_grow : Live → List ℕ
steps_that_grow w =
    refresh_source ∷ write_journal ∷ refresh_target ∷ (if nat_lt 1 (shard_count w.cuts) then create_back ∷ [] else [])

-- the events that may grow something, and so may run out of memory: of a rule by hand a new one alone, of an advance one that writes something
abbrev pub may_grow : Plain → Event → Bool
may_grow p (read keyspace table key tablet_type) = false
may_grow p (edit_rule key None) = false
may_grow p (edit_rule key (Some target)) = not (is_some (lookup (same_key key) p.topology.rules))
may_grow p (advance workflow name shard at at_most) =
    option_map_or (λ w. option_map_or (λ lane. writes_any p w lane name at at_most) (lane_at w shard) false) (live_at p workflow) false
may_grow p (step workflow at) = option_map_or (λ w. list_any (is_next_step w) (steps_that_grow w)) (live_at p workflow) false
may_grow p (undo workflow at) = false
may_grow p (cancel workflow) = false
may_grow p (complete workflow) = false
may_grow p (show workflow) = false
may_grow p other = true

-- ---- what must always find room

-- the events that are owed to a live workflow so that it can be given up whatever else is asked: its Cancel, and where a way is open before its
-- journal an undo of each step that stands done, or of the begin
abbrev pub owed_by : Live → ℕ
owed_by w = 1 + option_map_or (λ way. if stands_done way write_journal then 0 else max 1 way.done) w.way 0

-- those owed to all
abbrev pub owed : Plain → ℕ
owed p = sum_by owed_by p.lives
