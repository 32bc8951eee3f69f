-- Events and answers are found again from what the definitions know of them.
use Rattle.std.proofs.Common.{◌≡◌, List, [], ◌∷◌, map, Option, None, Some, option_map, Result, Ok, Err, refl, sym, ap, ◌∙◌}
use Rattle.mt_plain.specs.Events as plain
use Rattle.mt_stream.specs.declared.stream.StreamState.{StreamState}
use Rattle.mt_stream.specs.declared.stream.StreamState.TheVariants as state
use Rattle.mt_stream.specs.Streams.{state_from}
use Rattle.mt_workflow.specs.declared.way.Slot.{Slot}
use Rattle.mt_workflow.specs.declared.way.Slot.TheVariants as slot
use Rattle.mt_workflow.specs.declared.way.Way.{Way}
use Rattle.mt_workflow.specs.Workflows.{way_from}
use Rattle.mt_event.specs.declared.event.Event.{Event}
use Rattle.mt_event.specs.declared.event.Event.TheVariants as event
use Rattle.mt_event.specs.declared.reason.Reason.TheVariants as reason
use Rattle.mt_event.specs.declared.refusal.Refusal.{Refusal}
use Rattle.mt_event.specs.declared.refusal.Refusal.TheVariants as refusal
use Rattle.mt_event.specs.declared.reply.Reply.{Reply}
use Rattle.mt_event.specs.declared.reply.Reply.TheVariants as reply
use Rattle.mt_event.specs.declared.reply.Shown.{Shown}
use Rattle.mt_event.specs.declared.lanes.ShownLane.{ShownLane}
use Rattle.mt_event.specs.declared.lanes.ShownStream.{ShownStream}
use Rattle.mt_event.specs.Events.{answer_from, event_of, lane_from, refusal_from, shown_from, shown_stream_from}

-- what is found again is told in full
one_from_back : {A B : Type 0} (tell : A → B) (back : B → A) → ((a : A) → back (tell a) ≡ a) → (a b : A) → tell a ≡ tell b → a ≡ b
one_from_back tell back returns a b same = sym (returns a) ∙ ap back same ∙ returns b

-- ---- events

abbrev back_slot : plain.StreamName → Slot
back_slot plain.forward = slot.Forward
back_slot plain.back = slot.Back

-- the event that is asked of the code
abbrev back_event : plain.Event → Event
back_event (plain.write keyspace table op) = event.Write keyspace table op
back_event (plain.read keyspace table key type_of) = event.Read keyspace table key type_of
back_event (plain.add_keyspace keyspace cuts) = event.AddKeyspace keyspace cuts
back_event (plain.add_table keyspace table) = event.AddTable keyspace table
back_event (plain.edit_rule key target) = event.EditRule key target
back_event (plain.create workflow source target tables) = event.Create workflow source target (record { items = tables })
back_event (plain.advance workflow stream shard at max) = event.Advance workflow (back_slot stream) shard at max
back_event (plain.begin_switch workflow types) = event.BeginSwitch workflow types
back_event (plain.begin_reverse workflow types) = event.BeginReverse workflow types
back_event (plain.step workflow at) = event.Step workflow at
back_event (plain.undo workflow at) = event.Undo workflow at
back_event (plain.cancel workflow) = event.Cancel workflow
back_event (plain.complete workflow) = event.Complete workflow
back_event (plain.show workflow) = event.Show workflow

event-returns : (e : Event) → back_event (event_of e) ≡ e
event-returns (event.Write keyspace table op) = refl
event-returns (event.Read keyspace table key type_of) = refl
event-returns (event.AddKeyspace keyspace shards) = refl
event-returns (event.AddTable keyspace table) = refl
event-returns (event.EditRule key target) = refl
event-returns (event.Create workflow source target tables) = refl
event-returns (event.Advance workflow slot.Forward shard at max) = refl
event-returns (event.Advance workflow slot.Back shard at max) = refl
event-returns (event.BeginSwitch workflow types) = refl
event-returns (event.BeginReverse workflow types) = refl
event-returns (event.Step workflow at) = refl
event-returns (event.Undo workflow at) = refl
event-returns (event.Cancel workflow) = refl
event-returns (event.Complete workflow) = refl
event-returns (event.Show workflow) = refl

pub told_events_are_one : (a b : Event) → event_of a ≡ event_of b → a ≡ b
told_events_are_one = one_from_back event_of back_event event-returns

-- ---- answers

abbrev back_refusal : plain.Refusal → Refusal
back_refusal plain.memory = refusal.Other reason.Memory
back_refusal plain.no_keyspace = refusal.Other reason.NoKeyspace
back_refusal plain.no_table = refusal.Other reason.NoTable
back_refusal plain.denied = refusal.Other reason.Denied
back_refusal plain.row_exists = refusal.Other reason.RowExists
back_refusal plain.no_row = refusal.Other reason.NoRow
back_refusal plain.workflow_exists = refusal.Other reason.WorkflowExists
back_refusal plain.no_workflow = refusal.Other reason.NoWorkflow
back_refusal plain.table_in_workflow = refusal.Other reason.TableInWorkflow
back_refusal (plain.rule_conflict key) = refusal.RuleConflict key
back_refusal (plain.target_has_table table) = refusal.TargetHasTable table
back_refusal plain.same_keyspace = refusal.Other reason.SameKeyspace
back_refusal plain.no_tables = refusal.Other reason.NoTables
back_refusal plain.under_way = refusal.Other reason.UnderWay
back_refusal plain.nothing_under_way = refusal.Other reason.NothingUnderWay
back_refusal plain.nothing_to_switch = refusal.Other reason.NothingToSwitch
back_refusal plain.nothing_to_reverse = refusal.Other reason.NothingToReverse
back_refusal plain.copying = refusal.Other reason.Copying
back_refusal plain.not_level = refusal.Other reason.NotLevel
back_refusal plain.past_journal = refusal.Other reason.PastJournal
back_refusal plain.traffic_switched = refusal.Other reason.TrafficSwitched
back_refusal plain.not_all_switched = refusal.Other reason.NotAllSwitched
back_refusal plain.rule_owned = refusal.Other reason.RuleOwned
back_refusal (plain.watcher_refused index) = refusal.Other (reason.WatcherRefused index)
back_refusal plain.no_watcher = refusal.Other reason.NoWatcher
back_refusal (plain.stale current) = refusal.Other (reason.Stale current)
back_refusal plain.stream_stopped = refusal.Other reason.StreamStopped
back_refusal plain.full = refusal.Other reason.Full
back_refusal plain.undoing = refusal.Other reason.Undoing
back_refusal plain.too_long = refusal.Other reason.TooLong
back_refusal plain.exists = refusal.Other reason.Exists
back_refusal plain.no_shard = refusal.Other reason.NoShard
back_refusal plain.sharded_source = refusal.Other reason.ShardedSource

refusal-returns : (r : Refusal) → back_refusal (refusal_from r) ≡ r
refusal-returns (refusal.Other reason.Memory) = refl
refusal-returns (refusal.Other reason.NoKeyspace) = refl
refusal-returns (refusal.Other reason.NoTable) = refl
refusal-returns (refusal.Other reason.Denied) = refl
refusal-returns (refusal.Other reason.RowExists) = refl
refusal-returns (refusal.Other reason.NoRow) = refl
refusal-returns (refusal.Other reason.WorkflowExists) = refl
refusal-returns (refusal.Other reason.NoWorkflow) = refl
refusal-returns (refusal.Other reason.TableInWorkflow) = refl
refusal-returns (refusal.RuleConflict key) = refl
refusal-returns (refusal.TargetHasTable table) = refl
refusal-returns (refusal.Other reason.SameKeyspace) = refl
refusal-returns (refusal.Other reason.NoTables) = refl
refusal-returns (refusal.Other reason.UnderWay) = refl
refusal-returns (refusal.Other reason.NothingUnderWay) = refl
refusal-returns (refusal.Other reason.NothingToSwitch) = refl
refusal-returns (refusal.Other reason.NothingToReverse) = refl
refusal-returns (refusal.Other reason.Copying) = refl
refusal-returns (refusal.Other reason.NotLevel) = refl
refusal-returns (refusal.Other reason.PastJournal) = refl
refusal-returns (refusal.Other reason.TrafficSwitched) = refl
refusal-returns (refusal.Other reason.NotAllSwitched) = refl
refusal-returns (refusal.Other reason.RuleOwned) = refl
refusal-returns (refusal.Other (reason.WatcherRefused index)) = refl
refusal-returns (refusal.Other reason.NoWatcher) = refl
refusal-returns (refusal.Other (reason.Stale current)) = refl
refusal-returns (refusal.Other reason.StreamStopped) = refl
refusal-returns (refusal.Other reason.Full) = refl
refusal-returns (refusal.Other reason.Undoing) = refl
refusal-returns (refusal.Other reason.TooLong) = refl
refusal-returns (refusal.Other reason.Exists) = refl
refusal-returns (refusal.Other reason.NoShard) = refl
refusal-returns (refusal.Other reason.ShardedSource) = refl

abbrev back_state : plain.StreamState → StreamState
back_state plain.running = state.Running
back_state plain.stopped = state.Stopped
back_state plain.frozen = state.Frozen

state-returns : (s : StreamState) → back_state (state_from s) ≡ s
state-returns state.Running = refl
state-returns state.Stopped = refl
state-returns state.Frozen = refl

abbrev back_stream : plain.Slot → ShownStream
back_stream s = record { state = back_state s.state; position = s.position }

stream-returns : (s : ShownStream) → back_stream (shown_stream_from s) ≡ s
stream-returns s = λ i. record { state = state-returns s.state i; position = s.position }

abbrev back_way : plain.Way → Way
back_way w = record { back = w.back; shards = w.shards; before = w.before; after = w.after; done = w.done; undoing = w.undoing }

option-returns : {A B : Type 0} (tell : A → B) (back : B → A) → ((a : A) → back (tell a) ≡ a) → (o : Option A) → option_map back (option_map tell o) ≡ o
option-returns tell back returns None = refl
option-returns tell back returns (Some a) = ap Some (returns a)

list-returns : {A B : Type 0} (tell : A → B) (back : B → A) → ((a : A) → back (tell a) ≡ a) → (l : List A) → map back (map tell l) ≡ l
list-returns tell back returns [] = refl
list-returns tell back returns (a ∷ l) = λ i. returns a i ∷ list-returns tell back returns l i

abbrev back_lane : plain.ShownLane → ShownLane
back_lane l = record { range = l.range; forward = back_stream l.forward; copied = l.copied; back = option_map back_stream l.back }

lane-returns : (l : ShownLane) → back_lane (lane_from l) ≡ l
lane-returns l = λ i. record {
  range = l.range;
  forward = stream-returns l.forward i;
  copied = l.copied;
  back = option-returns shown_stream_from back_stream stream-returns l.back i;
}

abbrev back_shown : plain.Shown → Shown
back_shown s = record {
  workflow = s.workflow;
  source = s.source;
  target = s.target;
  tables = record { items = s.tables };
  switched = s.switched;
  way = option_map back_way s.way;
  lanes = record { items = map back_lane s.lanes };
}

shown-returns : (s : Shown) → back_shown (shown_from s) ≡ s
shown-returns s = λ i. record {
  workflow = s.workflow;
  source = s.source;
  target = s.target;
  tables = s.tables;
  switched = s.switched;
  way = option-returns way_from back_way (λ w. refl) s.way i;
  lanes = record { items = list-returns lane_from back_lane lane-returns s.lanes.items i };
}

abbrev back_answer : plain.Answer → Result Reply Refusal
back_answer plain.done = Ok reply.Done
back_answer (plain.row row) = Ok (reply.Row row)
back_answer (plain.advanced events rows) = Ok (reply.Advanced (record { events = events; rows = rows }))
back_answer (plain.shown s) = Ok (reply.Shown (back_shown s))
back_answer (plain.refused r) = Err (back_refusal r)

answer-returns : (a : Result Reply Refusal) → back_answer (answer_from a) ≡ a
answer-returns (Ok reply.Done) = refl
answer-returns (Ok (reply.Row row)) = refl
answer-returns (Ok (reply.Advanced advanced)) = refl
answer-returns (Ok (reply.Shown s)) = ap (λ t. Ok (reply.Shown t)) (shown-returns s)
answer-returns (Err r) = ap Err (refusal-returns r)

pub told_answers_are_one : (a b : Result Reply Refusal) → answer_from a ≡ answer_from b → a ≡ b
told_answers_are_one = one_from_back answer_from back_answer answer-returns
