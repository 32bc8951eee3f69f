-- What is asked of the controller and what it answers, in the words of the definitions.
use Rattle.std.specs.Prelude.{⊤, List, map, option_map, Result, Ok, Err}
use Rattle.mt_event.specs.declared.event.Event.{Event}
use Rattle.mt_event.specs.declared.event.Event.TheVariants as event
use Rattle.mt_event.specs.declared.lanes.ShownLane.{ShownLane}
use Rattle.mt_event.specs.declared.lanes.ShownStream.{ShownStream}
use Rattle.mt_event.specs.declared.refusal.Refusal.{Refusal}
use Rattle.mt_event.specs.declared.refusal.Refusal.TheVariants as refusal
use Rattle.mt_event.specs.declared.reply.Reply.{Reply}
use Rattle.mt_event.specs.declared.reply.Reply.TheVariants as reply
use Rattle.mt_event.specs.declared.reply.Shown.{Shown}
use Rattle.mt_event.specs.declared.reply.ShownOf.{ShownOf}
use Rattle.mt_event.specs.Reasons.{reason_from}
use Rattle.mt_plain.specs.Events as plain
use Rattle.mt_stream.specs.Streams.{state_from}
use Rattle.mt_workflow.specs.Workflows.{stream_name, way_from}

-- an event (MoveTables: its commands; the atomic steps are this profile's own)
abbrev pub event_of : Event → plain.Event
event_of (event.Write keyspace table op) = plain.write keyspace table op
event_of (event.Read keyspace table key type_of) = plain.read keyspace table key type_of
event_of (event.AddKeyspace keyspace shards) = plain.add_keyspace keyspace shards
event_of (event.AddTable keyspace table) = plain.add_table keyspace table
event_of (event.EditRule key target) = plain.edit_rule key target
event_of (event.Create workflow source target tables) = plain.create workflow source target tables.items
event_of (event.Advance workflow stream shard at max) = plain.advance workflow (stream_name stream) shard at max
event_of (event.BeginSwitch workflow types) = plain.begin_switch workflow types
event_of (event.BeginReverse workflow types) = plain.begin_reverse workflow types
event_of (event.Step workflow at) = plain.step workflow at
event_of (event.Undo workflow at) = plain.undo workflow at
event_of (event.Cancel workflow) = plain.cancel workflow
event_of (event.Complete workflow) = plain.complete workflow
event_of (event.Show workflow) = plain.show workflow

-- why an event is refused (this profile's own)
abbrev pub refusal_from : Refusal → plain.Refusal
refusal_from (refusal.RuleConflict key) = plain.rule_conflict key
refusal_from (refusal.TargetHasTable table) = plain.target_has_table table
refusal_from (refusal.Other reason) = reason_from reason

-- a stream with its position (MoveTables: Show)
abbrev pub shown_stream_from : ShownStream → plain.Slot
shown_stream_from stream = record { state = state_from stream.state; position = stream.position }

-- the streams of a shard of the target (MoveTables: Show)
abbrev pub lane_from : ShownLane → plain.ShownLane
lane_from lane = record {
  range = lane.range;
  forward = shown_stream_from lane.forward;
  copied = lane.copied;
  back = option_map shown_stream_from lane.back;
}

abbrev pub lanes_from : List ShownLane → List plain.ShownLane
lanes_from lanes = map lane_from lanes

-- what Show tells of a workflow (MoveTables: Show)
abbrev pub shown_from : Shown → plain.Shown
shown_from shown = record {
  workflow = shown.workflow;
  source = shown.source;
  target = shown.target;
  tables = shown.tables.items;
  switched = shown.switched;
  way = option_map way_from shown.way;
  lanes = lanes_from shown.lanes.items;
}

-- the same, where names and tables are lent
abbrev pub lent_shown : ShownOf → plain.Shown
lent_shown shown = record {
  workflow = shown.workflow.now;
  source = shown.source.now;
  target = shown.target.now;
  tables = shown.tables;
  switched = shown.switched;
  way = option_map way_from shown.way;
  lanes = lanes_from shown.lanes.items;
}

-- the answer to an event that is taken (this profile's own)
abbrev pub reply_from : Reply → plain.Answer
reply_from reply.Done = plain.done
reply_from (reply.Row row) = plain.row row
reply_from (reply.Advanced advanced) = plain.advanced advanced.events advanced.rows
reply_from (reply.Shown shown) = plain.shown (shown_from shown)

-- the answer to an event (this profile's own)
abbrev pub answer_from : Result Reply Refusal → plain.Answer
answer_from (Ok reply) = reply_from reply
answer_from (Err refusal) = plain.refused (refusal_from refusal)

-- the answer to an event of which nothing is told but that it is done (this profile's own)
abbrev pub done_from : Result ⊤ Refusal → plain.Answer
done_from (Ok done) = plain.done
done_from (Err refusal) = plain.refused (refusal_from refusal)
