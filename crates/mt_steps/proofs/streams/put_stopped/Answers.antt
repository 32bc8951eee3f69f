-- The stream is of the range of its lane.
use Rattle.std.proofs.Common.{◌≡◌, ◌≢◌, AllPairs, List, Some, ap, subst, sym, ◌∙◌}
use Rattle.mt_names.specs.Shards.{KeyRange}
use Rattle.mt_plain.specs.Events.{stopped}
use Rattle.mt_stream.specs.Streams.{StreamValue}
use Rattle.mt_workflow.specs.Workflows.{LaneState, stream_name, with_slot}
use Rattle.mt_steps.specs.Streams.{stopped_stream}
use Rattle.mt_steps.proofs.LaneLemmas.{of_range}
use Rattle.mt_steps.proofs.streams.put_stopped.Goals as goal

pub new_running-stream-requires : goal.new_running-stream-requires
new_running-stream-requires c = subst (AllPairs (λ a b. a ≢ b)) (sym c.table_list.ensures.tables) c.table_list.ensures.distinct

pub returns-clause-after : goal.returns-clause-after
returns-clause-after c =
    let w = c.args.workflow.now in
    let name = stream_name c.args.slot in
    let made : c.stop.new.self ≡ stopped_stream w.tables c.range.result.now c.args.position =
    c.stop.ensures ∙ ap (λ (s : StreamValue). record s { state = stopped }) c.new_running-stream.ensures
    ∙ ap (λ tables. stopped_stream tables c.copied-range.result c.args.position) c.table_list.ensures.tables
    ∙ ap (λ (range : KeyRange). stopped_stream w.tables range c.args.position) c.copied-range.ensures in
    c.put_slot.ensures.after ∙ ap (λ (s : StreamValue). with_slot w c.args.shard name (Some s)) made
    ∙ ap (λ (lanes : List LaneState). record w { lanes = lanes }) (of_range name w.tables c.args.position c.range.result.now w.lanes c.args.shard c.range.ensures.lane)
