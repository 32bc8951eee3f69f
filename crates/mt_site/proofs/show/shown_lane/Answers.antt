-- The lane of the shard has the forward stream.
use Rattle.std.proofs.Common.{◌≡◌, Some, ap, option_map, rules, slice_get, sym, ◌∙◌}
use Rattle.mt_event.specs.Events.{shown_stream_from}
use Rattle.mt_plain.specs.Events.{forward}
use Rattle.mt_workflow.specs.Workflows.{slot_of}
use Rattle.mt_stands.specs.Workflows.{slot_from}
use Rattle.mt_site.proofs.ShowLemmas.{lane_told}
use Rattle.mt_site.proofs.show.shown_lane.Goals as goal

pub returns : goal.returns
returns c =
    let w = c.args.workflow.now in
    let there : slot_of w c.args.shard forward ≡ Some c.unwrap-forward.result.now = search rules in
    lane_told (slice_get w.lanes c.args.shard) c.unwrap-forward.result.now there c.copied.result (c.range.ensures.lane ∙ ap Some (sym c.copied.ensures))
    (shown_stream_from c.shown_stream.result) c.shown_stream.ensures c.copied-2.result c.copied-2.ensures
    (option_map shown_stream_from c.shown_back.result) (c.shown_back.ensures ∙ ap (option_map slot_from) c.slot-2.ensures)
