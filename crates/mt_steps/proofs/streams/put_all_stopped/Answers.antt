-- One lane more.
use Rattle.std.proofs.Common.{◌≡◌, ◌+◌, ◌++◌, suc, List, Option, None, get_or, map, take, drop, length, set, ap, arith, ◌∙◌}
use Rattle.std.proofs.lemmas.List.{length-map}
use Rattle.mt_names.specs.Shards.{whole}
use Rattle.mt_stream.specs.Streams.{StreamValue}
use Rattle.mt_workflow.specs.Workflows.{LaneState, WorkflowState, change_lane, lane_slot, slot_of, stream_name}
use Rattle.mt_steps.specs.declared.log.PutAway.{PutAway}
use Rattle.mt_steps.specs.Shards.{with_each}
use Rattle.mt_steps.specs.Streams.{lane_made}
use Rattle.mt_steps.proofs.LaneLemmas.{listed_kept, slot_behind, slots_set, with_each_more, written_more}
use Rattle.mt_steps.proofs.streams.put_all_stopped.Goals as goal

pub loop-shard-preserved : goal.loop-shard-preserved
loop-shard-preserved c =
    let w = c.args.workflow.now in
    let name = stream_name c.args.slot in
    let i = c.loop-shard.shard in
    let ends = c.args.ends.now in
    let none : LaneState = record { range = whole; forward = None; back = None } in
    let old = map (λ (k : PutAway). k.slot) c.args.kept.now in
    let change = lane_made name w.tables in
    let on : suc i ≡ i + 1 = omega arith in
    let long : length old ≡ length w.lanes = length-map c.args.kept.now (λ (k : PutAway). k.slot) ∙ c.requires.kept in
    let stood : c.put_stopped.result ≡ lane_slot name (get_or w.lanes i none) =
    c.put_stopped.ensures.before ∙ ap (λ (v : WorkflowState). slot_of v i name) c.loop-shard.invariant.made ∙ slot_behind change ends name w.lanes i none (omega arith) in
    record {
      made =
          c.put_stopped.ensures.after
          ∙ ap (λ n. record c.loop-shard.workflow { lanes = change_lane i (lane_made name c.loop-shard.workflow.tables (get_or ends n 0)) c.loop-shard.workflow.lanes }) c.from-at.ensures
          ∙ ap (λ (v : WorkflowState). record v { lanes = change_lane i (lane_made name v.tables (get_or ends i 0)) v.lanes }) c.loop-shard.invariant.made
          ∙ ap (λ (lanes : List LaneState). record w { lanes = lanes }) (with_each_more change ends w.lanes i 0 (omega arith))
          ∙ ap (λ n. record w { lanes = with_each change (take n ends) w.lanes }) on;
      slots =
          slots_set c.index-kept-at.result c.put_stopped.result c.loop-shard.kept c.from-at.result
          ∙ ap (λ n. set (map (λ (k : PutAway). k.slot) c.loop-shard.kept) n c.put_stopped.result) c.from-at.ensures
          ∙ ap (λ (s : Option StreamValue). set (map (λ (k : PutAway). k.slot) c.loop-shard.kept) i s) stood
          ∙ ap (λ (slots : List (Option StreamValue)). set slots i (lane_slot name (get_or w.lanes i none))) c.loop-shard.invariant.slots
          ∙ written_more (lane_slot name) w.lanes old i none long (omega arith) ∙ ap (λ n. map (lane_slot name) (take n w.lanes) ++ drop n old) on;
      listed = listed_kept c.index-kept-at.result c.put_stopped.result c.loop-shard.kept c.from-at.result ∙ c.loop-shard.invariant.listed;
    }
