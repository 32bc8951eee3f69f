-- One lane more.
use Rattle.std.proofs.Common.{◌≡◌, ◌+◌, ◌++◌, suc, List, Option, None, get_or, map, take, drop, length, set, refl, ap, sym, arith, ◌∙◌}
use Rattle.std.proofs.lemmas.List.{get_or-map, length-map}
use Rattle.mt_stream.specs.Streams.{StreamValue}
use Rattle.mt_workflow.specs.Workflows.{LaneState, WorkflowState, stream_name, with_lane_slot, with_slot}
use Rattle.mt_steps.specs.declared.log.PutAway.{PutAway}
use Rattle.mt_steps.specs.Shards.{with_each}
use Rattle.mt_steps.proofs.LaneLemmas.{length-with_each, listed_kept, slots_set, with_each_more, written_behind, written_more}
use Rattle.mt_steps.proofs.streams.put_all_back.Goals as goal

pub put_slot-requires : goal.put_slot-requires
put_slot-requires c =
    let w = c.args.workflow.now in
    let slots = map (λ (k : PutAway). k.slot) c.args.kept.now in
    let is = ap (λ (v : WorkflowState). length v.lanes) c.loop-shard.invariant.given ∙ length-with_each (with_lane_slot (stream_name c.args.slot)) (take c.loop-shard.shard slots) w.lanes in
    omega arith

pub loop-shard-preserved : goal.loop-shard-preserved
loop-shard-preserved c =
    let w = c.args.workflow.now in
    let name = stream_name c.args.slot in
    let i = c.loop-shard.shard in
    let old = c.args.kept.now in
    let slots = map (λ (k : PutAway). k.slot) old in
    let change = with_lane_slot name in
    let on : suc i ≡ i + 1 = omega arith in
    let long : length slots ≡ length old = length-map old (λ (k : PutAway). k.slot) in
    let stood : c.replace-stream.result ≡ get_or slots i None =
    c.replace-stream.ensures.value ∙ ap (λ n. (get_or c.loop-shard.kept n c.index-kept-from.result).slot) c.from.ensures
    ∙ sym (get_or-map (λ (k : PutAway). k.slot) c.loop-shard.kept i c.index-kept-from.result None (omega arith))
    ∙ ap (λ (s : List (Option StreamValue)). get_or s i None) c.loop-shard.invariant.slots ∙ written_behind (λ (s : Option StreamValue). None) slots slots i None refl (omega arith) in
    record {
      given =
          c.put_slot.ensures.after
          ∙ ap (λ (s : Option StreamValue). with_slot c.loop-shard.workflow i name s) stood
          ∙ ap (λ (v : WorkflowState). with_slot v i name (get_or slots i None)) c.loop-shard.invariant.given
          ∙ ap (λ (lanes : List LaneState). record w { lanes = lanes }) (with_each_more change slots w.lanes i None (omega arith))
          ∙ ap (λ n. record w { lanes = with_each change (take n slots) w.lanes }) on;
      slots =
          slots_set c.index-kept-from.result c.replace-stream.new.dest c.loop-shard.kept c.from.result
          ∙ ap (λ n. set (map (λ (k : PutAway). k.slot) c.loop-shard.kept) n c.replace-stream.new.dest) c.from.ensures
          ∙ ap (λ (s : Option StreamValue). set (map (λ (k : PutAway). k.slot) c.loop-shard.kept) i s) c.replace-stream.ensures.after
          ∙ ap (λ (s : List (Option StreamValue)). set s i None) c.loop-shard.invariant.slots
          ∙ written_more (λ (s : Option StreamValue). None) slots slots i None refl (omega arith) ∙ ap (λ n. map (λ (s : Option StreamValue). None) (take n slots) ++ drop n slots) on;
      listed = listed_kept c.index-kept-from.result c.replace-stream.new.dest c.loop-shard.kept c.from.result ∙ c.loop-shard.invariant.listed;
    }
