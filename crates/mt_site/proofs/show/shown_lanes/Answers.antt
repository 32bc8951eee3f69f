-- One lane more is told, up to all.
use Rattle.std.proofs.Common.{◌≡◌, ◌+◌, ap, arith, length, map, rules, ◌∙◌}
use Rattle.std.proofs.lemmas.List.{length_push, map-append, take_all}
use Rattle.mt_event.specs.Events.{lane_from, lanes_from}
use Rattle.mt_stands.specs.Workflows.{lane_by}
use Rattle.mt_site.proofs.ShowLemmas.{lanes-more}
use Rattle.mt_site.proofs.show.shown_lanes.Goals as goal

pub push-requires : goal.push-requires
push-requires c = let cuts = c.shards-shard-end.ensures.cuts in omega (arith, cuts, c.loop-shard.invariant.count, c.loop-shard-test.true)

pub loop-shard-preserved : goal.loop-shard-preserved
loop-shard-preserved c =
    let before = c.loop-shard.lanes.items in
    record {
      told = ap lanes_from c.push.ensures.items ∙ map-append lane_from before _
          ∙ lanes-more c.args.workflow.now.lanes c.loop-shard.shard (lanes_from before) (lane_from c.shown_lane.result) c.loop-shard.invariant.told c.shown_lane.ensures;
      count = ap length c.push.ensures.items ∙ length_push before _ ∙ ap (λ n. n + 1) c.loop-shard.invariant.count;
    }

pub returns : goal.returns
returns c =
    let lanes = c.args.workflow.now.lanes in
    let end : length lanes ≡ c.shards-shard-end.result = search rules in
    c.loop-shard.invariant.told ∙ ap (map lane_by) (take_all c.loop-shard.shard lanes (omega (arith, end, c.loop-shard-test.false)))
