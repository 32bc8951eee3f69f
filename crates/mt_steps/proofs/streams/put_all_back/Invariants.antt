-- The lanes before this one have back what was put away.
use Rattle.std.proofs.Common.{◌≡◌, ◌++◌, map, take, drop, Option, None}
use Rattle.mt_stream.specs.Streams.{StreamValue}
use Rattle.mt_workflow.specs.Workflows.{stream_name, with_lane_slot}
use Rattle.mt_steps.specs.declared.log.PutAway.{PutAway}
use Rattle.mt_steps.specs.Shards.{with_each}
use Rattle.mt_steps.proofs.streams.put_all_back.Given as goal

abbrev pub invariant-loop-shard : goal.invariant-loop-shard
invariant-loop-shard l =
    let w = l.initial.workflow in
    let slots = map (λ (k : PutAway). k.slot) l.initial.kept in
    record {
      given : l.workflow ≡ record w { lanes = with_each (with_lane_slot (stream_name l.slot)) (take l.shard slots) w.lanes };
      slots : map (λ (k : PutAway). k.slot) l.kept ≡ map (λ (s : Option StreamValue). None) (take l.shard slots) ++ drop l.shard slots;
      listed : map (λ (k : PutAway). k.listed) l.kept ≡ map (λ (k : PutAway). k.listed) l.initial.kept;
    }
