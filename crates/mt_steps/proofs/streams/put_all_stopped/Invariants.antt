-- The lanes before this one have their new streams, and what stood there is put away.
use Rattle.std.proofs.Common.{◌≡◌, ◌++◌, map, take, drop}
use Rattle.mt_workflow.specs.Workflows.{lane_slot, stream_name}
use Rattle.mt_steps.specs.declared.log.PutAway.{PutAway}
use Rattle.mt_steps.specs.Shards.{with_each}
use Rattle.mt_steps.specs.Streams.{lane_made}
use Rattle.mt_steps.proofs.streams.put_all_stopped.Given as goal

abbrev pub invariant-loop-shard : goal.invariant-loop-shard
invariant-loop-shard l =
    let w = l.initial.workflow in
    record {
      made : l.workflow ≡ record w { lanes = with_each (lane_made (stream_name l.slot) w.tables) (take l.shard l.ends) w.lanes };
      slots : map (λ (k : PutAway). k.slot) l.kept ≡ map (lane_slot (stream_name l.slot)) (take l.shard w.lanes) ++ drop l.shard (map (λ (k : PutAway). k.slot) l.initial.kept);
      listed : map (λ (k : PutAway). k.listed) l.kept ≡ map (λ (k : PutAway). k.listed) l.initial.kept;
    }
