-- There is room for all.
use Rattle.std.proofs.Common.{◌≡◌, ◌≤◌, replicate, None}
use Rattle.std.specs.Vec.{vec_capacity, vec_len}
use Rattle.mt_steps.proofs.log.room_for.Given as goal

abbrev pub invariant-loop-shard : goal.invariant-loop-shard
invariant-loop-shard l = record {
  room : l.shards ≤ vec_capacity l.lanes;
  len : vec_len l.lanes ≡ l._shard;
  lanes : l.lanes.items ≡ replicate l._shard (record { listed = None; slot = None });
}
