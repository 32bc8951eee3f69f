-- The shards before this one have their positions.
use Rattle.std.proofs.Common.{◌≡◌, ◌<◌, ℕ, length}
use Rattle.std.specs.Prelude.{slice_index}
use Rattle.mt_names.specs.Shards.{most_shards}
use Rattle.mt_workers.specs.Controls.{position_on}
use Rattle.mt_workers.proofs.course.positions_on.Given as goal

abbrev pub invariant-loop-shard : goal.invariant-loop-shard
invariant-loop-shard l = record {
  long : length l.positions ≡ most_shards;
  each : (k : ℕ) → k < l.shard → slice_index l.positions k ≡ position_on l.shown l.back k;
}
