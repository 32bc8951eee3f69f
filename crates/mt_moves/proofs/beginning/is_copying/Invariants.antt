-- The rows of the shards before this one are copied.
use Rattle.std.proofs.Common.{◌≡◌, true, take}
use Rattle.std.specs.List.{list_all}
use Rattle.mt_steps.specs.Shards.{shards_of}
use Rattle.mt_stands.specs.Switching.{has_copied_at}
use Rattle.mt_moves.proofs.beginning.is_copying.Given as goal

abbrev pub invariant-loop-shard : goal.invariant-loop-shard
invariant-loop-shard l = list_all (has_copied_at l.workflow) (take l.shard (shards_of l.workflow)) ≡ true
