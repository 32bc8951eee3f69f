-- The lanes before this one are told.
use Rattle.std.proofs.Common.{◌≡◌, length, map, take}
use Rattle.mt_event.specs.Events.{lanes_from}
use Rattle.mt_stands.specs.Workflows.{lane_by}
use Rattle.mt_site.proofs.show.shown_lanes.Given as goal

abbrev pub invariant-loop-shard : goal.invariant-loop-shard
invariant-loop-shard l = record {
  told : lanes_from l.lanes.items ≡ map lane_by (take l.shard l.workflow.lanes);
  count : length l.lanes.items ≡ l.shard;
}
