-- What is left covers what the whole does not yet.
use Rattle.std.proofs.Common.{◌≡◌, true, [], drop, take}
use Rattle.std.specs.List.{list_all}
use Rattle.mt_names.specs.Shards.{cuts_behind, is_range, outcome}
use Rattle.mt_names.proofs.ShardLemmas.{goes_on}
use Rattle.mt_names.proofs.ranges.check_covering.Given as goal

abbrev pub invariant-loop-range : goal.invariant-loop-range
invariant-loop-range l = record {
  left : outcome (goes_on l.start (drop l.range-index l.ranges)) ≡ outcome (cuts_behind [] l.ranges);
  each : list_all is_range (take l.range-index l.ranges) ≡ true;
}
