-- The ranges so far are written.
use Rattle.std.proofs.Common.{◌≡◌, ◌*◌, ◌-◌, ◌≤◌, length, map, take}
use Rattle.std.specs.List.{join_with_byte}
use Rattle.mt_names.specs.Shards.{range_text}
use Rattle.mt_names.specs.Types.{comma}
use Rattle.mt_names.proofs.shards.ShardList.text.Given as goal

abbrev pub invariant-loop-range : goal.invariant-loop-range
invariant-loop-range l = record {
  written : l.text.bytes ≡ join_with_byte comma (map range_text (take l.range-index l.ranges));
  short : length l.text.bytes ≤ 34 * l.range-index - 1;
}
