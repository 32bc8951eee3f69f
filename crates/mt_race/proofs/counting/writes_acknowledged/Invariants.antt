-- The calls before this one are counted.
use Rattle.std.proofs.Common.{◌≡◌, ◌≤◌, take}
use Rattle.mt_race.specs.Agreements.{writes_acknowledged}
use Rattle.mt_race.proofs.counting.writes_acknowledged.Given as goal

abbrev pub invariant-loop-call : goal.invariant-loop-call
invariant-loop-call l = record {
  within : l.count ≤ l.call-index;
  counted : l.count ≡ writes_acknowledged (take l.call-index l.fn.calls);
}
