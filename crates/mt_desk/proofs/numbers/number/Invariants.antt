-- The passes before this one are noted.
use Rattle.std.proofs.Common.{◌≡◌, length, map, take}
use Rattle.mt_desk.specs.Numbers.{AreNumbers}
use Rattle.mt_desk.proofs.numbers.number.Given as goal

abbrev pub invariant-loop-index : goal.invariant-loop-index
invariant-loop-index g l = record {
  long : length l.numbers ≡ 65536;
  are : AreNumbers (map (λ pass. (pass.client, pass.calls.items)) (take l.index l.fn.passes)) l.numbers;
}
