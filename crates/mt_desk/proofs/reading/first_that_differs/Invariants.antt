-- The lines before this one are of the calls that were read, each of its client's pass.
use Rattle.std.proofs.Common.{◌≡◌, All, length, map, take}
use Rattle.mt_desk.specs.Numbers.{AreRead}
use Rattle.mt_desk.specs.Passes.{IsOfPass}
use Rattle.mt_desk.proofs.reading.first_that_differs.Given as goal

abbrev pub invariant-loop-line : goal.invariant-loop-line
invariant-loop-line g l = record {
  long : length l.read ≡ 65536;
  read : AreRead (map (λ pass. (pass.client, pass.calls.items)) l.fn.passes) (take l.line-index l.fn.history) l.fn.numbers l.read;
  others : All (IsOfPass (map (λ pass. (pass.client, pass.calls.items)) l.fn.passes)) (take l.line-index l.fn.history);
}
