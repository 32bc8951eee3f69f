-- The passes before this one are counted, and there is room for all.
use Rattle.std.proofs.Common.{◌≡◌, ◌≤◌, length, map, take}
use Rattle.std.specs.Vec.{vec_capacity}
use Rattle.mt_desk.proofs.account.counted.Given as goal

abbrev pub invariant-loop-pass : goal.invariant-loop-pass
invariant-loop-pass g l = record {
  room : length l.fn.passes ≤ vec_capacity l.counts;
  counted : l.counts.items ≡ map (λ pass. (pass.client, length pass.calls.items)) (take l.pass-index l.fn.passes);
}
