-- The pass is the first client's.
use Rattle.std.proofs.Common.{◌≡◌}
use Rattle.mt_caller.proofs.together.create.Given as goal

abbrev pub invariant-loop-event : goal.invariant-loop-event
invariant-loop-event g l = l.pass.client ≡ 1
