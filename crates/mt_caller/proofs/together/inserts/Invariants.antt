-- The rows before this one are asked for.
use Rattle.std.proofs.Common.{◌≡◌}
use Rattle.mt_caller.specs.Moves.{inserts}
use Rattle.mt_caller.proofs.together.inserts.Given as goal

abbrev pub invariant-loop-row : goal.invariant-loop-row
invariant-loop-row l = l.lines.items ≡ inserts l.row
