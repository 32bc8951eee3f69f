-- The rows before this one are asked for.
use Rattle.std.proofs.Common.{◌≡◌}
use Rattle.mt_race.specs.Agreements.{writes_of}
use Rattle.mt_race.proofs.crew.inserts.Given as goal

abbrev pub invariant-loop-row : goal.invariant-loop-row
invariant-loop-row l = l.lines.items ≡ writes_of l.row l.worker
