-- The rows of the clients before this one are asked for.
use Rattle.std.proofs.Common.{◌≡◌}
use Rattle.mt_race.specs.Agreements.{all_reads}
use Rattle.mt_race.proofs.crew.gets.Given as goal

abbrev pub invariant-loop-worker : goal.invariant-loop-worker
invariant-loop-worker l = l.lines.items ≡ all_reads l.worker l.writes
