-- The passes before this one are those of the first workers.
use Rattle.std.proofs.Common.{map}
use Rattle.mt_race.specs.Agreements.{AreWriters}
use Rattle.mt_race.proofs.racing.writers_of.Given as goal

abbrev pub invariant-loop-one : goal.invariant-loop-one
invariant-loop-one g l = AreWriters l.writes 0 (map (λ pass. (pass.client, pass.calls.items)) l.writers.items)
