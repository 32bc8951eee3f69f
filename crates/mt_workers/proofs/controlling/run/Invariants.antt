-- The calls so far are those that were due, and less is left with each turn.
use Rattle.std.proofs.Common.{◌≡◌}
use Rattle.mt_workers.proofs.RunLemmas.{IsOnCourse, IsSound, size}
use Rattle.mt_workers.proofs.controlling.run.Given as goal

abbrev pub invariant-turns : goal.invariant-turns
invariant-turns g l = record {
  client : l.pass.client ≡ l.fn.pass.client;
  sound : IsSound l.turn l.course;
  way : IsOnCourse l.workflow l.fn.course l.fn.pass.calls.items l.pass.calls.items l.turn l.course;
}

abbrev pub decreases-turns : goal.decreases-turns
decreases-turns g l = size l.turn l.course
