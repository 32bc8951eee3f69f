-- No workflow passed moves it.
use Rattle.std.proofs.Common.{◌≡◌}
use Rattle.mt_stands.specs.Workflows.{is_moved}
use Rattle.mt_moves.proofs.CreateLemmas.{any_moves}
use Rattle.mt_moves.proofs.creating.is_moved.Given as goal

abbrev pub invariant-loop-workflow : goal.invariant-loop-workflow
invariant-loop-workflow l = is_moved l.workflows.entries l.table ≡ any_moves l.table l.workflow-iterator
