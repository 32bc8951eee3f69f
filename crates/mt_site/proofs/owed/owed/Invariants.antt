-- What is owed to the workflows passed, with what is owed to those left, is owed to all; and none is owed more than 256.
use Rattle.std.proofs.Common.{◌≡◌, ◌+◌, ◌*◌, ◌≤◌, length}
use Rattle.mt_plain.specs.Refuse.{most_workflows}
use Rattle.mt_site.proofs.owed.owed.Given as goal
use Rattle.mt_site.specs.Owed.{owed_to}

abbrev pub invariant-loop-workflow : goal.invariant-loop-workflow
invariant-loop-workflow l = record {
  sum : l.owed + owed_to l.workflow-iterator ≡ owed_to l.workflows.entries;
  few : l.owed + 256 * length l.workflow-iterator ≤ 256 * most_workflows;
}
