-- The rule keys of the tables passed are kept.
use Rattle.std.proofs.Common.{[], take}
use Rattle.mt_workflow.specs.Builds.{Agrees, with_kept}
use Rattle.mt_workflow.specs.Workflows.{keys_of_rules}
use Rattle.mt_workflow.proofs.building.kept_rules.Given as goal

abbrev pub invariant-loop-table : goal.invariant-loop-table
invariant-loop-table l = Agrees l.kept.entries (with_kept l.rules [] (keys_of_rules l.source l.target (take l.table-index l.tables)))
