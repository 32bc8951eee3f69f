-- The tables before this one are pushed.
use Rattle.std.proofs.Common.{◌≡◌, take}
use Rattle.mt_plain.specs.Asks.{create_change}
use Rattle.mt_workflow.specs.Workflows.{live_of}
use Rattle.mt_stands.specs.Keys.{rules_only}
use Rattle.mt_moves.proofs.asking.change_of.Given as goal

abbrev pub invariant-loop-table : goal.invariant-loop-table
invariant-loop-table l = l.change ≡ create_change (rules_only l.workflow.kept) (record (live_of l.workflow) { tables = take l.table-index l.workflow.tables })
