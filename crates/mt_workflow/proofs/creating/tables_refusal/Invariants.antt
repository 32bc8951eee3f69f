-- What refuses the tables refuses those that are left.
use Rattle.std.proofs.Common.{◌≡◌, drop}
use Rattle.mt_workflow.specs.Creates.{tables_refusal}
use Rattle.mt_workflow.proofs.creating.tables_refusal.Given as goal

abbrev pub invariant-loop-table : goal.invariant-loop-table
invariant-loop-table l = tables_refusal l.topology l.source l.target l.tables ≡ tables_refusal l.topology l.source l.target (drop l.table-index l.tables)
