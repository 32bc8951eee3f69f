-- What refuses the tables refuses those that are left.
use Rattle.std.proofs.Common.{◌≡◌, drop}
use Rattle.mt_primary.specs.Primaries as primaries
use Rattle.mt_stands.specs.Workflows.{tables_refusal}
use Rattle.mt_moves.proofs.creating.tables_refusal.Given as goal

abbrev pub invariant-loop-table : goal.invariant-loop-table
invariant-loop-table l =
    (primaries : primaries.Primaries)
    → tables_refusal (record { topology = l.topology; primaries = primaries; workflows = l.workflows.entries }) l.source l.target l.tables
    ≡ tables_refusal (record { topology = l.topology; primaries = primaries; workflows = l.workflows.entries }) l.source l.target (drop l.table-index l.tables)
