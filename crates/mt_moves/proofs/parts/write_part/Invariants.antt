-- The tables before this one are written.
use Rattle.std.proofs.Common.{◌≡◌, map, take}
use Rattle.mt_names.specs.Types.{no_types}
use Rattle.mt_model.specs.Part.{part_keys, with_entries}
use Rattle.mt_workflow.specs.Workflows.{wanted}
use Rattle.mt_moves.proofs.parts.write_part.Given as goal

abbrev pub invariant-loop-table : goal.invariant-loop-table
invariant-loop-table l = l.topology ≡ with_entries l.initial.topology (map (wanted l.workflow no_types) (part_keys l.workflow.source l.workflow.target (take l.table-index l.workflow.tables)))
