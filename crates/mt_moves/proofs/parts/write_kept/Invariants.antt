-- The tables before this one are written.
use Rattle.std.proofs.Common.{◌≡◌, map, take}
use Rattle.mt_model.specs.Part.{part_keys, with_entries}
use Rattle.mt_model.specs.Topology.{value_of}
use Rattle.mt_stands.specs.Keys.{rules_only}
use Rattle.mt_moves.proofs.parts.write_kept.Given as goal

abbrev pub invariant-loop-table : goal.invariant-loop-table
invariant-loop-table l = l.topology ≡ with_entries l.initial.topology (map (value_of (rules_only l.workflow.kept)) (part_keys l.workflow.source l.workflow.target (take l.table-index l.workflow.tables)))
