-- The tables before this one have their records, and there is room for all.
use Rattle.std.proofs.Common.{◌≡◌, ◌≤◌, length, map, take}
use Rattle.std.specs.Vec.{vec_capacity, vec_len}
use Rattle.mt_model.specs.Part.{part_keys}
use Rattle.mt_workflow.specs.Workflows.{wanted}
use Rattle.mt_steps.specs.Records.{entries_of}
use Rattle.mt_steps.proofs.log.UndoLog.reserve.Given as goal

abbrev pub invariant-loop-table : goal.invariant-loop-table
invariant-loop-table l = record {
  room : length l.workflow.tables ≤ vec_capacity l.records;
  len : vec_len l.records ≡ l.table-index;
  entries : entries_of l.workflow.source l.workflow.target l.records.items ≡ map (wanted l.workflow l.workflow.switched) (part_keys l.workflow.source l.workflow.target (take l.table-index l.workflow.tables));
}
