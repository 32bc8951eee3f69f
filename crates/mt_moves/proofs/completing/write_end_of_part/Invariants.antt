-- The keys before this one are written, and places stay.
use Rattle.std.proofs.Common.{◌≡◌, map, take}
use Rattle.mt_model.specs.declared.entries.EntryKey.{EntryKey}
use Rattle.mt_model.specs.Part.{with_entries}
use Rattle.mt_model.specs.Topology.{has_place}
use Rattle.mt_workflow.specs.Workflows.{keys_of_part}
use Rattle.mt_stands.specs.Keys.{end_entry}
use Rattle.mt_moves.proofs.completing.write_end_of_part.Given as goal

abbrev pub invariant-loop-index : goal.invariant-loop-index
invariant-loop-index l = record {
  written : l.topology ≡ with_entries l.initial.topology (map (end_entry l.workflow.target) (take l.index (keys_of_part l.workflow)));
  places : (k : EntryKey) → has_place l.topology k ≡ has_place l.initial.topology k;
}
