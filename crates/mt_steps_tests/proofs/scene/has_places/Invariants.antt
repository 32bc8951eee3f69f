-- The keys before this one have places.
use Rattle.std.proofs.Common.{◌≡◌, ℕ, ◌<◌, true, slice_index_or}
use Rattle.mt_model.specs.declared.entries.EntryKey.{EntryKey}
use Rattle.mt_model.specs.Topology.{has_place}
use Rattle.mt_workflow.specs.Workflows.{keys_of_part}
use Rattle.mt_steps_tests.proofs.scene.has_places.Given as goal

abbrev pub invariant-loop-index : goal.invariant-loop-index
invariant-loop-index l = (k : ℕ) (d : EntryKey) → k < l.index → has_place l.topology (slice_index_or (keys_of_part l.workflow) k d) ≡ true
