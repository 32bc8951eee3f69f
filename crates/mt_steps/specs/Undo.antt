-- What is kept of a way for its undo.
use Rattle.std.specs.Prelude.{◌≡◌, List, length, map, Option, None}
use Rattle.mt_model.specs.declared.entries.Entry.{Entry}
use Rattle.mt_model.specs.Topology.{Marks, key_of}
use Rattle.mt_stream.specs.Streams.{StreamValue}
use Rattle.mt_workflow.specs.Workflows.{WorkflowState, keys_of_part, wanted}

-- an entry for each key of the part, as it stood before its step; and for each shard of the target what stood on an own list before the
-- last refresh that was for the shard, and the stream that a new one was put in place of (this profile's own)
pub record UndoState : Type 0 where
  pub entries : List Entry
  pub listed : List (Option Marks)
  pub slots : List (Option StreamValue)

-- what is kept where no step was done: the part as it is served at rest (this profile's own)
abbrev pub new_log : WorkflowState → UndoState
new_log w = record {
  entries = map (wanted w w.switched) (keys_of_part w);
  listed = map (λ lane. None) w.lanes;
  slots = map (λ lane. None) w.lanes;
}

-- it is kept for this workflow: its entries are those of the part, in its order, and it has room for each shard (this profile's own)
pub record IsLogOf (w : WorkflowState) (log : UndoState) : Type 0 where
  pub entries : map key_of log.entries ≡ keys_of_part w
  pub listed : length log.listed ≡ length w.lanes
  pub slots : length log.slots ≡ length w.lanes
