-- The streams of a new workflow.
use Rattle.std.proofs.Common.{◌≡◌, ℕ, zero, suc, List, [], ◌∷◌, map, Some, slice_get, option_and_then}
use Rattle.mt_names.specs.Shards.{KeyRange}
use Rattle.mt_plain.specs.Events.{forward}
use Rattle.mt_stream.specs.Streams.{StreamValue}
use Rattle.mt_workflow.specs.Workflows.{lane_slot, new_lane}

pub new-tables : (tables : List (List ℕ)) (position : ℕ) (ranges : List KeyRange) (shard : ℕ) (stream : StreamValue)
    → option_and_then (lane_slot forward) (slice_get (map (new_lane tables position) ranges) shard) ≡ Some stream → stream.tables ≡ tables
new-tables tables position [] shard stream e = absurd cc
new-tables tables position (range ∷ ranges) zero stream e = cc
new-tables tables position (range ∷ ranges) (suc shard) stream e = new-tables tables position ranges shard stream e
