-- The parts of what is told of a workflow.
use Rattle.std.specs.Prelude.{ℕ, List, [], ◌∷◌, codes}
use Rattle.std.specs.Option.{option_map_or}
use Rattle.mt_names.specs.Shards.{range_text}
use Rattle.mt_names.specs.Types.{type_set_text}
use Rattle.mt_plain.specs.Events.{Shown}
use Rattle.mt_plain.specs.Output.{backs_text, forward_text, forwards_text, slot_text, spaced, way_text}
use Rattle.mt_event.specs.declared.lanes.ShownLane.{ShownLane}
use Rattle.mt_event.specs.Events.{lane_from, shown_stream_from}

-- the forward stream of a shard behind its range, and a space before it
abbrev pub forward_behind : ShownLane → List ℕ
forward_behind lane = 32 ∷ spaced (range_text lane.range) (forward_text (lane_from lane))

-- the back stream, if there is one
abbrev pub back_behind : ShownLane → List ℕ
back_behind lane = option_map_or (λ stream. 32 ∷ spaced (range_text lane.range) (slot_text (shown_stream_from stream))) lane.back []

-- its streams
abbrev pub streams_text : Shown → List ℕ
streams_text s =
    spaced (codes "forward") (spaced (forwards_text s.lanes) (spaced (codes "back") (backs_text s.lanes)))

-- the types whose traffic is switched, the open way, and the streams
abbrev pub traffic_text : Shown → List ℕ
traffic_text s =
    spaced (codes "switched") (spaced (type_set_text s.switched)
    (spaced (codes "way") (spaced (way_text s.way) (streams_text s))))
