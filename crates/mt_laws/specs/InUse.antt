-- Streams in use: those that are not frozen.
use Rattle.std.specs.Prelude.{◌≡◌, ◌≢◌, ℕ, ◌≤◌, List, Some}
use Rattle.mt_plain.specs.Events.{StreamName, frozen, Slot}
use Rattle.mt_plain.specs.Plain.{Lane, Live, Plain, lane_at, live_at}
use Rattle.mt_plain.specs.Slots.{log_length, read_shard, read_side, slot_of}

-- where a stream of a live workflow comes from, by the state before the event: its shard's stream was there, not frozen, read the same side
-- and stood no further; or it begins where the log that it reads ended, or later
pub data StreamGoesOn (p : Plain) (name : List ℕ) (shard : ℕ) (v : Live) (lane : Lane) (stream : StreamName) (b : Slot) : Type 0 where
  from_before : (w : Live) (one : Lane) (a : Slot) → live_at p name ≡ Some w → lane_at w shard ≡ Some one → slot_of w one stream ≡ Some a → a.state ≢ frozen
      → read_side w stream ≡ read_side v stream → a.position ≤ b.position → StreamGoesOn p name shard v lane stream b
  from_the_end : log_length p (read_side v stream) (read_shard lane stream) ≤ b.position → StreamGoesOn p name shard v lane stream b
