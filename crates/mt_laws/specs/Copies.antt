-- Streams and the copy that they feed.
use Rattle.std.specs.Prelude.{◌≡◌, ℕ, Bool, ◌&&◌, ◌||◌, ◌==◌, Option, Some, ⊤}
use Rattle.mt_plain.specs.Events.{Event, advance, undo, Slot, running, frozen, Way}
use Rattle.mt_plain.specs.Plain.{Lane, Live, catch_up, next_step, owner, switch_reads}
use Rattle.mt_plain.specs.Refuse.{will_read_other_side}
use Rattle.mt_plain.specs.Slots.{read_side}

-- a stream that runs, and one that is frozen, at a position
abbrev pub runs_at : ℕ → Option Slot
runs_at position = Some (record { state = running; position = position })

abbrev pub frozen_at : ℕ → Option Slot
frozen_at position = Some (record { state = frozen; position = position })

-- whether the step that is next tests that nothing is left to be fed: the catch-up does, and the switch of reads where these go to
-- the side that isn't the owner
abbrev pub tests_level : Live → Way → Bool
tests_level w way = (next_step way == catch_up) || (next_step way == switch_reads) && will_read_other_side w way

-- an advance of the workflow's stream that reads the owner's log
abbrev pub Feeds : Live → Lane → Event → Type 0
Feeds w lane (advance workflow stream shard at at_most) = (workflow ≡ w.name) × (shard ≡ lane.shard) × (read_side w stream ≡ owner w)
Feeds w lane other = ⊥

-- an undo, of whatever workflow
abbrev pub Undoes : Event → Type 0
Undoes (undo workflow at) = ⊤
Undoes other = ⊥
