-- What a step and an undo change of a live workflow: its entries, the primaries' own lists and its streams, each by one rule for all steps.
use Rattle.std.specs.Prelude.{ℕ, suc, ◌==◌, Bool, if◌then◌else◌, List, Option, None, Some, option_map}
use Rattle.mt_model.specs.declared.entries.Entry.{Entry}
use Rattle.mt_model.specs.declared.entries.EntryKey.{EntryKey}
use Rattle.mt_model.specs.Topology.{TopologyState}
use Rattle.mt_plain.specs.Events.{StreamName, StreamState, running, stopped, frozen, Slot, Way}
use Rattle.mt_plain.specs.Plain.{Live, create_back, freeze_old, last_step, next_place, next_step, place_of_refresh, start_back, stop_feeding}
use Rattle.mt_plain.specs.Serve.{is_listed_at, refuses_by, serve, served_by, step_of_entry, step_of_list}
use Rattle.mt_plain.specs.Slots.{is_feeding}

-- ---- entries

-- an entry of the part behind the step that is next: it has the value with the types after the way where it is the step's own
abbrev pub entry_stepped : TopologyState → Live → Way → EntryKey → Entry
entry_stepped u w way key = if next_step way == step_of_entry w key then serve u w way.after key else served_by u w key

-- an entry behind an undo: it has the value with the types before the way where it is the last step's own
abbrev pub entry_undone : TopologyState → Live → Way → EntryKey → Entry
entry_undone u w way key = if last_step way == step_of_entry w key then serve u w way.before key else served_by u w key

-- ---- own lists

-- the place in the plan of the refresh of the primary of a shard
abbrev pub place_of_list : Live → Way → (keyspace : List ℕ) → (shard : ℕ) → ℕ
place_of_list w way keyspace shard = place_of_refresh way (step_of_list w keyspace) shard

-- whether the own list of a shard's primary has the moved tables behind the step that is next
abbrev pub list_stepped : Live → Way → (keyspace : List ℕ) → (shard : ℕ) → Bool
list_stepped w way keyspace shard =
    if next_place way == place_of_list w way keyspace shard then is_listed_at w way.after keyspace else refuses_by w keyspace shard

-- and behind an undo
abbrev pub list_undone : Live → Way → (keyspace : List ℕ) → (shard : ℕ) → Bool
list_undone w way keyspace shard =
    if next_place way == suc (place_of_list w way keyspace shard) then is_listed_at w way.before keyspace else refuses_by w keyspace shard

-- ---- streams

-- a stream in another state
abbrev pub in_state : StreamState → Option Slot → Option Slot
in_state state slot = option_map (λ (s : Slot). record { state = state; position = s.position }) slot

-- what a step does to the stream that feeds on its way: it is stopped, and with the last step frozen, or gone on a way back
abbrev pub feeding_stepped : (backward : Bool) → (step : ℕ) → Option Slot → Option Slot
feeding_stepped backward step slot =
    if step == stop_feeding then in_state stopped slot
    else if step == freeze_old then (if backward then None else in_state frozen slot)
    else slot

-- what it does to the other one: it is made, stopped at the end of the log that it will read, and it is started
abbrev pub other_stepped : (step log_end : ℕ) → Option Slot → Option Slot
other_stepped step log_end slot =
    if step == create_back then Some (record { state = stopped; position = log_end })
    else if step == start_back then in_state running slot
    else slot

-- a stream behind the step that is next
abbrev pub slot_stepped : Way → StreamName → (log_end : ℕ) → Option Slot → Option Slot
slot_stepped way name log_end slot =
    if is_feeding way name then feeding_stepped way.back (next_step way) slot else other_stepped (next_step way) log_end slot

-- a stream behind an undo: the feeding one runs again, and in the place of one that was made is again what stood there before the way
abbrev pub slot_undone : Way → StreamName → (saved : Option Slot) → Option Slot → Option Slot
slot_undone way name saved slot =
    if is_feeding way name then (if last_step way == stop_feeding then in_state running slot else slot)
    else if last_step way == create_back then saved else slot
