-- The entries of a part that a step writes, and those that its undo writes back.
use Rattle.std.specs.Prelude.{◌≡◌, ℕ, true, ◌==◌, Bool, All, List, [], ◌∷◌, filter, map, if◌then◌else◌}
use Rattle.std.specs.List.{AllByRecursion}
use Rattle.mt_names.specs.declared.types.TypeSet.{TypeSet}
use Rattle.mt_model.specs.declared.entries.Entry.{Entry}
use Rattle.mt_model.specs.declared.entries.EntryKey.{EntryKey}
use Rattle.mt_model.specs.Topology.{TopologyState, has_place, key_of, value_of, with_entry}
use Rattle.mt_plain.specs.Serve.{step_of_entry}
use Rattle.mt_workflow.specs.Workflows.{WorkflowState, keys_of_part, live_of, wanted}

-- whether an entry changes with the step of a number (How traffic is switched)
abbrev pub is_of_step : WorkflowState → ℕ → EntryKey → Bool
is_of_step w n key = step_of_entry (live_of w) key == n

-- the keys of the part that change with a step (How traffic is switched)
abbrev pub step_keys : WorkflowState → ℕ → List EntryKey
step_keys w n = filter (is_of_step w n) (keys_of_part w)

-- what a step writes: each of them as it is to be once some types are switched (How traffic is switched)
abbrev pub step_entries : WorkflowState → TypeSet → ℕ → List Entry
step_entries w types n = map (wanted w types) (step_keys w n)

-- a record with what the topology says, where the entry changes with the step (this profile's own)
abbrev pub recorded_entry : WorkflowState → ℕ → TopologyState → Entry → Entry
recorded_entry w n t e = if is_of_step w n (key_of e) then value_of t (key_of e) else e

-- a whole record so (this profile's own)
abbrev pub recorded : WorkflowState → ℕ → TopologyState → List Entry → List Entry
recorded w n t entries = map (recorded_entry w n t) entries

-- what an undo of a step writes back (this profile's own)
abbrev pub recorded_of : WorkflowState → ℕ → List Entry → List Entry
recorded_of w n entries = filter (λ e. is_of_step w n (key_of e)) entries

-- each key of the part has a place (this profile's own)
abbrev pub HasPlaces : TopologyState → WorkflowState → Type 0
HasPlaces t w = All (λ key. has_place t key ≡ true) (keys_of_part w)

-- ---- one entry

-- a key is written where it changes with the step
abbrev pub with_wanted : WorkflowState → TypeSet → ℕ → TopologyState → EntryKey → TopologyState
with_wanted w types n t key = if is_of_step w n key then with_entry t (wanted w types key) else t

-- an entry is written back where it changes with the step
abbrev pub with_recorded : WorkflowState → ℕ → TopologyState → Entry → TopologyState
with_recorded w n t e = if is_of_step w n (key_of e) then with_entry t e else t

-- ---- one entry after the other

-- each of some keys has a place
abbrev pub HavePlaces : TopologyState → List EntryKey → Type 0
HavePlaces t keys = AllByRecursion (λ key. has_place t key ≡ true) keys

-- each entry as it is recorded when the topology says what was written before it (this profile's own)
abbrev pub swept : WorkflowState → TypeSet → ℕ → TopologyState → List Entry → List Entry
swept w types n t [] = []
swept w types n t (e ∷ entries) = recorded_entry w n t e ∷ swept w types n (with_wanted w types n t (key_of e)) entries
