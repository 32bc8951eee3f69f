-- What an operator edits by hand: when a call on keyspaces is refused, and what it leaves.
use Rattle.std.specs.Prelude.{◌≡◌, ℕ, ◌&&◌, ◌==◌, not, Bool, true, false, List, length, if◌then◌else◌, Option, None, Some, is_some, Result, Ok, Err}
use Rattle.std.specs.Option.{option_map_or}
use Rattle.std.specs.Map.{lookup}
use Rattle.mt_names.specs.Names.{same_text}
use Rattle.mt_model.specs.declared.faults.TopologyFault.{TopologyFault}
use Rattle.mt_model.specs.declared.faults.TopologyFault.TheVariants.{Memory, NoKeyspace, Exists, Full}
use Rattle.mt_model.specs.Limits.{most_keyspaces, most_tables_in_keyspace}
use Rattle.mt_model.specs.Topology.{Keyspaces, KeyspaceState, is_marked, keyspace_at}
use Rattle.mt_denied.specs.declared.fault.DeniedFault.{DeniedFault}
use Rattle.mt_denied.specs.declared.fault.DeniedFault.TheVariants as denied
use Rattle.mt_keyspace.specs.Room.{lacks_mark_place, mark_place_refusal}

-- what becomes of a value where an edit would make `made` of it, is refused as `refusal` says, and `grows` where it takes
-- memory. A refusal leaves it as it was
abbrev pub Edits : {A : Type 0} → A → Option TopologyFault → Bool → A → Result Unit TopologyFault → A → Type 0
Edits old refusal grows made (Ok done) new = (refusal ≡ None) × (new ≡ made)
Edits old refusal grows made (Err Memory) new = (refusal ≡ None) × (grows ≡ true) × (new ≡ old)
Edits old refusal grows made (Err fault) new = (refusal ≡ Some fault) × (new ≡ old)

-- why a call on the keyspace of a name is refused: it isn't there, or itself refuses
abbrev pub refusal_at : (KeyspaceState → Option TopologyFault) → Keyspaces → List ℕ → Option TopologyFault
refusal_at refusal keyspaces keyspace = option_map_or refusal (keyspace_at keyspaces keyspace) (Some NoKeyspace)

-- a call on the keyspace of a name takes memory
abbrev pub grows_at : (KeyspaceState → Bool) → Keyspaces → List ℕ → Bool
grows_at grows keyspaces keyspace = option_map_or grows (keyspace_at keyspaces keyspace) false

-- a keyspace more
abbrev pub add_keyspace_refusal : Keyspaces → List ℕ → Option TopologyFault
add_keyspace_refusal keyspaces name =
    if is_some (keyspace_at keyspaces name) then Some Exists
    else if length keyspaces == most_keyspaces then Some Full
    else None

-- the table lacks a place in the keyspace
abbrev pub lacks_table_place : KeyspaceState → List ℕ → Bool
lacks_table_place state table = not (is_some (lookup (same_text table) state.tables))

-- a table more in a keyspace
abbrev pub new_table_refusal : KeyspaceState → List ℕ → Option TopologyFault
new_table_refusal state table =
    if is_marked state.tables table then Some Exists
    else if lacks_table_place state table && (length state.tables == most_tables_in_keyspace) then Some Full
    else None

abbrev pub add_table_refusal : Keyspaces → List ℕ → List ℕ → Option TopologyFault
add_table_refusal keyspaces keyspace table = refusal_at (λ state. new_table_refusal state table) keyspaces keyspace

abbrev pub add_table_grows : Keyspaces → List ℕ → List ℕ → Bool
add_table_grows keyspaces keyspace table = grows_at (λ state. lacks_table_place state table) keyspaces keyspace

-- a place for a table in a keyspace
abbrev pub table_place_refusal : Keyspaces → List ℕ → List ℕ → Option TopologyFault
table_place_refusal keyspaces keyspace table = refusal_at (λ state. mark_place_refusal state.tables table) keyspaces keyspace

abbrev pub table_place_grows : Keyspaces → List ℕ → List ℕ → Bool
table_place_grows keyspaces keyspace table = grows_at (λ state. lacks_mark_place state.tables table) keyspaces keyspace

-- a place for a table's denial at a keyspace
abbrev pub denied_place_refusal : Keyspaces → List ℕ → List ℕ → Option TopologyFault
denied_place_refusal keyspaces keyspace table = refusal_at (λ state. mark_place_refusal state.denied table) keyspaces keyspace

abbrev pub denied_place_grows : Keyspaces → List ℕ → List ℕ → Bool
denied_place_grows keyspaces keyspace table = grows_at (λ state. lacks_mark_place state.denied table) keyspaces keyspace

-- an answer of a list of places, as one of keyspaces (this profile's own)
abbrev pub answer_of : Result Unit DeniedFault → Result Unit TopologyFault
answer_of (Ok done) = Ok done
answer_of (Err denied.Memory) = Err Memory
answer_of (Err denied.Full) = Err Full
