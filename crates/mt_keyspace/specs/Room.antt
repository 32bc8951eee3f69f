-- Whether places that tables lack find room, and when a place is refused.
use Rattle.std.specs.Prelude.{ℕ, ◌+◌, ◌&&◌, ◌==◌, not, nat_lt, Bool, List, length, filter, if◌then◌else◌, Option, None, Some, is_some}
use Rattle.std.specs.Map.{lookup}
use Rattle.mt_names.specs.Names.{same_text}
use Rattle.mt_model.specs.declared.faults.TopologyFault.{TopologyFault}
use Rattle.mt_model.specs.declared.faults.TopologyFault.TheVariants.{Full}
use Rattle.mt_model.specs.Limits.{most_tables_in_keyspace}
use Rattle.mt_model.specs.Topology.{Marks}

-- how many of some names lack a place, each counted as often as it is named (this profile's own)
abbrev pub lacking_marks : Marks → List (List ℕ) → ℕ
lacking_marks marks names = length (filter (λ name. not (is_some (lookup (same_text name) marks))) names)

-- there is room for the places that names lack (this profile's own)
abbrev pub has_mark_room : Marks → List (List ℕ) → Bool
has_mark_room marks names = not (nat_lt most_tables_in_keyspace (length marks + lacking_marks marks names))

-- the name lacks a place (this profile's own)
abbrev pub lacks_mark_place : Marks → List ℕ → Bool
lacks_mark_place marks name = not (is_some (lookup (same_text name) marks))

-- why a name gets no place, if it doesn't: it lacks one, and there are as many as there may be (this profile's own)
abbrev pub mark_place_refusal : Marks → List ℕ → Option TopologyFault
mark_place_refusal marks name = if lacks_mark_place marks name && (length marks == most_tables_in_keyspace) then Some Full else None
