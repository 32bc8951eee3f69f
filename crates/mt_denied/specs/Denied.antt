-- Denied lists: how a place is reserved, which list of names are the members in order, how a refusal is printed.
use Rattle.std.specs.Prelude.{◌≡◌, ℕ, ◌-◌, ◌<◌, Bool, true, false, List, length, slice_get, codes, is_some, ◌⊎◌, Result, Ok, Err}
use Rattle.std.specs.List.{list_any}
use Rattle.std.specs.List.Sorted.{IsStrictlySortedBy}
use Rattle.std.specs.Cmp.Lexicographic.{slice_cmp}
use Rattle.std.specs.Map.{lookup}
use Rattle.std.specs.Option.{option_map_or}
use Rattle.std.specs.Ordering.{nat_cmp}
use Rattle.mt_names.specs.Names.{same_text}
use Rattle.mt_model.specs.Limits.{most_tables_in_keyspace}
use Rattle.mt_model.specs.Topology.{Marks, is_marked, with_mark_place}
use Rattle.mt_denied.specs.declared.fault.DeniedFault.{DeniedFault}
use Rattle.mt_denied.specs.declared.fault.DeniedFault.TheVariants.{Memory, Full}

-- this profile's own
abbrev pub denied_fault_text : DeniedFault → List ℕ
denied_fault_text Memory = codes "L0 Memory"
denied_fault_text Full = codes "L1 Full"

-- the table has a place (this profile's own)
abbrev pub has_mark_place : Marks → List ℕ → Bool
has_mark_place marks name = is_some (lookup (same_text name) marks)

-- what becomes of a list where a table is reserved (this profile's own): it has a place or gets one; else there were as
-- many as there may be, or no memory for one more
abbrev pub Reserves : Marks → List ℕ → Result Unit DeniedFault → Marks → Type 0
Reserves old name (Ok done) new = ((has_mark_place old name ≡ true) ⊎ (length old < most_tables_in_keyspace)) × (new ≡ with_mark_place old name)
Reserves old name (Err Full) new = (has_mark_place old name ≡ false) × (length old ≡ most_tables_in_keyspace) × (new ≡ old)
Reserves old name (Err Memory) new = (has_mark_place old name ≡ false) × (length old < most_tables_in_keyspace) × (new ≡ old)

-- the denied tables in the order of their bytes (this profile's own): a name stands there exactly where it is denied, and
-- each name is below those after it, so that it stands there once
pub record AreMembersInOrder (marks : Marks) (names : List (List ℕ)) : Type 0 where
  pub members : (name : List ℕ) → list_any (same_text name) names ≡ is_marked marks name
  pub ascending : IsStrictlySortedBy (slice_cmp nat_cmp) names

-- an answer without what it tells
abbrev pub done : Result Bool DeniedFault → Result Unit DeniedFault
done (Ok told) = Ok tt
done (Err fault) = Err fault

-- the table has the last place (this profile's own)
abbrev pub is_last : Marks → List ℕ → Bool
is_last marks name = option_map_or (λ m. same_text m.0 name) (slice_get marks (length marks - 1)) false
