-- The places of a part that is written (the words are this profile's own).
use Rattle.std.specs.Prelude.{◌≡◌, ℕ, Bool, true, List, [], ◌∷◌}
use Rattle.std.specs.List.{AllByRecursion}
use Rattle.mt_model.specs.declared.entries.Entry.{Entry}
use Rattle.mt_model.specs.declared.entries.Entry.TheVariants as entry
use Rattle.mt_model.specs.declared.entries.EntryKey.{EntryKey}
use Rattle.mt_model.specs.declared.entries.EntryKey.TheVariants as about
use Rattle.mt_model.specs.Topology.{TopologyState, has_place}

-- each of some keys has a place
abbrev pub HasPlaces : TopologyState → List EntryKey → Type 0
HasPlaces t keys = AllByRecursion (λ key. has_place t key ≡ true) keys

-- the keys of a table's marks: its denials at both sides, and its presence at the target
abbrev pub mark_keys : (source target table : List ℕ) → List EntryKey
mark_keys source target table = about.Denied source table ∷ about.Denied target table ∷ about.Present target table ∷ []

-- what they say
abbrev pub mark_entries : (source target table : List ℕ) → (denied denied_there present : Bool) → List Entry
mark_entries source target table denied denied_there present = entry.Denied source table denied ∷ entry.Denied target table denied_there ∷ entry.Present target table present ∷ []
