-- The texts of tablet types and of sets of them: the grammar, and beside it the functions that read one and tell the first fault.
use Rattle.std.specs.Prelude.{◌≡◌, ◌≢◌, ℕ, ◌<◌, Bool, true, false, if◌then◌else◌, nat_eq, List, [], ◌∷◌, ◌++◌, length, map, filter, fold, AllPairs, codes, Result, Ok, Err}
use Rattle.std.specs.List.{join_with_byte, slice_split}
use Rattle.mt_names.specs.declared.fault.NameFault.{NameFault}
use Rattle.mt_names.specs.declared.fault.NameFault.TheVariants.{Empty, Repeated, BadType}
use Rattle.mt_names.specs.declared.types.TabletType.{TabletType}
use Rattle.mt_names.specs.declared.types.TabletType.TheVariants.{Primary, Replica, Rdonly}
use Rattle.mt_names.specs.declared.types.TypeSet.{TypeSet}
use Rattle.mt_names.specs.Names.{same_text}

abbrev pub comma : ℕ
comma = 44

-- how a type is spelled
abbrev pub type_text : TabletType → List ℕ
type_text Primary = codes "primary"
type_text Replica = codes "replica"
type_text Rdonly = codes "rdonly"

-- the type that is spelled so
abbrev pub read_type : List ℕ → Result TabletType NameFault
read_type bytes =
    if same_text bytes (type_text Primary) then Ok Primary
    else if same_text bytes (type_text Replica) then Ok Replica
    else if same_text bytes (type_text Rdonly) then Ok Rdonly
    else Err BadType

-- whether the set has the type
abbrev pub has : TypeSet → TabletType → Bool
has set Primary = set.primary
has set Replica = set.replica
has set Rdonly = set.rdonly

-- the set of no type, and of each
abbrev pub no_types : TypeSet
no_types = record { primary = false; replica = false; rdonly = false }

abbrev pub all_types : TypeSet
all_types = record { primary = true; replica = true; rdonly = true }

-- the set with one type more
abbrev pub with_type : TypeSet → TabletType → TypeSet
with_type set Primary = record set { primary = true }
with_type set Replica = record set { replica = true }
with_type set Rdonly = record set { rdonly = true }

-- the set of the types that are listed
abbrev pub set_of : List TabletType → TypeSet
set_of types = fold with_type no_types types

-- each type, in the order in which a set is written
abbrev pub every_type : List TabletType
every_type = Primary ∷ Replica ∷ Rdonly ∷ []

-- the types that the set has, in that order
abbrev pub members : TypeSet → List TabletType
members set = filter (has set) every_type

-- the types' texts, separated by commas
abbrev pub list_text : List TabletType → List ℕ
list_text types = join_with_byte comma (map type_text types)

-- a text that a word follows, behind a comma unless the text is empty
abbrev pub followed_by : List ℕ → List ℕ → List ℕ
followed_by [] word = word
followed_by (byte ∷ bytes) word = (byte ∷ bytes) ++ comma ∷ word

-- how a list is written, which is `-` where it is empty
abbrev pub written : List TabletType → List ℕ
written [] = codes "-"
written (type ∷ types) = list_text (type ∷ types)

-- how a set is written
abbrev pub type_set_text : TypeSet → List ℕ
type_set_text set = written (members set)

-- `all`, `-`, or at least one type's text, separated by commas, in any order and none twice
pub data IsTypeSetText (bytes : List ℕ) : Type 0 where
  all : bytes ≡ codes "all" → IsTypeSetText bytes
  none : bytes ≡ codes "-" → IsTypeSetText bytes
  listed : (types : List TabletType) → 0 < length types → AllPairs (λ s t. s ≢ t) types → bytes ≡ list_text types → IsTypeSetText bytes

-- the set with a type that has been read, which must be new to it
abbrev pub with_new : TypeSet → Result TabletType NameFault → Result TypeSet NameFault
with_new set (Ok type) = if has set type then Err Repeated else Ok (with_type set type)
with_new set (Err fault) = Err fault

-- what the words up to now came to, with one word more
abbrev pub with_word : Result TypeSet NameFault → List ℕ → Result TypeSet NameFault
with_word (Ok set) word = with_new set (read_type word)
with_word (Err fault) word = Err fault

-- the set of the words, taken in turn, or the first fault
abbrev pub read_words : List (List ℕ) → Result TypeSet NameFault
read_words words = fold with_word (Ok no_types) words

-- the set that the bytes spell, or the first fault
abbrev pub read_type_set : List ℕ → Result TypeSet NameFault
read_type_set bytes =
    if same_text bytes [] then Err Empty
    else if same_text bytes (codes "all") then Ok all_types
    else if same_text bytes (codes "-") then Ok no_types
    else read_words (slice_split (λ b. nat_eq b comma) bytes)
