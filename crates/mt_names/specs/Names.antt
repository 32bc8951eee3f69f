-- What is a name: the grammar, and beside it the function that reads one and tells the first fault.
use Rattle.std.specs.Prelude.{◌≢◌, ℕ, ◌<◌, ◌≤◌, Bool, not, ◌||◌, if◌then◌else◌, ◌==◌, nat_eq, nat_lt, List, [], ◌∷◌, ◌++◌, length, slice_get, position, codes, Option, Some, None, Result, Ok, Err}
use Rattle.std.specs.Char.{is_ascii_alphanumeric}
use Rattle.std.specs.Cmp.Lexicographic.{pointwise}
use Rattle.std.specs.List.{AllPass, starts_with, ends_with}
use Rattle.mt_names.specs.declared.fault.NameFault.{NameFault}
use Rattle.mt_names.specs.declared.fault.NameFault.TheVariants.{Empty, TooLong, BadByte, ReservedSuffix}
use Rattle.mt_names.specs.declared.text.Alphabet.{Alphabet}
use Rattle.mt_names.specs.declared.text.Alphabet.TheVariants.{Plain, WithDollar}

-- the longest name, in bytes
abbrev pub longest_name : ℕ
longest_name = 64

-- `-`, `_` and `$`
abbrev pub dash : ℕ
dash = 45

abbrev pub underscore : ℕ
underscore = 95

abbrev pub dollar : ℕ
dollar = 36

-- whether two texts have the same bytes
abbrev pub same_text : List ℕ → List ℕ → Bool
same_text = pointwise nat_eq

-- an ASCII letter or digit, `_` or `-`
abbrev pub is_plain_byte : ℕ → Bool
is_plain_byte byte = is_ascii_alphanumeric byte || (byte == underscore) || (byte == dash)

-- the bytes of a keyspace's or a workflow's name; a table's may have `$` too
abbrev pub allows : Alphabet → ℕ → Bool
allows Plain byte = is_plain_byte byte
allows WithDollar byte = is_plain_byte byte || (byte == dollar)

-- 1 to 64 bytes that the alphabet allows, of which the first is no `-`
pub record IsName (alphabet : Alphabet) (bytes : List ℕ) : Type 0 where
  pub not_empty : 0 < length bytes
  pub not_long : length bytes ≤ longest_name
  pub first : slice_get bytes 0 ≢ Some dash
  pub each : AllPass (allows alphabet) bytes

abbrev pub IsKeyspaceName : List ℕ → Type 0
IsKeyspaceName bytes = IsName Plain bytes

abbrev pub IsTableName : List ℕ → Type 0
IsTableName bytes = IsName WithDollar bytes

abbrev pub reverse_suffix : List ℕ
reverse_suffix = codes "_reverse"

-- a keyspace's name could be this one, and it does not end in the suffix
pub record IsWorkflowName (bytes : List ℕ) : Type 0 where
  pub name : IsName Plain bytes
  pub suffix : (front : List ℕ) → bytes ≢ front ++ reverse_suffix

-- the place of the first byte that may not stand there
abbrev pub bad_place : Alphabet → List ℕ → Option ℕ
bad_place alphabet bytes =
    if starts_with nat_eq bytes (dash ∷ []) then Some 0 else position (λ byte. not (allows alphabet byte)) bytes

-- the name, unless there is a bad byte
abbrev pub unless_bad : List ℕ → Option ℕ → Result (List ℕ) NameFault
unless_bad bytes None = Ok bytes
unless_bad bytes (Some place) = Err (BadByte place)

-- the name that the bytes are, or the first fault
abbrev pub read_name : Alphabet → List ℕ → Result (List ℕ) NameFault
read_name alphabet bytes =
    if length bytes == 0 then Err Empty
    else if nat_lt longest_name (length bytes) then Err TooLong
    else unless_bad bytes (bad_place alphabet bytes)

abbrev pub read_keyspace : List ℕ → Result (List ℕ) NameFault
read_keyspace bytes = read_name Plain bytes

abbrev pub read_table : List ℕ → Result (List ℕ) NameFault
read_table bytes = read_name WithDollar bytes

-- a workflow's name, which its suffix may keep out
abbrev pub unless_reserved : Result (List ℕ) NameFault → Result (List ℕ) NameFault
unless_reserved (Ok name) = if ends_with nat_eq name reverse_suffix then Err ReservedSuffix else Ok name
unless_reserved (Err fault) = Err fault

abbrev pub read_workflow : List ℕ → Result (List ℕ) NameFault
read_workflow bytes = unless_reserved (read_name Plain bytes)
