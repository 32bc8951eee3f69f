-- Lists of tables as texts.
use Rattle.std.specs.Prelude.{◌≡◌, ◌≢◌, ℕ, ◌+◌, ◌≤◌, List, [], ◌∷◌, ◌++◌, length, All, AllPairs, if◌then◌else◌, ◌==◌, Result, Ok, Err}
use Rattle.std.specs.List.{join_with_byte, list_any, slice_split}
use Rattle.arrayvec.specs.ArrayVec.{ArrayVec}
use Rattle.mt_names.specs.declared.fault.NameFault.{NameFault}
use Rattle.mt_names.specs.declared.fault.NameFault.TheVariants.{Repeated, TooMany}
use Rattle.mt_names.specs.Keys.{fault_behind}
use Rattle.mt_names.specs.Names.{IsTableName, dash, read_table, same_text}
use Rattle.mt_names.specs.Results.{◌>>=◌}
use Rattle.mt_names.specs.Types.{comma}

-- how many tables a list has at most
abbrev pub most_tables : ℕ
most_tables = 16

-- at most 16 names of tables, none of them twice
pub record IsTableList (names : List (List ℕ)) : Type 0 where
  pub each : All IsTableName names
  pub distinct : AllPairs ◌≢◌ names
  pub few : length names ≤ most_tables

-- `-` for no table, else the names, separated by commas
abbrev pub table_list_text : List (List ℕ) → List ℕ
table_list_text [] = dash ∷ []
table_list_text (name ∷ names) = join_with_byte comma (name ∷ names)

-- the text of some list
abbrev pub IsTableListText : List ℕ → Type 0
IsTableListText text = (names : List (List ℕ)) × IsTableList names × (table_list_text names ≡ text)

-- the list with one name more, unless it is full or has the name
abbrev pub with_table : List (List ℕ) → List ℕ → Result (List (List ℕ)) NameFault
with_table names name =
    if length names == most_tables then Err TooMany
    else if list_any (λ other. same_text other name) names then Err Repeated
    else Ok (names ++ name ∷ [])

-- the list with the table that a word names, which stands behind `front` bytes of the whole text
abbrev pub with_word : List (List ℕ) → ℕ → List ℕ → Result (List (List ℕ)) NameFault
with_word names front word = fault_behind front (read_table word) >>= with_table names

-- the list with the tables that the words name, of which the first stands behind `front` bytes
abbrev pub read_tables_after : List (List ℕ) → ℕ → List (List ℕ) → Result (List (List ℕ)) NameFault
read_tables_after names front [] = Ok names
read_tables_after names front (word ∷ words) =
    with_word names front word >>= λ more. read_tables_after more (front + length word + 1) words

-- the tables that a text lists, or its first fault
abbrev pub read_table_list : List ℕ → Result (List (List ℕ)) NameFault
read_table_list text =
    if same_text text (dash ∷ []) then Ok []
    else read_tables_after [] 0 (slice_split (λ byte. byte == comma) text)

-- what a contract sees of the answer
abbrev pub names_of : Result (ArrayVec (List ℕ)) NameFault → Result (List (List ℕ)) NameFault
names_of (Ok tables) = Ok tables.items
names_of (Err fault) = Err fault
