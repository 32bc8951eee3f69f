-- Rule keys and targets as texts: how one is written, what text is one, and the functions that read them.
use Rattle.std.specs.Prelude.{◌≡◌, ℕ, ◌+◌, List, [], ◌∷◌, ◌++◌, length, if◌then◌else◌, ◌==◌, Option, Some, None, IfSome, Result, Ok, Err}
use Rattle.mt_names.specs.declared.fault.NameFault.{NameFault}
use Rattle.mt_names.specs.declared.fault.NameFault.TheVariants.{Empty, BadByte, NoKeyspace}
use Rattle.mt_names.specs.declared.keys.RuleKey.{RuleKey}
use Rattle.mt_names.specs.declared.keys.RuleTarget.{RuleTarget}
use Rattle.mt_names.specs.declared.types.TabletType.{TabletType}
use Rattle.mt_names.specs.Names.{IsKeyspaceName, IsTableName, read_keyspace, read_table}
use Rattle.mt_names.specs.Results.{◌>>=◌}
use Rattle.mt_names.specs.Types.{type_text, read_type}

-- `.` and `@`
abbrev pub dot : ℕ
dot = 46

abbrev pub at_sign : ℕ
at_sign = 64

-- ---- how they are written

-- `keyspace.`, where a key is qualified
abbrev pub qualifier_text : Option (List ℕ) → List ℕ
qualifier_text None = []
qualifier_text (Some keyspace) = keyspace ++ dot ∷ []

-- `@type`, where a key is for one type
abbrev pub suffix_text : Option TabletType → List ℕ
suffix_text None = []
suffix_text (Some tablet_type) = at_sign ∷ type_text tablet_type

-- `table` or `keyspace.table`, each plain or followed by `@type`
abbrev pub key_text : RuleKey → List ℕ
key_text key = qualifier_text key.keyspace ++ key.table ++ suffix_text key.tablet_type

-- `keyspace.table`
abbrev pub target_text : RuleTarget → List ℕ
target_text target = target.keyspace ++ dot ∷ target.table

-- ---- which texts they are

-- the parts of a key or a target are names
pub record IsRuleKey (key : RuleKey) : Type 0 where
  pub keyspace : IfSome key.keyspace IsKeyspaceName
  pub table : IsTableName key.table

pub record IsRuleTarget (target : RuleTarget) : Type 0 where
  pub keyspace : IsKeyspaceName target.keyspace
  pub table : IsTableName target.table

-- the text of some key, and of some target
abbrev pub IsKeyText : List ℕ → Type 0
IsKeyText bytes = (key : RuleKey) × IsRuleKey key × (key_text key ≡ bytes)

abbrev pub IsTargetText : List ℕ → Type 0
IsTargetText bytes = (target : RuleTarget) × IsRuleTarget target × (target_text target ≡ bytes)

-- ---- how they are read

-- the bytes before the first mark, which are all where there is none
abbrev pub before : ℕ → List ℕ → List ℕ
before mark [] = []
before mark (byte ∷ bytes) = if byte == mark then [] else (byte ∷ before mark bytes)

-- the bytes after the first mark, where there is one
abbrev pub after : ℕ → List ℕ → Option (List ℕ)
after mark [] = None
after mark (byte ∷ bytes) = if byte == mark then Some bytes else after mark bytes

-- a fault of a part, told by its place in the whole text, of which `front` bytes stand before the part
abbrev pub place_behind : ℕ → NameFault → NameFault
place_behind front (BadByte place) = BadByte (front + place)
place_behind front fault = fault

abbrev pub fault_behind : {A : Type 0} → ℕ → Result A NameFault → Result A NameFault
fault_behind front (Ok x) = Ok x
fault_behind front (Err fault) = Err (place_behind front fault)

-- a keyspace, and a table that stands behind it and a dot
abbrev pub read_target_parts : List ℕ → List ℕ → Result RuleTarget NameFault
read_target_parts keyspace table =
    read_keyspace keyspace >>= λ k. fault_behind (length keyspace + 1) (read_table table) >>= λ t. Ok (record { keyspace = k; table = t })

-- a key for all types, without a keyspace or of one
abbrev pub read_plain_key : List ℕ → Option (List ℕ) → Result RuleKey NameFault
read_plain_key table None = read_table table >>= λ t. Ok (record { keyspace = None; table = t; tablet_type = None })
read_plain_key keyspace (Some table) =
    read_target_parts keyspace table >>= λ target. Ok (record { keyspace = Some target.keyspace; table = target.table; tablet_type = None })

-- the key, for the one type that the word names, where there is a word
abbrev pub read_key_type : RuleKey → Option (List ℕ) → Result RuleKey NameFault
read_key_type key None = Ok key
read_key_type key (Some word) = read_type word >>= λ t. Ok (record key { tablet_type = Some t })

-- the key that a text is, or its first fault from left to right
abbrev pub read_key : List ℕ → Result RuleKey NameFault
read_key text =
    let name = before at_sign text in
    read_plain_key (before dot name) (after dot name) >>= λ key. read_key_type key (after at_sign text)

-- the target that a text with a dot is
abbrev pub read_dotted : List ℕ → Option (List ℕ) → Result RuleTarget NameFault
read_dotted keyspace None = Err NoKeyspace
read_dotted keyspace (Some table) = read_target_parts keyspace table

-- the target that a text is, or its first fault
abbrev pub read_target : List ℕ → Result RuleTarget NameFault
read_target text = if length text == 0 then Err Empty else read_dotted (before dot text) (after dot text)
