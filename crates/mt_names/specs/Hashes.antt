-- What a rule key feeds a hasher.
use Rattle.std.specs.Prelude.{ℕ, List, [], ◌∷◌, ◌++◌, Option, None, Some}
use Rattle.std.specs.Hash as fed
use Rattle.mt_names.specs.declared.keys.RuleKey.{RuleKey}
use Rattle.mt_names.specs.declared.types.TabletType.{TabletType}
use Rattle.mt_names.specs.declared.types.TabletType.TheVariants.{Primary, Replica, Rdonly}

-- the number of the type that a key is for, and 0 where it is for all
abbrev pub type_number : Option TabletType → ℕ
type_number None = 0
type_number (Some Primary) = 1
type_number (Some Replica) = 2
type_number (Some Rdonly) = 3

abbrev pub keyspace_input : Option (List ℕ) → fed.HashWrites
keyspace_input None = []
keyspace_input (Some keyspace) = keyspace ∷ []

-- the type's number, the table's name, and the keyspace's where there is one
abbrev pub key_input : RuleKey → fed.HashWrites
key_input key = fed.u8 (type_number key.tablet_type) ++ key.table ∷ keyspace_input key.keyspace
