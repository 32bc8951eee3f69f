-- The words of a command line that name keyspaces.
use Rattle.std.specs.Prelude.{ℕ, zero, suc, List, [], ◌∷◌, Result, Ok, Err}
use Rattle.arrayvec.specs.ArrayVec.{ArrayVec}
use Rattle.mt_names.specs.declared.fault.NameFault.{NameFault}
use Rattle.mt_names.specs.declared.fault.NameFault.TheVariants.{TooMany}
use Rattle.mt_names.specs.Names.{read_keyspace}
use Rattle.mt_names.specs.Results.{◌>>=◌}

-- how many keyspaces a command line names at most
abbrev pub most_keyspaces : ℕ
most_keyspaces = 31

-- the names that the words are, where there is room for so many; or the first refusal from left to right, of each word its
-- own before it is one too many
abbrev pub read_within : ℕ → List (List ℕ) → Result (List (List ℕ)) NameFault
read_within room [] = Ok []
read_within zero (word ∷ words) = read_keyspace word >>= λ name. Err TooMany
read_within (suc room) (word ∷ words) =
    read_keyspace word >>= λ name. read_within room words >>= λ names. Ok (name ∷ names)

abbrev pub read_keyspaces : List (List ℕ) → Result (List (List ℕ)) NameFault
read_keyspaces words = read_within most_keyspaces words

-- what a contract sees of the answer
abbrev pub names_of : Result (ArrayVec (List ℕ)) NameFault → Result (List (List ℕ)) NameFault
names_of (Ok names) = Ok names.items
names_of (Err fault) = Err fault
