-- What the words of a command line ask for.
use Rattle.std.specs.Prelude.{◌≡◌, ◌≢◌, ◌⊎◌, ⊤, ℕ, Bool, ◌&&◌, if◌then◌else◌, nat_le, List, [], codes, length, Option, Some, None, Result, Ok, Err, option_and_then, unwrap_or, nat_lt}
use Rattle.std.specs.Str.{all_ascii_digits, bytes_eq}
use Rattle.std.specs.Str.Parse.{digits_value, without_leading_plus}
use Rattle.clap.specs.Words.{Row, Text, all_of, one_of, fault_of, subcommand_of, IsAmong, Kinds}
use Rattle.clap.specs.declared.error.kind.ErrorKind.{ErrorKind}
use Rattle.clap.specs.declared.error.kind.ErrorKind.TheVariants.{DisplayHelp, OutOfMemory}
use Rattle.mt_names.specs.declared.fault.NameFault.{NameFault}
use Rattle.mt_choice.specs.declared.choice.Choice.{Choice}
use Rattle.mt_choice.specs.declared.choice.Choice.TheVariants as choice
use Rattle.mt_choice.specs.declared.choice.Wrong.{Wrong}
use Rattle.mt_choice.specs.declared.choice.Wrong.TheVariants as wrong
use Rattle.mt_choice.specs.Command.{mt}
use Rattle.mt_choice.specs.Keyspaces.{read_keyspaces}

-- what words that clap takes ask for: a subcommand with what it needs, or a refusal
pub data Meaning : Type 0 where
  run : List Text → Meaning
  rules : Meaning
  topology : Meaning
  race : ℕ → ℕ → Meaning
  bad_words : NameFault → Meaning
  misused : Meaning

-- one digit or more, and nothing else
abbrev pub are_digits : List ℕ → Bool
are_digits bytes = nat_lt 0 (length bytes) && all_ascii_digits bytes

-- the number that a text writes in digits, behind a plus or none, where it is 1 to `most`
abbrev pub number_up_to : ℕ → Text → Option ℕ
number_up_to most text =
    let digits = without_leading_plus text in
    let number = digits_value 10 digits in
    if are_digits digits && (nat_le 1 number && nat_le number most) then Some number else None

abbrev pub meaning_of_names : Result (List Text) NameFault → Meaning
meaning_of_names (Ok names) = run names
meaning_of_names (Err fault) = bad_words fault

abbrev pub meaning_of_numbers : Option ℕ → Option ℕ → Meaning
meaning_of_numbers (Some clients) (Some writes) = race clients writes
meaning_of_numbers _ _ = misused

-- what is asked for by what clap matched behind `run` and behind `race`
abbrev pub meaning_of_keyspaces : List Row → Meaning
meaning_of_keyspaces rows = meaning_of_names (read_keyspaces (unwrap_or (all_of (codes "KEYSPACE") rows) []))

abbrev pub meaning_of_race : List Row → Meaning
meaning_of_race rows = meaning_of_numbers
    (option_and_then (number_up_to 4) (one_of (codes "clients") rows))
    (option_and_then (number_up_to 1000) (one_of (codes "writes") rows))

-- what a subcommand asks for, by its name and what clap matched behind it
abbrev pub meaning_at : Text → List Row → Meaning
meaning_at name rows =
    if bytes_eq name (codes "run") then meaning_of_keyspaces rows
    else if bytes_eq name (codes "rules") then rules
    else if bytes_eq name (codes "topology") then topology
    else if bytes_eq name (codes "race") then meaning_of_race rows
    else misused

abbrev pub meaning_of_subcommand : Option (Text × List Row) → Meaning
meaning_of_subcommand None = misused
meaning_of_subcommand (Some met) = meaning_at met.0 met.1

-- what the words ask for, of which the first is the program's own
abbrev pub meaning_of : List Text → Meaning
meaning_of words = meaning_of_subcommand (subcommand_of mt words)

-- why clap refuses the words, in its terms; nothing where it takes them
abbrev pub refusals_of : List Text → Kinds
refusals_of words = fault_of mt words

-- the words are refused for something else than that they ask for help
abbrev pub IsRefused : List Text → Type 0
IsRefused words = (kind : ErrorKind) × IsAmong kind (refusals_of words) × (kind ≢ DisplayHelp)

-- the answer says what is meant, and is no help
abbrev pub Says : Meaning → Result Choice Wrong → Type 0
Says meaning (Ok (choice.Run names)) = meaning ≡ run names.items
Says meaning (Ok choice.Rules) = meaning ≡ rules
Says meaning (Ok choice.Topology) = meaning ≡ topology
Says meaning (Ok (choice.Race clients writes)) = meaning ≡ race clients writes
Says meaning (Ok (choice.Help text)) = ⊥
Says meaning (Err wrong.Usage) = meaning ≡ misused
Says meaning (Err (wrong.Words fault)) = meaning ≡ bad_words fault
Says meaning (Err wrong.Memory) = ⊥

-- clap takes the words, and this is what they ask for
abbrev pub AsksFor : List Text → Meaning → Type 0
AsksFor words meaning = (refusals_of words ≡ []) × (meaning_of words ≡ meaning)

-- clap takes the words, and the answer says what they ask for
abbrev pub Takes : List Text → Result Choice Wrong → Type 0
Takes words answer = (refusals_of words ≡ []) × Says (meaning_of words) answer

-- the answer to the words of a command line, of which the first is the program's own; out of memory aside
abbrev pub Chooses : List Text → Result Choice Wrong → Type 0
Chooses words (Ok (choice.Help text)) = IsAmong DisplayHelp (refusals_of words)
Chooses words (Ok other) = Takes words (Ok other)
Chooses words (Err wrong.Memory) = ⊤
Chooses words (Err wrong.Usage) = IsRefused words ⊎ Takes words (Err wrong.Usage)
Chooses words (Err (wrong.Words fault)) = Takes words (Err (wrong.Words fault))

-- the answer to words that clap refuses for a reason of this kind
abbrev pub AnswersKind : ErrorKind → Result Choice Wrong → Type 0
AnswersKind kind (Ok (choice.Help text)) = kind ≡ DisplayHelp
AnswersKind kind (Ok other) = ⊥
AnswersKind kind (Err wrong.Memory) = ⊤
AnswersKind kind (Err wrong.Usage) = (kind ≢ DisplayHelp) × (kind ≢ OutOfMemory)
AnswersKind kind (Err (wrong.Words fault)) = ⊥
