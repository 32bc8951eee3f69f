-- The script language: what a line says. All of this page is this profile's own.
use Rattle.std.specs.Prelude.{ℕ, ◌+◌, ◌-◌, ◌*◌, ◌^◌, Bool, true, false, not, ◌&&◌, ◌||◌, if◌then◌else◌, ◌==◌, nat_eq, nat_lt, nat_le, List, [], ◌∷◌, length, filter, fold, codes, unwrap_or, option_map, option_and_then, is_some, Option, None, Some, Result, Ok}
use Rattle.std.specs.Char.{is_ascii_digit}
use Rattle.std.specs.List.{list_all, slice_split, starts_with}
use Rattle.mt_names.specs.declared.fault.NameFault.{NameFault}
use Rattle.mt_names.specs.declared.keys.RuleKey.{RuleKey}
use Rattle.mt_names.specs.declared.keys.RuleTarget.{RuleTarget}
use Rattle.mt_names.specs.declared.types.TabletType.{TabletType}
use Rattle.mt_names.specs.declared.types.TabletType.TheVariants.{Primary}
use Rattle.mt_names.specs.declared.types.TypeSet.{TypeSet}
use Rattle.mt_names.specs.Keys.{after, at_sign, before, dot, read_key, read_target}
use Rattle.mt_names.specs.Names.{dash, read_keyspace, read_table, read_workflow, same_text}
use Rattle.mt_names.specs.Results.{◌>>=◌}
use Rattle.mt_names.specs.Shards.{KeyRange, read_range, read_shards}
use Rattle.mt_names.specs.Tables.{read_table_list}
use Rattle.mt_names.specs.Types.{read_type_set}
use Rattle.mt_model.specs.declared.rows.Op.{Op}
use Rattle.mt_model.specs.declared.rows.Op.TheVariants.{Insert, Update, Append, Delete}
use Rattle.mt_model.specs.Limits.{longest_value}
use Rattle.mt_model.specs.Rows.{RowValue}
use Rattle.mt_plain.specs.Events.{Event, StreamName, forward, back}
use Rattle.mt_plain.specs.Events as core

-- ---- bytes and words

-- the longest line, in bytes
abbrev pub MAX_LINE_LENGTH : ℕ
MAX_LINE_LENGTH = 4096

-- a space or a tab
abbrev pub is_blank : ℕ → Bool
is_blank byte = (byte == 32) || (byte == 9)

-- a visible ASCII character, of which words are made
abbrev pub is_visible : ℕ → Bool
is_visible byte = nat_le 33 byte && nat_le byte 126

-- whether a line is of blanks and visible characters alone
abbrev pub is_readable : List ℕ → Bool
is_readable line = list_all (λ byte. is_blank byte || is_visible byte) line

-- a line that writes nothing, whatever its length: one of blanks alone, and a comment, which begins with `#`
abbrev pub is_silent : List ℕ → Bool
is_silent line = starts_with nat_eq line (codes "#") || list_all is_blank line

-- a word has a byte
abbrev pub is_word : List ℕ → Bool
is_word [] = false
is_word (byte ∷ bytes) = true

-- the words of a line, which blanks part
abbrev pub words_of : List ℕ → List (List ℕ)
words_of line = filter is_word (slice_split is_blank line)

-- ---- numbers and values

-- 1 to so many digits of a number below a bound
abbrev pub number_of_digits : List ℕ → ℕ
number_of_digits digits = fold (λ n digit. 10 * n + (digit - 48)) 0 digits

-- whether a word is 1 to so many digits of a number below a bound
abbrev pub is_number_of : (most_digits bound : ℕ) → List ℕ → Bool
is_number_of most_digits bound word =
    nat_lt 0 (length word) && nat_le (length word) most_digits && list_all is_ascii_digit word && nat_lt (number_of_digits word) bound

-- 1 to 20 digits of a number below 2^64
abbrev pub is_number : List ℕ → Bool
is_number word = is_number_of 20 (2 ^ 64) word

-- a word that is such a number
abbrev pub read_number : List ℕ → Option ℕ
read_number word = if is_number word then Some (number_of_digits word) else None

-- 1 to 5 digits of a number below 2^16
abbrev pub read_small_number : List ℕ → Option ℕ
read_small_number word = if is_number_of 5 (2 ^ 16) word then Some (number_of_digits word) else None

-- a word of at most 64 bytes
abbrev pub read_value : List ℕ → Option RowValue
read_value word = if nat_le (length word) longest_value then Some (record { items = word }) else None

-- a keyspace without shards is written with one that has no bound
abbrev pub one_shard : List ℕ
one_shard = dash ∷ []

abbrev pub slash : ℕ
slash = 47

-- `forward` or `back`
abbrev pub read_stream : List ℕ → Option StreamName
read_stream word = if same_text word (codes "forward") then Some forward else if same_text word (codes "back") then Some back else None

-- ---- commands

-- what a line commands, with its names as they are written
pub data Command : Type 0 where
  keyspace : (name shards : List ℕ) → Command
  table : (keyspace table : List ℕ) → Command
  rule : (key target : List ℕ) → Command
  change : (name : List ℕ) → Op → Command
  get : (name : List ℕ) → ℕ → Command
  change_at : (name : List ℕ) → Op → Command
  get_at : (name : List ℕ) → ℕ → Command
  create : (workflow source target tables : List ℕ) → Command
  advance : (workflow : List ℕ) → StreamName → (range : List ℕ) → (at most : ℕ) → Command
  begin_switch : (workflow types : List ℕ) → Command
  begin_reverse : (workflow types : List ℕ) → Command
  step : (workflow : List ℕ) → ℕ → Command
  undo : (workflow : List ℕ) → ℕ → Command
  switch : (workflow types : List ℕ) → Command
  reverse : (workflow types : List ℕ) → Command
  cancel : (workflow : List ℕ) → Command
  complete : (workflow : List ℕ) → Command
  show : (workflow : List ℕ) → Command
  rules : Command
  dump : Command

-- a name that is written to may be followed by `@primary`, and not by another type
abbrev pub is_for_reads : Option (List ℕ) → Bool
is_for_reads None = false
is_for_reads (Some word) = same_text word (codes "replica") || same_text word (codes "rdonly")

-- a write, once its number and its value are read
abbrev pub change_of : (List ℕ → Op → Command) → (name : List ℕ) → Option Op → Option Command
change_of make name None = None
change_of make name (Some op) = if is_for_reads (after at_sign name) then None else Some (make name op)

-- an operation, if its number and its value can be read
abbrev pub op_of : (ℕ → RowValue → Op) → Option ℕ → Option RowValue → Option Op
op_of make (Some number) (Some value) = Some (make number value)
op_of make number value = None

-- the words behind a command, where there are just so many
abbrev pub no_word : List (List ℕ) → Option Command → Option Command
no_word [] c = c
no_word (word ∷ words) c = None

-- just one
abbrev pub one_word : List (List ℕ) → Option (List ℕ)
one_word (word ∷ []) = Some word
one_word words = None

-- just two
abbrev pub two_words : List (List ℕ) → Option (List ℕ × List ℕ)
two_words (first ∷ second ∷ []) = Some (first, second)
two_words words = None

-- just three
abbrev pub three_words : List (List ℕ) → Option (List ℕ × List ℕ × List ℕ)
three_words (first ∷ second ∷ third ∷ []) = Some (first, second, third)
three_words words = None

-- just four
abbrev pub four_words : List (List ℕ) → Option (List ℕ × List ℕ × List ℕ × List ℕ)
four_words (first ∷ second ∷ third ∷ fourth ∷ []) = Some (first, second, third, fourth)
four_words words = None

-- an operation on a row: its verb, and the name, the number and the value behind it
abbrev pub with_value : (List ℕ → Op → Command) → (ℕ → RowValue → Op) → List (List ℕ) → Option Command
with_value make op words = option_and_then (λ w. change_of make w.0 (op_of op (read_number w.1) (read_value w.2))) (three_words words)

-- a delete
abbrev pub without_value : (List ℕ → Op → Command) → List (List ℕ) → Option Command
without_value make words = option_and_then (λ w. change_of make w.0 (option_map Delete (read_number w.1))) (two_words words)

-- a name and a number
abbrev pub with_number : (List ℕ → ℕ → Command) → List (List ℕ) → Option Command
with_number make words = option_and_then (λ w. option_map (make w.0) (read_number w.1)) (two_words words)

-- a read
abbrev pub read_get : (List ℕ → ℕ → Command) → List (List ℕ) → Option Command
read_get = with_number

-- an operation on a row, by its verb
abbrev pub read_row_command : (List ℕ → Op → Command) → (List ℕ → ℕ → Command) → (verb : List ℕ) → List (List ℕ) → Option Command
read_row_command write read verb words =
    if same_text verb (codes "insert") then with_value write Insert words
    else if same_text verb (codes "update") then with_value write Update words
    else if same_text verb (codes "append") then with_value write Append words
    else if same_text verb (codes "delete") then without_value write words
    else if same_text verb (codes "get") then read_get read words
    else None

-- the verbs of operations on a row
abbrev pub is_row_verb : List ℕ → Bool
is_row_verb verb =
    same_text verb (codes "insert") || same_text verb (codes "update") || same_text verb (codes "append") || same_text verb (codes "delete")
    || same_text verb (codes "get")

-- `at K.T verb ..`: the name stands before the verb, and is qualified
abbrev pub is_qualified : List ℕ → Bool
is_qualified name = is_some (after dot (before at_sign name))

-- such a line, with an operation as its rest
abbrev pub read_at : List (List ℕ) → Option Command
read_at (name ∷ verb ∷ words) = if is_qualified name then read_row_command change_at get_at verb (name ∷ words) else None
read_at words = None

-- a stream with its range, which is that of an unsharded keyspace where none is written
abbrev pub read_ranged_stream : List ℕ → Option (StreamName × List ℕ)
read_ranged_stream word = option_map (λ stream. (stream, unwrap_or (after slash word) one_shard)) (read_stream (before slash word))

-- an advance: the workflow, the stream, the position, how many
abbrev pub read_advance : List (List ℕ) → Option Command
read_advance words =
    option_and_then (λ w. option_and_then (λ stream. option_and_then (λ at. option_map (advance w.0 stream.0 stream.1 at) (read_small_number w.3)) (read_number w.2)) (read_ranged_stream w.1)) (four_words words)

-- a keyspace, and its shards where they are written
abbrev pub read_new_keyspace : List (List ℕ) → Option Command
read_new_keyspace (name ∷ []) = Some (keyspace name one_shard)
read_new_keyspace (name ∷ shards ∷ []) = Some (keyspace name shards)
read_new_keyspace words = None

-- a workflow and tablet types
abbrev pub with_types : (List ℕ → List ℕ → Command) → List (List ℕ) → Option Command
with_types make words = option_map (λ w. make w.0 w.1) (two_words words)

-- the commands on workflows
abbrev pub read_workflow_command : (verb : List ℕ) → List (List ℕ) → Option Command
read_workflow_command verb words =
    if same_text verb (codes "create") then option_map (λ w. create w.0 w.1 w.2 w.3) (four_words words)
    else if same_text verb (codes "advance") then read_advance words
    else if same_text verb (codes "begin-switch") then with_types begin_switch words
    else if same_text verb (codes "begin-reverse") then with_types begin_reverse words
    else if same_text verb (codes "step") then with_number step words
    else if same_text verb (codes "undo") then with_number undo words
    else if same_text verb (codes "switch") then with_types switch words
    else if same_text verb (codes "reverse") then with_types reverse words
    else if same_text verb (codes "cancel") then option_map cancel (one_word words)
    else if same_text verb (codes "complete") then option_map complete (one_word words)
    else if same_text verb (codes "show") then option_map show (one_word words)
    else None

-- the command of a verb and the words behind it; `None` is a bad line
abbrev pub read_command : List ℕ → List (List ℕ) → Option Command
read_command verb words =
    if same_text verb (codes "keyspace") then read_new_keyspace words
    else if same_text verb (codes "table") then option_map (λ w. table w.0 w.1) (two_words words)
    else if same_text verb (codes "rule") then option_map (λ w. rule w.0 w.1) (two_words words)
    else if same_text verb (codes "rules") then no_word words (Some rules)
    else if same_text verb (codes "dump") then no_word words (Some dump)
    else if same_text verb (codes "at") then read_at words
    else if is_row_verb verb then read_row_command change get verb words
    else read_workflow_command verb words

-- ---- lines

-- what a line says: nothing, a command, or that it can't be read
pub data Line : Type 0 where
  silent : Line
  command : Command → Line
  bad_line : Line
  line_too_long : Line

-- a line without a command is a bad one
abbrev pub commanded : Option Command → Line
commanded (Some c) = command c
commanded None = bad_line

-- the command of some words, of which the first is its verb
abbrev pub command_of : List (List ℕ) → Option Command
command_of [] = None
command_of (verb ∷ words) = read_command verb words

-- a line's length is tested before its bytes, these before its words
abbrev pub read_line_by : (List (List ℕ) → Option Command) → List ℕ → Line
read_line_by read line =
    if is_silent line then silent
    else if nat_lt MAX_LINE_LENGTH (length line) then line_too_long
    else if not (is_readable line) then bad_line
    else commanded (read (words_of line))

-- how lines are read
abbrev pub read_line : List ℕ → Line
read_line line = read_line_by command_of line

-- ---- what a command asks for, once its names are read

-- an event; a write or a read of a name that is looked up first; an advance in the shard of a range; a whole switch or reversal of traffic; or a document
pub data Request : Type 0 where
  event : Event → Request
  write_through : RuleKey → Op → Request
  read_through : RuleKey → ℕ → TabletType → Request
  advance_in : (workflow : List ℕ) → StreamName → KeyRange → (at most : ℕ) → Request
  drive : (workflow : List ℕ) → TypeSet → (backward : Bool) → Request
  rules_document : Request
  dump_document : Request

-- a rule's target, or `-` for none
abbrev pub read_rule_target : List ℕ → Result (Option RuleTarget) NameFault
read_rule_target word = if same_text word (dash ∷ []) then Ok None else (read_target word >>= λ target. Ok (Some target))

-- the type that a name is read for
abbrev pub type_of : RuleKey → TabletType
type_of key = unwrap_or key.tablet_type Primary

-- names are read from left to right, and the first fault is told
abbrev pub request_of : Command → Result Request NameFault
request_of (keyspace name shards) = read_keyspace name >>= λ k. read_shards shards >>= λ cuts. Ok (event (core.add_keyspace k cuts))
request_of (table name name') = read_keyspace name >>= λ k. read_table name' >>= λ t. Ok (event (core.add_table k t))
request_of (rule key target) = read_key key >>= λ k. read_rule_target target >>= λ t. Ok (event (core.edit_rule k t))
request_of (change name op) = read_key name >>= λ k. Ok (write_through k op)
request_of (get name number) = read_key name >>= λ k. Ok (read_through k number (type_of k))
request_of (change_at name op) = read_key name >>= λ k. Ok (event (core.write (unwrap_or k.keyspace []) k.table op))
request_of (get_at name number) = read_key name >>= λ k. Ok (event (core.read (unwrap_or k.keyspace []) k.table number (type_of k)))
request_of (create workflow source target tables) =
    read_workflow workflow >>= λ w. read_keyspace source >>= λ s. read_keyspace target >>= λ g. read_table_list tables >>= λ ts. Ok (event (core.create w s g ts))
request_of (advance workflow stream range at most) = read_workflow workflow >>= λ w. read_range range >>= λ r. Ok (advance_in w stream r at most)
request_of (begin_switch workflow types) = read_workflow workflow >>= λ w. read_type_set types >>= λ t. Ok (event (core.begin_switch w t))
request_of (begin_reverse workflow types) = read_workflow workflow >>= λ w. read_type_set types >>= λ t. Ok (event (core.begin_reverse w t))
request_of (step workflow at) = read_workflow workflow >>= λ w. Ok (event (core.step w at))
request_of (undo workflow at) = read_workflow workflow >>= λ w. Ok (event (core.undo w at))
request_of (switch workflow types) = read_workflow workflow >>= λ w. read_type_set types >>= λ t. Ok (drive w t false)
request_of (reverse workflow types) = read_workflow workflow >>= λ w. read_type_set types >>= λ t. Ok (drive w t true)
request_of (cancel workflow) = read_workflow workflow >>= λ w. Ok (event (core.cancel w))
request_of (complete workflow) = read_workflow workflow >>= λ w. Ok (event (core.complete w))
request_of (show workflow) = read_workflow workflow >>= λ w. Ok (event (core.show w))
request_of rules = Ok rules_document
request_of dump = Ok dump_document
