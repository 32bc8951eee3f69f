-- The output of a script: the text of each line that writes. All of this page is this profile's own, unless a comment names a
-- page of Vitess's documentation.
use Rattle.std.specs.Prelude.{◌≡◌, ℕ, zero, suc, ◌<◌, Bool, if◌then◌else◌, List, [], ◌∷◌, ◌++◌, length, map, codes, Option, None, Some, Result, Ok, Err}
use Rattle.std.specs.List.{flat_map, join_with_byte}
use Rattle.std.specs.Option.{option_map_or}
use Rattle.std.specs.Str.Lines.{lines}
use Rattle.mt_names.specs.declared.fault.NameFault.{NameFault}
use Rattle.mt_names.specs.declared.keys.RuleTarget.{RuleTarget}
use Rattle.mt_names.specs.declared.types.TabletType.TheVariants.{Primary}
use Rattle.mt_names.specs.Faults.{fault_text}
use Rattle.mt_names.specs.Shards.{range_text}
use Rattle.mt_names.specs.Tables.{table_list_text}
use Rattle.mt_names.specs.Types.{type_set_text}
use Rattle.mt_model.specs.declared.entries.Scope.{Scope}
use Rattle.mt_model.specs.declared.entries.Scope.TheVariants as scope
use Rattle.mt_model.specs.declared.faults.TopologyFault.{TopologyFault}
use Rattle.mt_model.specs.Documents.{dump_text, rules_text}
use Rattle.mt_model.specs.Faults.{topology_fault_text}
use Rattle.mt_model.specs.Rows.{Row}
use Rattle.mt_model.specs.Topology.{resolution}
use Rattle.mt_plain.specs.Answers.{AnswerRule, Answers, answer_of}
use Rattle.mt_plain.specs.Drive.{Driven, Drives, Driving, begins, Heard, goes_on, ends, event_of, heard, most_turns}
use Rattle.mt_plain.specs.Drive as driven
use Rattle.mt_plain.specs.Events.{Event, write, read, advance, Way, Refusal, StreamState, running, stopped, frozen, Slot, Shown, ShownLane, Answer, done, row, advanced, shown, refused, refusal_text}
use Rattle.mt_plain.specs.Next.{next}
use Rattle.mt_plain.specs.Numbers.{number_text}
use Rattle.mt_plain.specs.Plain.{Plain, changed_types, live_at, opening}
use Rattle.mt_plain.specs.Refuse.{shard_of_range}
use Rattle.mt_plain.specs.Script.{Line, silent, command, bad_line, line_too_long, Request, event, write_through, read_through, advance_in, drive, rules_document, dump_document, read_line, request_of}
use Rattle.mt_plain.specs.Serve.{served}

-- a script has at most this many bytes
abbrev pub MAX_SCRIPT_LENGTH : ℕ
MAX_SCRIPT_LENGTH = 1048576

-- ---- texts

-- the end of a line
abbrev pub line_feed : List ℕ
line_feed = 10 ∷ []

-- a refusal of a line
abbrev pub refused_text : List ℕ → List ℕ
refused_text refusal = codes "refused " ++ refusal

-- the row that was read
abbrev pub row_text : Row → List ℕ
row_text None = codes "none"
row_text (Some value) = codes "row " ++ value.items

-- words separated by spaces
abbrev pub spaced : List ℕ → List ℕ → List ℕ
spaced first others = first ++ codes " " ++ others

-- the state of a stream (MoveTables: Show)
abbrev pub state_text : StreamState → List ℕ
state_text running = codes "running"
state_text stopped = codes "stopped"
state_text frozen = codes "frozen"

-- a stream with its position
abbrev pub slot_text : Slot → List ℕ
slot_text slot = spaced (state_text slot.state) (number_text slot.position)

-- the back stream, if there is one
abbrev pub back_text : Option Slot → List ℕ
back_text None = codes "none"
back_text (Some slot) = slot_text slot

-- whether a copy has ended
abbrev pub copied_text : Bool → List ℕ
copied_text ended = if ended then codes "copied" else codes "copying"

-- the forward streams: of one shard as it is, of several each behind its range
abbrev pub forward_text : ShownLane → List ℕ
forward_text lane = spaced (slot_text lane.forward) (copied_text lane.copied)

abbrev pub forwards_text : List ShownLane → List ℕ
forwards_text (lane ∷ []) = forward_text lane
forwards_text lanes = join_with_byte 32 (map (λ lane. spaced (range_text lane.range) (forward_text lane)) lanes)

-- the back streams, each behind its range too; all shards have one, or none has
abbrev pub lane_back_texts : ShownLane → List (List ℕ)
lane_back_texts lane = option_map_or (λ slot. spaced (range_text lane.range) (slot_text slot) ∷ []) lane.back []

abbrev pub none_or : List (List ℕ) → List ℕ
none_or [] = codes "none"
none_or (text ∷ texts) = join_with_byte 32 (text ∷ texts)

abbrev pub backs_text : List ShownLane → List ℕ
backs_text (lane ∷ []) = back_text lane.back
backs_text lanes = none_or (flat_map lane_back_texts lanes)

-- the open way: its direction, the types that it changes, how many of its steps stand done
abbrev pub way_text : Option Way → List ℕ
way_text None = codes "none"
way_text (Some way) =
    spaced (if way.back then codes "back" else codes "forward") (spaced (type_set_text (changed_types way)) (number_text way.done))
    ++ (if way.undoing then codes " undoing" else [])

-- what Show tells (MoveTables: Show)
abbrev pub shown_text : Shown → List ℕ
shown_text s =
    spaced s.workflow (spaced s.source (spaced s.target (spaced (table_list_text s.tables)
    (spaced (codes "switched") (spaced (type_set_text s.switched)
    (spaced (codes "way") (spaced (way_text s.way)
    (spaced (codes "forward") (spaced (forwards_text s.lanes)
    (spaced (codes "back") (backs_text s.lanes)))))))))))

-- the answer to an event
abbrev pub answer_text : Answer → List ℕ
answer_text done = codes "ok"
answer_text (row r) = row_text r
answer_text (advanced events rows) = spaced (codes "events") (spaced (number_text events) (spaced (codes "rows") (number_text rows)))
answer_text (shown s) = shown_text s
answer_text (refused refusal) = refused_text (refusal_text refusal)

-- how a drive ended (SwitchTraffic, ReverseTraffic)
abbrev pub driven_text : Driven → List ℕ
driven_text driven.done = codes "ok"
driven_text (driven.abandoned refusal) = codes "abandoned " ++ refusal_text refusal
driven_text (driven.stopped refusal steps) = codes "stopped " ++ refusal_text refusal ++ codes " " ++ number_text steps

-- the same, or that its begin was refused
abbrev pub ended_text : Result Driven Refusal → List ℕ
ended_text (Ok driven) = driven_text driven
ended_text (Err refusal) = refused_text (refusal_text refusal)

-- ---- what a line asks for

-- a line tells nothing, tells a text that the state decides, asks the core for an event, whose answer it tells, or drives a switch
-- or a reversal of traffic, whose end it tells
pub data Told : Type 0 where
  nothing : Told
  says : List ℕ → Told
  asks : Event → Told
  drives : Driving → Told

-- a table that is looked up, and what is asked of it there
abbrev pub asked_there : Result RuleTarget TopologyFault → ((keyspace table : List ℕ) → Event) → Told
asked_there (Ok target) ask = asks (ask target.keyspace target.table)
asked_there (Err fault) ask = says (refused_text (topology_fault_text fault))

-- a shard that is looked up by its range, and what is asked of it there
abbrev pub asked_in : Result ℕ Refusal → ((shard : ℕ) → Event) → Told
asked_in (Ok shard) ask = asks (ask shard)
asked_in (Err refusal) ask = says (refused_text (refusal_text refusal))

-- what a request tells in a state
abbrev pub told_request : Plain → Result Request NameFault → Told
told_request p (Err fault) = says (refused_text (fault_text fault))
told_request p (Ok (event e)) = asks e
told_request p (Ok (write_through key op)) = asked_there (resolution (served p) key Primary) (λ keyspace table. write keyspace table op)
told_request p (Ok (read_through key number tablet_type)) =
    asked_there (resolution (served p) key tablet_type) (λ keyspace table. read keyspace table number tablet_type)
told_request p (Ok (drive workflow types backward)) = drives (begins workflow types backward)
told_request p (Ok (advance_in workflow stream range at at_most)) =
    asked_in (shard_of_range (live_at p workflow) range) (λ shard. advance workflow stream shard at at_most)
told_request p (Ok rules_document) = says (rules_text (served p).rules)
told_request p (Ok dump_document) = says (dump_text (served p))

-- what a line tells in a state
abbrev pub told_line : Plain → Line → Told
told_line p silent = nothing
told_line p bad_line = says (refused_text (codes "X1 BadLine"))
told_line p line_too_long = says (refused_text (codes "X2 LineTooLong"))
told_line p (command c) = told_request p (request_of c)

-- how lines are read
abbrev pub Reading : Type 0
Reading = List ℕ → Line

-- the same of its bytes, by how lines are read
abbrev pub told : Reading → Plain → List ℕ → Told
told reading p line = told_line p (reading line)

-- the watchers of a program that is started with some keyspaces: one for the routers, and one for each keyspace's primary
abbrev pub watchers_of : List (List ℕ) → List Scope
watchers_of keyspaces = scope.Routes ∷ map scope.Primary keyspaces

-- ---- the output, as a relation: out of memory, a watcher's refusal and a cut advance are free

-- what the rest of a script may be, from the state in which it begins
abbrev pub Rest : Type 1
Rest = Plain → List ℕ → Type 0

-- a text in a line of its own, and then the rest
abbrev pub Says : Plain → List ℕ → Rest → List ℕ → Type 0
Says p text Then out = (rest : List ℕ) × (out ≡ text ++ line_feed ++ rest) × Then p rest

-- what a line adds to the output, and then the rest from the state that it leaves
abbrev pub Adds : AnswerRule → Plain → Told → Rest → List ℕ → Type 0
Adds rule p nothing Then out = Then p out
Adds rule p (says text) Then out = Says p text Then out
Adds rule p (asks e) Then out =
    (answer : Answer) × (rest : List ℕ) × rule p e answer × (out ≡ answer_text answer ++ line_feed ++ rest) × Then (next p e answer) rest
Adds rule p (drives driving) Then out = Drives rule most_turns (λ ended q. Says q (ended_text ended) Then out) driving p

-- the outputs of some lines from a state on
abbrev pub Output : AnswerRule → Reading → Plain → List (List ℕ) → List ℕ → Type 0
Output rule reading p [] out = out ≡ []
Output rule reading p (line ∷ lines) out = Adds rule p (told reading p line) (λ q rest. Output rule reading q lines rest) out

-- an output of a script: the texts of its lines over one run of the core from its opening, with watchers of these scopes
abbrev pub IsOutputBy : Reading → List Scope → (input output : List ℕ) → Type 0
IsOutputBy reading scopes input out = Output Answers reading (opening scopes) (lines input) out

-- the same of the whole language
abbrev pub IsOutput : List Scope → (input output : List ℕ) → Type 0
IsOutput = IsOutputBy read_line

-- the beginning of an output
abbrev pub BeginsOutput : Reading → List Scope → (input written : List ℕ) → Type 0
BeginsOutput reading scopes input written =
    (out : List ℕ) × (rest : List ℕ) × IsOutputBy reading scopes input out × (written ++ rest ≡ out)

-- ---- the output, as a function: nothing is free

-- what a drive that goes on or ends tells, and the rest
abbrev pub goes_then : (Driving → Plain → List ℕ) → Plain → Heard → (Plain → List ℕ) → List ℕ
goes_then again p (goes_on driving) rest = again driving p
goes_then again p (ends ended) rest = ended_text ended ++ line_feed ++ rest p

-- the text that a drive ends with, and the rest
abbrev pub drive_then : (turns : ℕ) → (Plain → List ℕ) → Driving → Plain → List ℕ
drive_then zero rest driving p = rest p
drive_then (suc turns) rest driving p =
    let answer = answer_of p (event_of p driving) in
    let q = next p (event_of p driving) answer in
    goes_then (drive_then turns rest) q (heard q driving answer) rest

-- what a line adds, and the rest
abbrev pub told_then : Plain → Told → (Plain → List ℕ) → List ℕ
told_then p nothing rest = rest p
told_then p (says text) rest = text ++ line_feed ++ rest p
told_then p (asks e) rest = let answer = answer_of p e in answer_text answer ++ line_feed ++ rest (next p e answer)
told_then p (drives driving) rest = drive_then most_turns rest driving p

-- the output of some lines from a state on
abbrev pub output_from : Reading → Plain → List (List ℕ) → List ℕ
output_from reading p [] = []
output_from reading p (line ∷ lines) = told_then p (told reading p line) (λ q. output_from reading q lines)

-- the output of a script, by how lines are read
abbrev pub output_by : Reading → List Scope → List ℕ → List ℕ
output_by reading scopes input = output_from reading (opening scopes) (lines input)

-- the output of a script
abbrev pub output : List Scope → List ℕ → List ℕ
output = output_by read_line

-- the rule of a core that wants no memory, and whose watchers don't refuse
abbrev pub AnswersWithMemory : AnswerRule
AnswersWithMemory p e answer = answer ≡ answer_of p e

-- ---- why a script may end early, and what it leaves written

-- no memory, a reader or a writer that fails, a script that is too long
pub data ScriptFault : Type 0 where
  memory : ScriptFault
  read_fault : ScriptFault
  write_fault : ScriptFault
  too_long : ScriptFault

-- a script is read whole before its first line: a fault of reading, or a script that is too long, leaves nothing written
abbrev pub Leaves : Reading → List Scope → ScriptFault → (input written : List ℕ) → Type 0
Leaves reading scopes memory input written = BeginsOutput reading scopes input written
Leaves reading scopes read_fault input written = written ≡ []
Leaves reading scopes write_fault input written = BeginsOutput reading scopes input written
Leaves reading scopes too_long input written = (MAX_SCRIPT_LENGTH < length input) × (written ≡ [])
