-- What a run of a script does to its reader and its writer.
use Rattle.std.specs.Prelude.{◌≡◌, ◌≢◌, ◌⊎◌, ⊤, ℕ, Bool, true, false, List, [], ◌∷◌, ◌++◌, Option, None, Some, Result, Ok, Err, String, string_bytes}
use Rattle.std.specs.Global.{Global}
use Rattle.std.specs.Str.Lines.{lines}
use Rattle.std.specs.Io.KnownBytes.{Appends, Consumes}
use Rattle.mt_model.specs.declared.entries.Scope.{Scope}
use Rattle.mt_model.specs.declared.faults.TopologyFault.{TopologyFault}
use Rattle.mt_model.specs.Faults.{topology_fault_text}
use Rattle.mt_laws.specs.Headline.{Headline}
use Rattle.mt_laws.specs.Scripts.{IsScriptRun}
use Rattle.mt_plain.specs.Events.{Answer, Event}
use Rattle.mt_plain.specs.Answers.{Answers, Run}
use Rattle.mt_plain.specs.Drive.{Drives, Driving, most_turns}
use Rattle.mt_plain.specs.Next.{next}
use Rattle.mt_plain.specs.Output as plain
use Rattle.mt_plain.specs.Output.{IsOutput, Leaves, Told, answer_text, asks, drives, ended_text, Output, line_feed, nothing, refused_text, says, told, told_request}
use Rattle.mt_plain.specs.Plain.{Plain, opening}
use Rattle.mt_plain.specs.Script.{Command, Request, command, read_line, request_of}
use Rattle.mt_plain.specs.Script as script
use Rattle.mt_names.specs.declared.fault.NameFault.{NameFault}
use Rattle.mt_script.specs.declared.fault.ScriptFault.{ScriptFault}
use Rattle.mt_script.specs.declared.fault.ScriptFault.TheVariants as fault
use Rattle.mt_script.specs.Bytes.{HasRead, IsCutShort, IsWhole, Known}
use Rattle.mt_stands.specs.Ways.{CoreStands, CoreState}
use Rattle.mt_run.specs.declared.line_run.Answered.{Answered}
use Rattle.mt_run.specs.declared.line_run.Answered.TheVariants as how

-- ---- a line

-- a drive ends, its end becomes a text, and the core, with watchers of these scopes, stands for the state after it. (A record, so that two
-- of these statements are compared part by part, and not turn by turn)
pub record TellsDrive (scopes : List Scope) (p : Plain) (driving : Driving) (text : Option (List ℕ)) (core : CoreState) : Type 0 where
  pub drove : Drives Answers most_turns (λ ended q. (text ≡ Some (ended_text ended ++ line_feed)) × CoreStands q scopes core) driving p

-- what a line tells becomes a text, or none, and the core, with watchers of these scopes, stands for the state after it
abbrev pub Tells : List Scope → Plain → Told → Option (List ℕ) → CoreState → Type 0
Tells scopes p nothing text core = (text ≡ None) × CoreStands p scopes core
Tells scopes p (says words) text core = (text ≡ Some (words ++ line_feed)) × CoreStands p scopes core
Tells scopes p (asks event) text core =
    (answer : Answer) × Answers p event answer × (text ≡ Some (answer_text answer ++ line_feed)) × CoreStands (next p event answer) scopes core
Tells scopes p (drives driving) text core = TellsDrive scopes p driving text core

-- the bytes of a text, or none
abbrev pub bytes_of : Option (List ℕ) → List ℕ
bytes_of None = []
bytes_of (Some text) = text

-- a command for a document. It alone may end a run for lack of memory
abbrev pub is_document : Command → Bool
is_document script.rules = true
is_document script.dump = true
is_document other = false

-- a line that asks for a document
abbrev pub AsksDocument : List ℕ → Type 0
AsksDocument line = (c : Command) × (is_document c ≡ true) × (read_line line ≡ command c)

-- what is told becomes a text behind what waited
abbrev pub IsTold : List Scope → Plain → Told → (waiting waiting' : List ℕ) → CoreState → Type 0
IsTold scopes p t waiting waiting' core = (text : List ℕ) × Tells scopes p t (Some text) core × (waiting' ≡ waiting ++ text)

-- a request is answered, where the core stood for a state before it
abbrev pub IsAnswered : List Scope → CoreState → Request → (waiting waiting' : List ℕ) → CoreState → Type 0
IsAnswered scopes old request waiting waiting' new = (p : Plain) → CoreStands p scopes old → IsTold scopes p (told_request p (Ok request)) waiting waiting' new

-- a command is answered; or a name in it is in fault, and nothing is done
abbrev pub IsNamed : List Scope → CoreState → Command → (waiting waiting' : List ℕ) → Result Unit NameFault → CoreState → Type 0
IsNamed scopes old c waiting waiting' (Ok done) new = (request : Request) × (request_of c ≡ Ok request) × IsAnswered scopes old request waiting waiting' new
IsNamed scopes old c waiting waiting' (Err fault) new = (request_of c ≡ Err fault) × (new ≡ old) × (waiting' ≡ waiting)

-- a command for a row is answered, with whatever watchers: they aren't asked
abbrev pub IsRowTold : CoreState → Command → (waiting waiting' : List ℕ) → CoreState → Type 0
IsRowTold old c waiting waiting' new =
    (scopes : List Scope) (p : Plain) → CoreStands p scopes old → IsTold scopes p (told_request p (request_of c)) waiting waiting' new

-- the text of what was asked through a name: the answer, or why the name leads nowhere
abbrev pub through_text : {A : Type 0} → (A → Answer) → Result A TopologyFault → List ℕ
through_text answer_of (Ok told) = answer_text (answer_of told) ++ line_feed
through_text answer_of (Err fault) = refused_text (topology_fault_text fault) ++ line_feed

-- a line is answered: its text stands behind what waited, or is a document with a line feed. Of one that finds no memory for a document nothing is told
abbrev pub RunsLine : List Scope → Plain → (line : List ℕ) → CoreState → (waiting waiting' : List ℕ) → Answered → Type 0
RunsLine scopes p line core waiting waiting' how.Line =
    (text : Option (List ℕ)) × Tells scopes p (told read_line p line) text core × (waiting' ≡ waiting ++ bytes_of text)
RunsLine scopes p line core waiting waiting' (how.Document text) = Tells scopes p (told read_line p line) (Some (string_bytes text ++ line_feed)) core
RunsLine scopes p line core waiting waiting' how.NoMemory = ⊤

-- by a document that is made, or for which there was no memory
abbrev pub answered_by : {E : Type 0} → Result (String Global) E → Answered
answered_by (Ok text) = how.Document text
answered_by (Err fault) = how.NoMemory

-- of a line that asks for a document
abbrev pub OnDocument : Answered → Type 0 → Type 0
OnDocument how.Line holds = ⊤
OnDocument (how.Document text) holds = holds
OnDocument how.NoMemory holds = holds

-- a script ran up to a line that asks for a document, and what the lines before it tell is written
abbrev pub RunsToDocument : Plain → (script written : List ℕ) → Type 0
RunsToDocument p script written =
    (before : List (List ℕ)) × (line : List ℕ) × (after : List (List ℕ)) × (lines script ≡ before ++ line ∷ after) × AsksDocument line
    × Output Answers read_line p before written

-- the answers to the lines of a script, from a state on: an output of them, which a write fault cuts short
abbrev pub RunsLines : Plain → (script : List ℕ) → Known → Known → Result Unit ScriptFault → Type 0
RunsLines p script held held' (Ok done) = (written : List ℕ) × Appends held held' written × Output Answers read_line p (lines script) written
RunsLines p script held held' (Err fault.Memory) =
    (written : List ℕ) × (rest : List ℕ) × Appends held held' written × RunsToDocument p script written × Output Answers read_line p (lines script) (written ++ rest)
RunsLines p script held held' (Err fault.Write) = (out : List ℕ) × Output Answers read_line p (lines script) out × IsCutShort held held' out
RunsLines p script held held' (Err fault.Read) = ⊥
RunsLines p script held held' (Err fault.TooLong) = ⊥

-- ---- the whole run

abbrev pub fault_of : ScriptFault → plain.ScriptFault
fault_of fault.Memory = plain.memory
fault_of fault.Read = plain.read_fault
fault_of fault.Write = plain.write_fault
fault_of fault.TooLong = plain.too_long

-- a beginning of an output, which lacks some of it
abbrev pub IsBeginning : List Scope → (input written : List ℕ) → Type 0
IsBeginning scopes input written = (rest : List ℕ) × (rest ≢ []) × IsOutput scopes input (written ++ rest)

-- how far a run came that ends early: it read its script and wrote a beginning of an output where the writer failed; and
-- where there was no memory, it either read a part and wrote nothing, or read its script and ran it up to a document
abbrev pub HasRun : List Scope → (left' : Known) → ScriptFault → (input written : List ℕ) → Type 0
HasRun scopes left' fault.Write input written = IsWhole left' input × IsBeginning scopes input written
HasRun scopes left' fault.Memory input written =
    (HasRead fault.Memory input × (written ≡ [])) ⊎ (IsWhole left' input × RunsToDocument (opening scopes) input written)
HasRun scopes left' fault.Read input written = HasRead fault.Read input
HasRun scopes left' fault.TooLong input written = HasRead fault.TooLong input

-- an output of a script is that of a run from the opening: the events that its lines ask for, with their answers and the texts that the
-- lines write; and of that run the headline holds, word for word
abbrev pub KeepsTheHeadline : List Scope → (input out : List ℕ) → Type 0
KeepsTheHeadline scopes input out =
    (events : List Event) × (answers : List Answer) × IsScriptRun read_line (opening scopes) (lines input) events answers out
    × Run (opening scopes) events answers × Headline (opening scopes) events answers

-- where a run ends early, what was written is the beginning of such an output, if it read its script at all
abbrev pub BeginsOne : List Scope → ScriptFault → (input written : List ℕ) → Type 0
BeginsOne scopes fault.Write input written = (rest : List ℕ) × KeepsTheHeadline scopes input (written ++ rest)
BeginsOne scopes fault.Memory input written = (rest : List ℕ) × KeepsTheHeadline scopes input (written ++ rest)
BeginsOne scopes fault.Read input written = ⊤
BeginsOne scopes fault.TooLong input written = ⊤

-- the bytes read are a script, and those written are an output of it, with watchers of these scopes, and nothing else; a
-- fault leaves written what the definitions say of it; and the headline holds of the run that wrote it
abbrev pub Runs : List Scope → (left left' held held' : Known) → Result Unit ScriptFault → Type 0
Runs scopes left left' held held' (Ok done) =
    (input : List ℕ) × (written : List ℕ) × Consumes left left' input × IsWhole left' input × Appends held held' written × IsOutput scopes input written
    × KeepsTheHeadline scopes input written
Runs scopes left left' held held' (Err f) =
    (input : List ℕ) × (written : List ℕ) × Consumes left left' input × HasRun scopes left' f input written × Appends held held' written
    × Leaves read_line scopes (fault_of f) input written × BeginsOne scopes f input written
