-- What a line tells is run, and becomes its text.
use native.Mathlib.Omega.{arith}
use Rattle.std.proofs.Common.{◌≡◌, ℕ, zero, suc, Bool, List, [], ◌∷◌, ◌++◌, Option, Some, None, Result, Ok, Err, String, Global, refl, sym, ap, ◌∙◌, subst, append-nil, append_assoc, inl, inr}
use Rattle.std.proofs.KnownBytes.{Appends-nil, Consumes-nil}
use Rattle.std.specs.Prelude.{IfOk, string_bytes}
use Rattle.std.specs.Str.Lines.{lines}
use Rattle.mt_model.specs.declared.entries.Scope.{Scope}
use Rattle.mt_model.specs.declared.faults.TopologyFault.{TopologyFault}
use Rattle.mt_model.specs.Faults.{topology_fault_text}
use Rattle.mt_names.specs.declared.fault.NameFault.{NameFault}
use Rattle.mt_names.specs.declared.keys.RuleTarget.{RuleTarget}
use Rattle.mt_names.specs.declared.types.TypeSet.{TypeSet}
use Rattle.mt_names.specs.Faults.{fault_text}
use Rattle.mt_names.specs.Shards.{KeyRange}
use Rattle.mt_plain.specs.Events.{Answer, Event, Refusal, StreamName, advance, refused}
use Rattle.mt_plain.specs.Answers.{Answers, Run, after}
use Rattle.mt_plain.specs.Drive.{Driven, Drives, Driving, EndRule, GoesOn, Heard, event_of, heard, most_turns}
use Rattle.mt_plain.specs.Drive as turn
use Rattle.mt_plain.specs.Next.{next}
use Rattle.mt_plain.specs.Output.{IsOutputBy, Output, Told, asked_in, asked_there, asks, drives, line_feed, nothing, output_from, refused_text, says, told, told_line, told_request}
use Rattle.mt_plain.specs.Output as plain
use Rattle.mt_plain.specs.Plain.{Plain, live_at, opening}
use Rattle.mt_plain.specs.Refuse.{shard_of_range}
use Rattle.mt_plain.specs.Script.{Command, Request, command, read_line, request_of}
use Rattle.mt_plain.specs.Script as script
use Rattle.mt_laws.specs.Scripts.{HasEnded, IsDrive, WritesOf}
use Rattle.mt_laws.proofs.OutputLemmas.{output_from-is_written, output_from_memory}
use Rattle.mt_laws.proofs.ScriptRunLemmas.{script_keeps_the_headline}
use Rattle.mt_script.specs.declared.fault.ScriptFault.{ScriptFault}
use Rattle.mt_script.specs.declared.fault.ScriptFault.TheVariants as fault
use Rattle.mt_script.specs.Bytes.{Known, Reads}
use Rattle.mt_stands.specs.Ways.{CoreStands, CoreState, CoreSteps}
use Rattle.mt_run.specs.Rows.{IsThrough}
use Rattle.mt_run.specs.declared.line_run.Answered.{Answered}
use Rattle.mt_run.specs.declared.line_run.Answered.TheVariants as how
use Rattle.mt_run.specs.Runs.{IsAnswered, IsNamed, IsTold, OnDocument, Runs, RunsLine, RunsLines, Tells, answered_by, bytes_of, through_text}

-- ---- a line

-- the lines that are left have an output, whatever they are
pub has_output : (p : Plain) (lines : List (List ℕ)) → Output Answers read_line p lines (output_from read_line p lines)
has_output p lines = output_from_memory read_line lines p (output_from read_line p lines) (output_from-is_written read_line lines p)

-- the events of a drive that comes to its end, and what holds there: whatever else does holds of the drive
record Drove (Ends : EndRule) (turns : ℕ) (p : Plain) (d : Driving) : Type 1 where
  events : List Event
  answers : List Answer
  ended : Result Driven Refusal
  run : Run p events answers
  is : IsDrive p d events answers ended
  holds : Ends ended (after p events answers)
  then : (Ends' : EndRule) → Ends' ended (after p events answers) → Drives Answers turns Ends' d p

drove : (Ends : EndRule) (turns : ℕ) (p : Plain) (d : Driving) → Drives Answers turns Ends d p → Drove Ends turns p d
drove Ends zero p d went = absurd went
drove Ends (suc turns) p d (answer, may, went) = by (drove Ends turns) (heard q d answer) refl went
  where
    q : Plain
    q = next p (event_of p d) answer

    by : ((r : Plain) (rest : Driving) → Drives Answers turns Ends rest r → Drove Ends turns r rest) → (h : Heard) → h ≡ heard q d answer
        → GoesOn (Drives Answers turns Ends) Ends q h → Drove Ends (suc turns) p d
    by again (turn.goes_on rest) is goes =
        let was = again q rest goes in
        record {
          events = event_of p d ∷ was.events;
          answers = answer ∷ was.answers;
          ended = was.ended;
          run = (may, was.run);
          is = (refl, may, subst (GoesOn (λ further r. IsDrive r further was.events was.answers was.ended) (HasEnded was.events was.answers was.ended) q) is was.is);
          holds = was.holds;
          then = λ Ends' held. (answer, may, subst (GoesOn (Drives Answers turns Ends') Ends' q) is (was.then Ends' held));
        }
    by again (turn.ends last) is holds = record {
      events = event_of p d ∷ [];
      answers = answer ∷ [];
      ended = last;
      run = (may, tt);
      is = (refl, may, subst (GoesOn (λ further r. IsDrive r further [] [] last) (HasEnded [] [] last) q) is (refl, refl, refl));
      holds = holds;
      then = λ Ends' held. (answer, may, subst (GoesOn (Drives Answers turns Ends') Ends' q) is held);
    }

-- the events of a line, and what the core stands for behind them
pub record WasTold (scopes : List Scope) (p : Plain) (t : Told) (text : List ℕ) (core : CoreState) : Type 0 where
  pub events : List Event
  pub answers : List Answer
  pub writes : WritesOf p t events answers text
  pub run : Run p events answers
  pub stands : CoreStands (after p events answers) scopes core

pub tells_was : (scopes : List Scope) (p : Plain) (t : Told) (text : Option (List ℕ)) (core : CoreState) → Tells scopes p t text core → WasTold scopes p t (bytes_of text) core
tells_was scopes p nothing text core (none, stands) = record { events = []; answers = []; writes = (refl, refl, ap bytes_of none); run = tt; stands = stands }
tells_was scopes p (says words) text core (some, stands) = record { events = []; answers = []; writes = (refl, refl, ap bytes_of some); run = tt; stands = stands }
tells_was scopes p (asks event) text core (answer, answers, some, stands) =
    record { events = event ∷ []; answers = answer ∷ []; writes = (answer, answers, refl, refl, ap bytes_of some); run = (answers, tt); stands = stands }
tells_was scopes p (drives driving) text core tells =
    let was = drove (λ ended q. (text ≡ Some (plain.ended_text ended ++ line_feed)) × CoreStands q scopes core) most_turns p driving tells.drove in
    record { events = was.events; answers = was.answers; writes = (was.ended, was.is, ap bytes_of was.holds.0); run = was.run; stands = was.holds.1 }

-- the answer to an event, told
asks_told : (scopes : List Scope) (old new : CoreState) (event : Event) (answer : Answer) (text : List ℕ) → text ≡ plain.answer_text answer ++ line_feed → CoreSteps scopes old event answer new
    → (p : Plain) → CoreStands p scopes old → Tells scopes p (asks event) (Some text) new
asks_told scopes old new event answer text is steps p stands = let then = steps p stands in (answer, then.0, ap Some is, then.1)

-- the answer to an event stands behind what waited
pub answered : (scopes : List Scope) (old new : CoreState) (event : Event) (answer : Answer) (waiting waiting' : List ℕ) → waiting' ≡ waiting ++ plain.answer_text answer ++ line_feed
    → CoreSteps scopes old event answer new → IsAnswered scopes old (script.event event) waiting waiting' new
answered scopes old new event answer waiting waiting' added steps =
    λ p stands. (plain.answer_text answer ++ line_feed, asks_told scopes old new event answer _ refl steps p stands, added ∙ append_assoc waiting (plain.answer_text answer) line_feed)

-- ---- a shard, through its range

module _ (scopes : List Scope) (old : CoreState) (workflow : List ℕ) (stream : StreamName) (range : KeyRange) (at at_most : ℕ) where
  -- what is asked of a shard that was looked up
  abbrev told_in : Result ℕ Refusal → Told
  told_in found = asked_in found (λ shard. advance workflow stream shard at at_most)

  -- how each state looks it up
  abbrev pub Found : Result ℕ Refusal → Type 0
  Found found = (p : Plain) → CoreStands p scopes old → found ≡ shard_of_range (live_at p workflow) range

  -- what is answered in the shard is the answer
  pub in_shard : (new : CoreState) (shard : ℕ) (waiting waiting' : List ℕ) → Found (Ok shard) → IsAnswered scopes old (script.event (advance workflow stream shard at at_most)) waiting waiting' new
      → IsAnswered scopes old (script.advance_in workflow stream range at at_most) waiting waiting' new
  in_shard new shard waiting waiting' found answers = λ p stands. subst (λ there. IsTold scopes p (told_in there) waiting waiting' new) (found p stands) (answers p stands)

  -- that there is none stands there
  pub nowhere_in : (refusal : Refusal) (waiting waiting' : List ℕ) → waiting' ≡ waiting ++ plain.answer_text (refused refusal) ++ line_feed → Found (Err refusal)
      → IsAnswered scopes old (script.advance_in workflow stream range at at_most) waiting waiting' old
  nowhere_in refusal waiting waiting' added found = λ p stands.
      let text : List ℕ = plain.answer_text (refused refusal) ++ line_feed in
      (text, subst (λ there. Tells scopes p (told_in there) (Some text) old) (found p stands) (refl, stands), added ∙ append_assoc waiting (plain.answer_text (refused refusal)) line_feed)

-- ---- a row, through a name

-- the answer where the name leads, told
answered_through : {A : Type 0} (Stays : Type 0) (scopes : List Scope) (p : Plain) (old new : CoreState) (led : Result RuleTarget TopologyFault) (ask : (keyspace table : List ℕ) → Event)
    (answer_of : A → Answer) (told : A) (text : List ℕ) → text ≡ plain.answer_text (answer_of told) ++ line_feed
    → IsThrough led Stays (λ target answer. CoreSteps scopes old (ask target.keyspace target.table) (answer_of answer) new) (Ok told)
    → CoreStands p scopes old → Tells scopes p (asked_there led ask) (Some text) new
answered_through Stays scopes p old new (Ok target) ask answer_of told text is steps stands = asks_told scopes old new (ask target.keyspace target.table) (answer_of told) text is steps p stands
answered_through Stays scopes p old new (Err fault) ask answer_of told text is steps stands = absurd steps

-- that the name leads nowhere, told
nowhere_told : {A : Type 0} (Stays : Type 0) (Answers : RuleTarget → A → Type 0) (scopes : List Scope) (p : Plain) (new : CoreState) (led : Result RuleTarget TopologyFault)
    (ask : (keyspace table : List ℕ) → Event) (told : TopologyFault) (text : List ℕ) → text ≡ refused_text (topology_fault_text told) ++ line_feed
    → IsThrough led Stays Answers (Err told) → (Stays → CoreStands p scopes new) → Tells scopes p (asked_there led ask) (Some text) new
nowhere_told Stays Answers scopes p new (Ok target) ask told text is nowhere stands = absurd nowhere
nowhere_told Stays Answers scopes p new (Err fault) ask told text is nowhere stands =
    (ap Some (is ∙ ap (λ f. refused_text (topology_fault_text f) ++ line_feed) nowhere.0), stands nowhere.1)

-- either of them, told
pub through_told : {A : Type 0} (Stays : Type 0) (scopes : List Scope) (p : Plain) (old new : CoreState) (led : Result RuleTarget TopologyFault) (ask : (keyspace table : List ℕ) → Event)
    (answer_of : A → Answer) (result : Result A TopologyFault) (text : List ℕ) → text ≡ through_text answer_of result
    → IsThrough led Stays (λ target answer. CoreSteps scopes old (ask target.keyspace target.table) (answer_of answer) new) result
    → (Stays → CoreStands p scopes new) → CoreStands p scopes old → Tells scopes p (asked_there led ask) (Some text) new
through_told Stays scopes p old new led ask answer_of (Ok told) text is steps stays stands = answered_through Stays scopes p old new led ask answer_of told text is steps stands
through_told Stays scopes p old new led ask answer_of (Err fault) text is nowhere stays stands =
    nowhere_told Stays (λ target answer. CoreSteps scopes old (ask target.keyspace target.table) (answer_of answer) new) scopes p new led ask fault text is nowhere stays

-- the end of a drive stands behind what waited
pub driven : (scopes : List Scope) (old new : CoreState) (workflow : List ℕ) (types : TypeSet) (back : Bool) (ended : Result Driven Refusal) (waiting waiting' : List ℕ)
    → waiting' ≡ waiting ++ plain.ended_text ended ++ line_feed
    → ((p : Plain) → CoreStands p scopes old → Drives Answers most_turns (λ end q. (end ≡ ended) × CoreStands q scopes new) (turn.begins workflow types back) p)
    → IsAnswered scopes old (script.drive workflow types back) waiting waiting' new
driven scopes old new workflow types back ended waiting waiting' added went = λ p stands. (plain.ended_text ended ++ line_feed, told_of p stands, added ∙ append_assoc waiting (plain.ended_text ended) line_feed)
  where
    told_of : (p : Plain) → CoreStands p scopes old → Tells scopes p (drives (turn.begins workflow types back)) (Some (plain.ended_text ended ++ line_feed)) new
    told_of p stands =
        let was = drove (λ e q. (e ≡ ended) × CoreStands q scopes new) most_turns p (turn.begins workflow types back) (went p stands) in
        record {
          drove = was.then (λ e q. (Some (plain.ended_text ended ++ line_feed) ≡ Some (plain.ended_text e ++ line_feed)) × CoreStands q scopes new)
              (ap Some (ap (λ e. plain.ended_text e ++ line_feed) (sym was.holds.0)), was.holds.1);
        }

-- ---- a document

-- what a line tells that commands this
command_told : (p : Plain) (line : List ℕ) (c : Command) → read_line line ≡ command c → told_request p (request_of c) ≡ told read_line p line
command_told p line c is = ap (told_line p) (sym is)

-- a document that is made is what such a line tells
pub document_tells_made : (scopes : List Scope) (p : Plain) (line : List ℕ) (core : CoreState) (text : List ℕ) → CoreStands p scopes core → told read_line p line ≡ says text
    → Tells scopes p (told read_line p line) (Some (text ++ line_feed)) core
document_tells_made scopes p line core text stands is = subst (λ t. Tells scopes p t (Some (text ++ line_feed)) core) (sym is) (refl, stands)

-- ---- a command

-- a line's text stands behind what waited
module _ (scopes : List Scope) (p : Plain) (line : List ℕ) (core : CoreState) (waiting waiting' : List ℕ) where
  pub line_waits : IsTold scopes p (told read_line p line) waiting waiting' core → RunsLine scopes p line core waiting waiting' how.Line
  line_waits (text, tells, added) = (Some text, tells, added)

  pub line_silent : told read_line p line ≡ nothing → CoreStands p scopes core → waiting' ≡ waiting → RunsLine scopes p line core waiting waiting' how.Line
  line_silent is stands same = (None, subst (λ t. Tells scopes p t None core) (sym is) (refl, stands), same ∙ sym (append-nil waiting))

  -- a command's text, and that of a fault of a name in it
  module _ (c : Command) (is : read_line line ≡ command c) where
    pub command_waits : IsTold scopes p (told_request p (request_of c)) waiting waiting' core → RunsLine scopes p line core waiting waiting' how.Line
    command_waits tells = line_waits (subst (λ t. IsTold scopes p t waiting waiting' core) (command_told p line c is) tells)

    pub fault_waits : (fault : NameFault) → request_of c ≡ Err fault → CoreStands p scopes core → waiting' ≡ waiting ++ refused_text (fault_text fault) ++ line_feed
        → RunsLine scopes p line core waiting waiting' how.Line
    fault_waits fault wrong stands added =
        command_waits (subst (λ r. IsTold scopes p (told_request p r) waiting waiting' core) (sym wrong) (refused_text (fault_text fault) ++ line_feed, (refl, stands), added ∙ append_assoc waiting (refused_text (fault_text fault)) line_feed))

    pub named_waits : (old : CoreState) → IsNamed scopes old c waiting waiting' (Ok tt) core → CoreStands p scopes old → RunsLine scopes p line core waiting waiting' how.Line
    named_waits old (request, reads, answers) stands = command_waits (subst (λ r. IsTold scopes p (told_request p r) waiting waiting' core) (sym reads) (answers p stands))

-- a document that is made, or for which there is no memory
pub document_made : {E : Type 0} (scopes : List Scope) (p : Plain) (line : List ℕ) (core : CoreState) (waiting : List ℕ) (made : Result (String Global) E) (due : List ℕ) → CoreStands p scopes core
    → told read_line p line ≡ says due → IfOk made (λ text. string_bytes text ≡ due) → RunsLine scopes p line core waiting waiting (answered_by made)
document_made scopes p line core waiting (Ok text) due stands is same =
    document_tells_made scopes p line core (string_bytes text) stands (is ∙ ap says (sym same))
document_made scopes p line core waiting (Err fault) due stands is same = tt

-- what holds is held of a document
pub on_document : (answered : Answered) {P : Type 0} → P → OnDocument answered P
on_document how.Line holds = tt
on_document (how.Document text) holds = holds
on_document how.NoMemory holds = holds

-- ---- the whole run

pub runs_read : (scopes : List Scope) (left left' held : Known) (f : ScriptFault) → Reads left left' (Err f) → Runs scopes left left' held held (Err f)
runs_read scopes left left' held fault.Memory (input, consumed, most) =
    let out = plain.output_by read_line scopes input in
    let is = has_output (opening scopes) (lines input) in
    (input, [], consumed, inl (most, refl), Appends-nil held, (out, out, is, refl), (out, script_keeps_the_headline read_line scopes input out is))
runs_read scopes left left' held fault.Read (input, consumed, most) = (input, [], consumed, most, Appends-nil held, refl, tt)
runs_read scopes left left' held fault.Write (input, consumed, impossible) = absurd impossible
runs_read scopes left left' held fault.TooLong (input, consumed, long) = (input, [], consumed, long, Appends-nil held, (long.0, refl), tt)

-- a run that finds no memory before it reads
pub runs_none : (scopes : List Scope) (left held : Known) → Runs scopes left left held held (Err fault.Memory)
runs_none scopes left held = runs_read scopes left left held fault.Memory ([], Consumes-nil left, omega arith)

pub runs_lines : (scopes : List Scope) (left left' held held' : Known) (script : List ℕ) (result : Result Unit ScriptFault) → Reads left left' (Ok script)
    → RunsLines (opening scopes) script held held' result → Runs scopes left left' held held' result
runs_lines scopes left left' held held' script (Ok done) read (written, went, is) =
    (script, written, read.0, (read.1, read.2), went, is, script_keeps_the_headline read_line scopes script written is)
runs_lines scopes left left' held held' script (Err fault.Write) read (out, is, (rest, some, (written, went, all))) =
    let whole = subst (λ o. IsOutputBy read_line scopes script o) all is in
    (script, written, read.0, ((read.1, read.2), (rest, some, whole)), went, (out, rest, is, sym all), (rest, script_keeps_the_headline read_line scopes script (written ++ rest) whole))
runs_lines scopes left left' held held' script (Err fault.Memory) read (written, rest, went, ran, is) =
    (script, written, read.0, inr ((read.1, read.2), ran), went, (written ++ rest, rest, is, refl), (rest, script_keeps_the_headline read_line scopes script (written ++ rest) is))
runs_lines scopes left left' held held' script (Err fault.Read) read impossible = absurd impossible
runs_lines scopes left left' held held' script (Err fault.TooLong) read impossible = absurd impossible
