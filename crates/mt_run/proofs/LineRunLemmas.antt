-- A line behind those so far, and a script line by line.
use Rattle.std.proofs.Common.{◌≡◌, ℕ, List, [], ◌∷◌, ◌++◌, Result, Ok, Err, refl, sym, ap, ap₂, ◌∙◌, subst, append-nil, append_assoc}
use Rattle.std.proofs.KnownBytes.{Appends-trans}
use Rattle.std.proofs.lemmas.List.Concat.{flat_map-append}
use Rattle.std.specs.Io.KnownBytes.{Appends}
use Rattle.std.specs.Prelude.{flat_map, string_bytes}
use Rattle.std.specs.Str.Lines.{lines}
use Rattle.mt_model.specs.declared.entries.Scope.{Scope}
use Rattle.mt_plain.specs.Answers.{Answers, Run, after}
use Rattle.mt_plain.specs.Events.{Answer, Event}
use Rattle.mt_plain.specs.Next.{next}
use Rattle.mt_plain.specs.Output.{Output, line_feed, output_from, told}
use Rattle.mt_plain.specs.Plain.{Plain, opening}
use Rattle.mt_plain.specs.Script.{read_line}
use Rattle.mt_laws.specs.Scripts.{AreLineRuns, IsScriptRun, LineRun, WritesOf}
use Rattle.mt_laws.proofs.HeadlineLemmas.{headline_of_opening, run_joined}
use Rattle.mt_laws.proofs.ScriptRunLemmas.{output_was_a_run, run_wrote, script_is_a_run}
use Rattle.mt_script.specs.declared.fault.ScriptFault.{ScriptFault}
use Rattle.mt_script.specs.declared.fault.ScriptFault.TheVariants as fault
use Rattle.mt_script.specs.Bytes.{GoesOut, IsCutShort, Known, Writes}
use Rattle.mt_script.proofs.GoesLemmas.{cut_before, goes_on, nothing_out}
use Rattle.mt_stands.specs.Ways.{CoreStands, CoreState}
use Rattle.mt_run.specs.declared.line_run.Answered.{Answered}
use Rattle.mt_run.specs.declared.line_run.Answered.TheVariants as how
use Rattle.mt_run.specs.LineRuns.{AddsLine, SoFar, WritesAnswer}
use Rattle.mt_run.specs.Runs.{AsksDocument, OnDocument, RunsLine, RunsLines, bytes_of}
use Rattle.mt_run.proofs.RunLemmas.{WasTold, has_output, tells_was}

-- ---- scripts, one behind the other

-- the state behind two runs
after_joined : (earlier : List Event) (earlier_answers : List Answer) (p : Plain) (events : List Event) (answers : List Answer) → Run p earlier earlier_answers
    → after p (earlier ++ events) (earlier_answers ++ answers) ≡ after (after p earlier earlier_answers) events answers
after_joined [] [] p events answers first = refl
after_joined [] (a ∷ as') p events answers first = absurd first
after_joined (e ∷ es) [] p events answers first = absurd first
after_joined (e ∷ es) (a ∷ as') p events answers first = after_joined es as' (next p e a) events answers first.1

-- a script of one line
one_line : (p : Plain) (line : List ℕ) (run : LineRun) → WritesOf p (told read_line p line) run.events run.answers run.text
    → IsScriptRun read_line p (line ∷ []) run.events run.answers run.text
one_line p line run writes =
    record { runs = run ∷ []; each = (writes, tt); events_are = sym (append-nil run.events); answers_are = sym (append-nil run.answers); out_is = sym (append-nil run.text) }

abbrev events_in : List LineRun → List Event
events_in runs = flat_map (λ run. run.events) runs

abbrev answers_in : List LineRun → List Answer
answers_in runs = flat_map (λ run. run.answers) runs

lines_joined : (before : List (List ℕ)) (runs : List LineRun) (p : Plain) (more : List (List ℕ)) (others : List LineRun) → AreLineRuns read_line p before runs
    → AreLineRuns read_line (after p (events_in runs) (answers_in runs)) more others → AreLineRuns read_line p (before ++ more) (runs ++ others)
lines_joined [] [] p more others each rest = rest
lines_joined [] (run ∷ runs) p more others each rest = absurd each
lines_joined (line ∷ before) [] p more others each rest = absurd each
lines_joined (line ∷ before) (run ∷ runs) p more others each rest =
    let ran : Run p run.events run.answers = script_is_a_run read_line p (line ∷ []) run.events run.answers run.text (one_line p line run each.0) in (
      each.0,
      lines_joined before runs (after p run.events run.answers) more others each.1
          (subst (λ q. AreLineRuns read_line q more others) (after_joined run.events run.answers p (events_in runs) (answers_in runs) ran) rest),
    )

scripts_joined : (p : Plain) (before more : List (List ℕ)) (events events' : List Event) (answers answers' : List Answer) (out out' : List ℕ) → IsScriptRun read_line p before events answers out
    → IsScriptRun read_line (after p events answers) more events' answers' out' → IsScriptRun read_line p (before ++ more) (events ++ events') (answers ++ answers') (out ++ out')
scripts_joined p before more events events' answers answers' out out' first second = record {
  runs = first.runs ++ second.runs;
  each = lines_joined before first.runs p more second.runs first.each
      (subst (λ l. AreLineRuns read_line (after p l (answers_in first.runs)) more second.runs) first.events_are
      (subst (λ l. AreLineRuns read_line (after p events l) more second.runs) first.answers_are second.each));
  events_are = ap₂ (λ (x y : List Event). x ++ y) first.events_are second.events_are ∙ sym (flat_map-append (λ (run : LineRun). run.events) first.runs second.runs);
  answers_are = ap₂ (λ (x y : List Answer). x ++ y) first.answers_are second.answers_are ∙ sym (flat_map-append (λ (run : LineRun). run.answers) first.runs second.runs);
  out_is = ap₂ (λ (x y : List ℕ). x ++ y) first.out_is second.out_is ∙ sym (flat_map-append (λ (run : LineRun). run.text) first.runs second.runs);
}

-- ---- the lines so far

-- there is none
pub begins : (scopes : List Scope) (core : CoreState) → CoreStands (opening scopes) scopes core → SoFar scopes [] [] core
begins scopes core stands = record {
  events = [];
  answers = [];
  ran = record { runs = []; each = tt; events_are = refl; answers_are = refl; out_is = refl };
  keeps = headline_of_opening scopes [] [] tt;
  stands = stands;
}

module _ (scopes : List Scope) (before : List (List ℕ)) (out : List ℕ) (core : CoreState) (so_far : SoFar scopes before out core) where
  -- the state that they leave
  abbrev left : Plain
  left = after (opening scopes) so_far.events so_far.answers

  ran_so_far : Run (opening scopes) so_far.events so_far.answers
  ran_so_far = script_is_a_run read_line (opening scopes) before so_far.events so_far.answers out so_far.ran

  -- one line more
  one_more : (line text : List ℕ) (new : CoreState) → WasTold scopes left (told read_line left line) text new → SoFar scopes (before ++ line ∷ []) (out ++ text) new
  one_more line text new was =
      let own : LineRun = record { events = was.events; answers = was.answers; text = text } in
      let run : Run (opening scopes) (so_far.events ++ was.events) (so_far.answers ++ was.answers) = run_joined so_far.events so_far.answers (opening scopes) was.events was.answers ran_so_far was.run in
      record {
        events = so_far.events ++ was.events;
        answers = so_far.answers ++ was.answers;
        ran = scripts_joined (opening scopes) before (line ∷ []) so_far.events was.events so_far.answers was.answers out text so_far.ran (one_line left line own was.writes);
        keeps = headline_of_opening scopes (so_far.events ++ was.events) (so_far.answers ++ was.answers) run;
        stands = subst (λ q. CoreStands q scopes new) (sym (after_joined so_far.events so_far.answers (opening scopes) was.events was.answers ran_so_far)) was.stands;
      }

  -- whatever comes behind them has an output
  completes : (more : List (List ℕ)) → (rest : List ℕ) × Output Answers read_line (opening scopes) (before ++ more) (out ++ rest)
  completes more =
      let rest = output_from read_line left more in
      let (events, answers, ran) = output_was_a_run read_line left more rest (has_output left more) in (
        rest,
        run_wrote read_line (opening scopes) (before ++ more) (so_far.events ++ events) (so_far.answers ++ answers) (out ++ rest)
            (scripts_joined (opening scopes) before more so_far.events events so_far.answers answers out rest so_far.ran ran),
      )

  wrote : Output Answers read_line (opening scopes) before out
  wrote = run_wrote read_line (opening scopes) before so_far.events so_far.answers out so_far.ran

-- a line that is answered is run behind them
pub adds_line : (scopes : List Scope) (line : List ℕ) (old new : CoreState) (waiting waiting' : List ℕ) (answered : Answered)
    → ((p : Plain) → CoreStands p scopes old → RunsLine scopes p line new waiting waiting' answered) → AddsLine scopes line old new waiting waiting' answered
adds_line scopes line old new waiting waiting' how.Line runs before out so_far =
    let p : Plain = left scopes before out old so_far in
    let ran = runs p so_far.stands in
    (bytes_of ran.0, ran.2, one_more scopes before out old so_far line (bytes_of ran.0) new (tells_was scopes p (told read_line p line) ran.0 new ran.1))
adds_line scopes line old new waiting waiting' (how.Document text) runs before out so_far =
    let p : Plain = left scopes before out old so_far in
    one_more scopes before out old so_far line (string_bytes text ++ line_feed) new (tells_was scopes p (told read_line p line) _ new (runs p so_far.stands))
adds_line scopes line old new waiting waiting' how.NoMemory runs before out so_far = tt

-- ---- a script line by line

-- its first lines are done, and of what they wrote some waits
abbrev pub Halfway : List Scope → (script rest : List ℕ) → CoreState → Known → Known → (waiting : List ℕ) → Type 0
Halfway scopes script rest core held held' waiting =
    (before : List (List ℕ)) × (out : List ℕ) × (lines script ≡ before ++ lines rest) × GoesOut held held' out waiting × SoFar scopes before out core

pub none_done : (scopes : List Scope) (script : List ℕ) (core : CoreState) (held : Known) → SoFar scopes [] [] core → Halfway scopes script script core held held []
none_done scopes script core held so_far = ([], [], refl, nothing_out held [], so_far)

-- some of what waited goes out
goes_further : (a b c : Known) (all waiting left : List ℕ) → GoesOut a b all waiting → GoesOut b c waiting left → GoesOut a c all left
goes_further a b c all waiting left went more =
    subst (λ x. GoesOut a c x left) (append-nil all) (goes_on a b c all waiting [] left went (subst (λ x. GoesOut b c x left) (sym (append-nil waiting)) more))

module _ (scopes : List Scope) (script rest : List ℕ) (core : CoreState) (held held' held'' : Known) (waiting waiting' : List ℕ) where
  pub room_made : Halfway scopes script rest core held held' waiting → GoesOut held' held'' waiting waiting' → Halfway scopes script rest core held held'' waiting'
  room_made (before, out, done, went, so_far) more = (before, out, done, goes_further held held' held'' out waiting waiting' went more, so_far)

  -- what waited is cut short
  cut : Halfway scopes script rest core held held' waiting → IsCutShort held' held'' waiting → RunsLines (opening scopes) script held held'' (Err fault.Write)
  cut (before, out, done, went, so_far) (unwritten, some, writes) =
      let (o, whole) = completes scopes before out core so_far (lines rest) in
      (out ++ o, subst (λ ls. Output Answers read_line (opening scopes) ls (out ++ o)) (sym done) whole, cut_before held held'' out o (unwritten, some, goes_further held held' held'' out waiting unwritten went writes))

  pub room_failed : (f : ScriptFault) → Halfway scopes script rest core held held' waiting → Writes held' held'' waiting waiting' (Err f) → RunsLines (opening scopes) script held held'' (Err f)
  room_failed f halfway (is_write, none, short) = subst (λ g. RunsLines (opening scopes) script held held'' (Err g)) (sym is_write) (cut halfway short)

  -- all lines are done
  pub ends : (result : Result Unit ScriptFault) → Halfway scopes script rest core held held' waiting → lines rest ≡ [] → Writes held' held'' waiting waiting' result → waiting' ≡ [] → RunsLines (opening scopes) script held held'' result
  ends (Ok done) (before, out, are, went, so_far) none writes empty =
      let gone = goes_further held held' held'' out waiting waiting' went writes in
      let all : lines script ≡ before = are ∙ ap (λ (ls : List (List ℕ)). before ++ ls) none ∙ append-nil before in (
        gone.0,
        gone.1,
        subst (λ o. Output Answers read_line (opening scopes) (lines script) o) (gone.2 ∙ ap (λ (t : List ℕ). gone.0 ++ t) empty ∙ append-nil gone.0)
            (subst (λ ls. Output Answers read_line (opening scopes) ls out) (sym all) (wrote scopes before out core so_far)),
      )
  ends (Err f) halfway none writes empty = room_failed f halfway writes

module _ (scopes : List Scope) (script rest line after : List ℕ) (core new : CoreState) (held held' held'' : Known) (waiting waiting' waiting'' : List ℕ) (first : lines rest ≡ line ∷ lines after) where
  -- the lines of the script, once this one is done too
  now_done : (before : List (List ℕ)) → lines script ≡ before ++ lines rest → lines script ≡ (before ++ line ∷ []) ++ lines after
  now_done before done = done ∙ ap (λ (ls : List (List ℕ)). before ++ ls) first ∙ sym (append_assoc before (line ∷ []) (lines after))

  pub line_done : (answered : Answered) → Halfway scopes script rest core held held' waiting → AddsLine scopes line core new waiting waiting' answered → OnDocument answered (waiting' ≡ waiting)
      → WritesAnswer held' held'' waiting' waiting'' answered (Ok tt) → Halfway scopes script after new held held'' waiting''
  line_done how.Line (before, out, done, went, so_far) adds same (ok, none_out, still) =
      let (text, added, more) = adds before out so_far in
      let goes : GoesOut held held' (out ++ text) waiting'' = subst (GoesOut held held' (out ++ text)) (sym (still ∙ added)) (goes_on held held' held' out waiting text (waiting ++ text) went (nothing_out held' (waiting ++ text))) in
      (before ++ line ∷ [], out ++ text, now_done before done, subst (λ h. GoesOut held h (out ++ text) waiting'') (sym none_out) goes, more)
  line_done (how.Document text) (before, out, done, went, so_far) adds same writes =
      let own : List ℕ = string_bytes text ++ line_feed in
      (before ++ line ∷ [], out ++ own, now_done before done, goes_on held held' held'' out waiting own waiting'' went (subst (λ (w : List ℕ). GoesOut held' held'' (w ++ own) waiting'') same writes), adds before out so_far)
  line_done how.NoMemory halfway adds same writes = absurd writes

  pub line_failed : (answered : Answered) (f : ScriptFault) → Halfway scopes script rest core held held' waiting → AddsLine scopes line core new waiting waiting' answered → OnDocument answered (AsksDocument line) → OnDocument answered (waiting' ≡ waiting)
      → WritesAnswer held' held'' waiting' waiting'' answered (Err f) → RunsLines (opening scopes) script held held'' (Err f)
  line_failed how.Line f halfway adds asks same (ok, none_out, still) = absurd cc
  line_failed (how.Document text) f (before, out, done, went, so_far) adds asks same (is_write, none, (unwritten, some, writes)) =
      let own : List ℕ = string_bytes text ++ line_feed in
      let (o, whole) = completes scopes (before ++ line ∷ []) (out ++ own) new (adds before out so_far) (lines after) in
      subst (λ g. RunsLines (opening scopes) script held held'' (Err g)) (sym is_write) (
        (out ++ own) ++ o,
        subst (λ ls. Output Answers read_line (opening scopes) ls ((out ++ own) ++ o)) (sym (now_done before done)) whole,
        cut_before held held'' (out ++ own) o (unwritten, some, goes_on held held' held'' out waiting own unwritten went (subst (λ (w : List ℕ). GoesOut held' held'' (w ++ own) unwritten) same writes)),
      )
  line_failed how.NoMemory fault.Memory (before, out, done, (written, went, all), so_far) adds asks same writes =
      let (o, whole) = completes scopes before out core so_far (lines rest) in
      let to : Appends held held'' out = subst (Appends held held'') (sym all) (Appends-trans held held' held'' written waiting went (subst (Appends held' held'') same writes)) in (
        out,
        o,
        to,
        (before, line, lines after, done ∙ ap (λ (ls : List (List ℕ)). before ++ ls) first, asks, wrote scopes before out core so_far),
        subst (λ ls. Output Answers read_line (opening scopes) ls (out ++ o)) (sym done) whole,
      )
  line_failed how.NoMemory fault.Write halfway adds asks same (is, short) = cut scopes script rest core held held' held'' waiting [] halfway (subst (IsCutShort held' held'') same short)
  line_failed how.NoMemory fault.Read halfway adds asks same (is, short) = absurd cc
  line_failed how.NoMemory fault.TooLong halfway adds asks same (is, short) = absurd cc
