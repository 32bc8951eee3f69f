-- Each output of a script is that of a run.
use Rattle.std.proofs.Common.{◌≡◌, ℕ, zero, suc, List, [], ◌∷◌, ◌++◌, Result, refl, sym, ap, ◌∙◌, subst}
use Rattle.std.specs.Prelude.{flat_map}
use Rattle.std.specs.Str.Lines.{lines}
use Rattle.mt_model.specs.declared.entries.Scope.{Scope}
use Rattle.mt_plain.specs.Answers.{Answers, Run, after}
use Rattle.mt_plain.specs.Drive.{Driven, Drives, Driving, EndRule, GoesOn, Heard, goes_on, ends, event_of, heard, most_turns}
use Rattle.mt_plain.specs.Events.{Event, Refusal, Answer}
use Rattle.mt_plain.specs.Next.{next}
use Rattle.mt_plain.specs.Output.{Adds, IsOutputBy, Output, Reading, Rest, Says, Told, nothing, says, asks, drives, answer_text, ended_text, line_feed, told}
use Rattle.mt_plain.specs.Plain.{Plain, opening}
use Rattle.mt_laws.specs.Headline.{Headline}
use Rattle.mt_laws.specs.Scripts.{AreLineRuns, HasEnded, IsDrive, IsScriptRun, LineRun, WritesOf}
use Rattle.mt_laws.specs.Turns.{Fits, FitsHeard}
use Rattle.mt_laws.specs.WayBack.{IsReached}
use Rattle.mt_laws.proofs.DriveLemmas.{fits-turns, heard-fits}
use Rattle.mt_laws.proofs.HeadlineLemmas.{headline, run_joined}
use Rattle.mt_laws.proofs.OutputLemmas.{BeginsIfDrives, begins-fits_turns, told_line-begins}

-- ---- a drive

-- what comes behind an answer: the other events of a drive, or none
abbrev pub IsHeard : Plain → Heard → List Event → List Answer → Result Driven Refusal → Type 0
IsHeard q h events answers ended = GoesOn (λ further r. IsDrive r further events answers ended) (HasEnded events answers ended) q h

-- the events of a drive are a run
drive-run : (events : List Event) (answers : List Answer) (p : Plain) (d : Driving) (ended : Result Driven Refusal) → IsDrive p d events answers ended → Run p events answers
drive-run [] answers p d ended is = absurd is
drive-run (e ∷ es) [] p d ended is = absurd is
drive-run (e ∷ es) (a ∷ as') p d ended is = (is.1, by (drive-run es as') (next p e a) (heard (next p e a) d a) is.2)
  where
    by : ((r : Plain) (further : Driving) (so : Result Driven Refusal) → IsDrive r further es as' so → Run r es as') → (q : Plain) (h : Heard) → IsHeard q h es as' ended → Run q es as'
    by again q (goes_on further) goes = again q further ended goes
    by again q (ends last) goes = subst (λ l. Run q l as') (sym goes.0) (subst (Run q []) (sym goes.1) tt)

-- the events of a drive, and what holds where it ends
record WasDrive (Ends : EndRule) (p : Plain) (d : Driving) : Type 0 where
  events : List Event
  answers : List Answer
  ended : Result Driven Refusal
  is : IsDrive p d events answers ended
  holds : Ends ended (after p events answers)

record WasHeard (Ends : EndRule) (q : Plain) (h : Heard) : Type 0 where
  events : List Event
  answers : List Answer
  ended : Result Driven Refusal
  is : IsHeard q h events answers ended
  holds : Ends ended (after q events answers)

module _ (Ends : EndRule) where
  drive_was : (turns : ℕ) (p : Plain) (d : Driving) → Drives Answers turns Ends d p → WasDrive Ends p d
  drive_was zero p d drove = absurd drove
  drive_was (suc turns) p d drove = all (by (drive_was turns) q (heard q d drove.0) drove.2)
    where
      q : Plain
      q = next p (event_of p d) drove.0

      by : ((r : Plain) (further : Driving) → Drives Answers turns Ends further r → WasDrive Ends r further) → (r : Plain) (h : Heard) → GoesOn (Drives Answers turns Ends) Ends r h → WasHeard Ends r h
      by again r (goes_on further) goes = let was = again r further goes in record { events = was.events; answers = was.answers; ended = was.ended; is = was.is; holds = was.holds }
      by again r (ends last) holds = record { events = []; answers = []; ended = last; is = (refl, refl, refl); holds = holds }

      all : WasHeard Ends q (heard q d drove.0) → WasDrive Ends p d
      all was = record { events = event_of p d ∷ was.events; answers = drove.0 ∷ was.answers; ended = was.ended; is = (refl, drove.1, was.is); holds = was.holds }

  -- and back: a drive that fits in some turns drives within them
  drive_does : (events : List Event) (answers : List Answer) (turns : ℕ) (p : Plain) (d : Driving) (ended : Result Driven Refusal) → Fits turns p d → IsDrive p d events answers ended → Ends ended (after p events answers) → Drives Answers turns Ends d p
  drive_does [] answers turns p d ended fits is holds = absurd is
  drive_does (e ∷ es) [] turns p d ended fits is holds = absurd is
  drive_does (e ∷ es) (a ∷ as') zero p d ended fits is holds = absurd (fits-turns p d fits)
  drive_does (e ∷ es) (a ∷ as') (suc turns) p d ended fits is holds =
      (a, may, by (drive_does es as' turns) q (heard q d a) (heard-fits turns p d a fits may) goes (subst (λ x. Ends ended (after (next p x a) es as')) is.0 holds))
    where
      q : Plain
      q = next p (event_of p d) a

      may : Answers p (event_of p d) a
      may = subst (λ x. Answers p x a) is.0 is.1

      goes : IsHeard q (heard q d a) es as' ended
      goes = subst (λ x. IsHeard (next p x a) (heard (next p x a) d a) es as' ended) is.0 is.2

      by : ((r : Plain) (further : Driving) (so : Result Driven Refusal) → Fits turns r further → IsDrive r further es as' so → Ends so (after r es as') → Drives Answers turns Ends further r)
          → (r : Plain) (h : Heard) → FitsHeard turns r h → IsHeard r h es as' ended → Ends ended (after r es as') → GoesOn (Drives Answers turns Ends) Ends r h
      by again r (goes_on further) fits' goes' holds' = again r further ended fits' goes' holds'
      by again r (ends last) fits' goes' holds' =
          subst (λ so. Ends so r) (sym goes'.2) (subst (λ l. Ends ended (after r [] l)) goes'.1 (subst (λ l. Ends ended (after r l as')) goes'.0 holds'))

-- ---- a line

writes-run : (p : Plain) (t : Told) (run : LineRun) → WritesOf p t run.events run.answers run.text → Run p run.events run.answers
writes-run p nothing run writes = subst (λ l. Run p l run.answers) (sym writes.0) (subst (Run p []) (sym writes.1) tt)
writes-run p (says text) run writes = subst (λ l. Run p l run.answers) (sym writes.0) (subst (Run p []) (sym writes.1) tt)
writes-run p (asks e) run writes = subst (λ l. Run p l run.answers) (sym writes.2) (subst (Run p (e ∷ [])) (sym writes.3) (writes.1, tt))
writes-run p (drives d) run writes = drive-run run.events run.answers p d writes.0 writes.1

after_none : (p : Plain) (events : List Event) (answers : List Answer) → events ≡ [] → answers ≡ [] → after p events answers ≡ p
after_none p events answers none no_answers = ap (λ l. after p l answers) none ∙ ap (after p []) no_answers

-- what a line did, and the rest
record WasLine (Then : Rest) (p : Plain) (t : Told) (out : List ℕ) : Type 0 where
  run : LineRun
  rest : List ℕ
  writes : WritesOf p t run.events run.answers run.text
  is : out ≡ run.text ++ rest
  others : Then (after p run.events run.answers) rest

module _ (Then : Rest) (out : List ℕ) where
  abbrev SaysEnd : EndRule
  SaysEnd ended q = Says q (ended_text ended) Then out

  line_was : (p : Plain) (t : Told) → Adds Answers p t Then out → WasLine Then p t out
  line_was p nothing adds = record { run = record { events = []; answers = []; text = [] }; rest = out; writes = (refl, refl, refl); is = refl; others = adds }
  line_was p (says text) adds =
      record { run = record { events = []; answers = []; text = text ++ line_feed }; rest = adds.0; writes = (refl, refl, refl); is = adds.1; others = adds.2 }
  line_was p (asks e) adds = record {
    run = record { events = e ∷ []; answers = adds.0 ∷ []; text = answer_text adds.0 ++ line_feed };
    rest = adds.1;
    writes = (adds.0, adds.2, refl, refl, refl);
    is = adds.3;
    others = adds.4;
  }
  line_was p (drives d) adds =
      let was = drive_was SaysEnd most_turns p d adds in
      let said = was.holds in
      record {
        run = record { events = was.events; answers = was.answers; text = ended_text was.ended ++ line_feed };
        rest = said.0;
        writes = (was.ended, was.is, refl);
        is = said.1;
        others = said.2;
      }

  line_adds : (p : Plain) (t : Told) → BeginsIfDrives t → WasLine Then p t out → Adds Answers p t Then out
  line_adds p nothing begun was =
      let none : after p was.run.events was.run.answers ≡ p = after_none p was.run.events was.run.answers was.writes.0 was.writes.1 in
      let same : was.rest ≡ out = sym (was.is ∙ ap (λ l. l ++ was.rest) was.writes.2) in
      subst (Then p) same (subst (λ q. Then q was.rest) none was.others)
  line_adds p (says text) begun was =
      let none : after p was.run.events was.run.answers ≡ p = after_none p was.run.events was.run.answers was.writes.0 was.writes.1 in
      (was.rest, was.is ∙ ap (λ l. l ++ was.rest) was.writes.2, subst (λ q. Then q was.rest) none was.others)
  line_adds p (asks e) begun was =
      let answer = was.writes.0 in
      let one : after p was.run.events was.run.answers ≡ next p e answer = ap (λ l. after p l was.run.answers) was.writes.2 ∙ ap (after p (e ∷ [])) was.writes.3 in
      (answer, was.rest, was.writes.1, was.is ∙ ap (λ l. l ++ was.rest) was.writes.4, subst (λ q. Then q was.rest) one was.others)
  line_adds p (drives d) begun was =
      drive_does SaysEnd was.run.events was.run.answers most_turns p d was.writes.0 (begins-fits_turns p d begun) was.writes.1
      (was.rest, was.is ∙ ap (λ l. l ++ was.rest) was.writes.2, was.others)

-- ---- the lines

-- what the lines did
record WereLines (reading : Reading) (p : Plain) (lines : List (List ℕ)) (out : List ℕ) : Type 0 where
  runs : List LineRun
  each : AreLineRuns reading p lines runs
  is : out ≡ flat_map (λ run. run.text) runs

module _ (reading : Reading) where
  -- the rest of an output behind a line
  abbrev Others : List (List ℕ) → Rest
  Others lines q rest = Output Answers reading q lines rest

  lines_were : (lines : List (List ℕ)) (p : Plain) (out : List ℕ) → Output Answers reading p lines out → WereLines reading p lines out
  lines_were [] p out written = record { runs = []; each = tt; is = written }
  lines_were (line ∷ lines) p out written =
      let first = line_was (Others lines) out p (told reading p line) written in
      let others = lines_were lines (after p first.run.events first.run.answers) first.rest first.others in
      record { runs = first.run ∷ others.runs; each = (first.writes, others.each); is = first.is ∙ ap (λ l. first.run.text ++ l) others.is }

  lines_write : (lines : List (List ℕ)) (runs : List LineRun) (p : Plain) (out : List ℕ) → AreLineRuns reading p lines runs → out ≡ flat_map (λ run. run.text) runs → Output Answers reading p lines out
  lines_write [] [] p out each is = is
  lines_write [] (run ∷ runs) p out each is = absurd each
  lines_write (line ∷ lines) [] p out each is = absurd each
  lines_write (line ∷ lines) (run ∷ runs) p out each is =
      let rest = flat_map (λ r. r.text) runs in
      line_adds (Others lines) out p (told reading p line) (told_line-begins p (reading line))
      (record { run = run; rest = rest; writes = each.0; is = is; others = lines_write lines runs (after p run.events run.answers) rest each.1 refl })

  lines_run : (lines : List (List ℕ)) (runs : List LineRun) (p : Plain) → AreLineRuns reading p lines runs → Run p (flat_map (λ run. run.events) runs) (flat_map (λ run. run.answers) runs)
  lines_run [] [] p each = tt
  lines_run [] (run ∷ runs) p each = absurd each
  lines_run (line ∷ lines) [] p each = absurd each
  lines_run (line ∷ lines) (run ∷ runs) p each =
      run_joined run.events run.answers p (flat_map (λ r. r.events) runs) (flat_map (λ r. r.answers) runs) (writes-run p (told reading p line) run each.0)
      (lines_run lines runs (after p run.events run.answers) each.1)

  -- ---- a script

  pub output_was_a_run : (p : Plain) (lines : List (List ℕ)) (out : List ℕ) → Output Answers reading p lines out → (events : List Event) × (answers : List Answer) × IsScriptRun reading p lines events answers out
  output_was_a_run p lines out written =
      let were = lines_were lines p out written in (
        flat_map (λ run. run.events) were.runs,
        flat_map (λ run. run.answers) were.runs,
        record { runs = were.runs; each = were.each; events_are = refl; answers_are = refl; out_is = were.is },
      )

  pub run_wrote : (p : Plain) (lines : List (List ℕ)) (events : List Event) (answers : List Answer) (out : List ℕ) → IsScriptRun reading p lines events answers out → Output Answers reading p lines out
  run_wrote p lines events answers out was = lines_write lines was.runs p out was.each was.out_is

  pub script_is_a_run : (p : Plain) (lines : List (List ℕ)) (events : List Event) (answers : List Answer) (out : List ℕ) → IsScriptRun reading p lines events answers out → Run p events answers
  script_is_a_run p lines events answers out was =
      subst (λ l. Run p l answers) (sym was.events_are) (subst (Run p (flat_map (λ run. run.events) was.runs)) (sym was.answers_are) (lines_run lines was.runs p was.each))

  pub script_run_keeps_the_headline : (p : Plain) (lines : List (List ℕ)) (events : List Event) (answers : List Answer) (out : List ℕ) → IsReached p → IsScriptRun reading p lines events answers out → Headline p events answers
  script_run_keeps_the_headline p lines events answers out reached was = headline p events answers reached (script_is_a_run p lines events answers out was)

  pub output_keeps_the_headline : (p : Plain) (lines : List (List ℕ)) (out : List ℕ) → IsReached p → Output Answers reading p lines out
      → (events : List Event) × (answers : List Answer) × IsScriptRun reading p lines events answers out × Run p events answers × Headline p events answers
  output_keeps_the_headline p lines out reached written =
      let (events, answers, was) = output_was_a_run p lines out written in
      (events, answers, was, script_is_a_run p lines events answers out was, script_run_keeps_the_headline p lines events answers out reached was)

-- an opening is reached
opening_reached : (scopes : List Scope) → IsReached (opening scopes)
opening_reached scopes = record { scopes = scopes; events = []; answers = []; run = tt; is = refl }

pub script_keeps_the_headline : (reading : Reading) (scopes : List Scope) (input out : List ℕ) → IsOutputBy reading scopes input out
    → (events : List Event) × (answers : List Answer) × IsScriptRun reading (opening scopes) (lines input) events answers out × Run (opening scopes) events answers × Headline (opening scopes) events answers
script_keeps_the_headline reading scopes input out written = output_keeps_the_headline reading (opening scopes) (lines input) out (opening_reached scopes) written
