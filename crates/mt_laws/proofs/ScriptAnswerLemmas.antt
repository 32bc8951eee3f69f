-- The answers of a script's run decide its events and its texts.
use Rattle.std.proofs.Common.{◌≡◌, List, [], ◌∷◌, ◌++◌, ℕ, Result, refl, sym, ap, ◌∙◌, subst}
use Rattle.std.proofs.lemmas.List.{append_cancel_left}
use Rattle.std.specs.Prelude.{flat_map}
use Rattle.mt_plain.specs.Answers.{after}
use Rattle.mt_plain.specs.Drive.{Driven, Driving, Heard, goes_on, ends, heard}
use Rattle.mt_plain.specs.Events.{Event, Refusal, Answer}
use Rattle.mt_plain.specs.Next.{next}
use Rattle.mt_plain.specs.Output.{Reading, Told, nothing, says, asks, drives, answer_text, ended_text, line_feed, told}
use Rattle.mt_plain.specs.Plain.{Plain}
use Rattle.mt_laws.specs.Scripts.{AreLineRuns, IsDrive, IsScriptRun, LineRun, WritesOf}
use Rattle.mt_laws.proofs.ScriptRunLemmas.{IsHeard}

-- two answers stand first in the same list
first_same : (a b : Answer) (m n : List Answer) → a ∷ m ≡ b ∷ n → a ≡ b
first_same a b m n e = cc

others_same : (a b : Answer) (m n : List Answer) → a ∷ m ≡ b ∷ n → m ≡ n
others_same a b m n e = cc

-- a drive twice, with the same answers as far as both go: both are the same
record SameDrive (es fs : List Event) (as' bs : List Answer) (x y : Result Driven Refusal) : Type 0 where
  events : es ≡ fs
  answers : as' ≡ bs
  ended : x ≡ y

drive_decided : (es : List Event) (as' : List Answer) (fs : List Event) (bs : List Answer) (p : Plain) (d : Driving) (x y : Result Driven Refusal) (m n : List Answer)
    → IsDrive p d es as' x → IsDrive p d fs bs y → as' ++ m ≡ bs ++ n → SameDrive es fs as' bs x y
drive_decided [] as' fs bs p d x y m n one two same = absurd one
drive_decided (e ∷ es) [] fs bs p d x y m n one two same = absurd one
drive_decided (e ∷ es) (a ∷ as') [] bs p d x y m n one two same = absurd two
drive_decided (e ∷ es) (a ∷ as') (f ∷ fs) [] p d x y m n one two same = absurd two
drive_decided (e ∷ es) (a ∷ as') (f ∷ fs) (b ∷ bs) p d x y m n one two same =
    let rest = by (drive_decided es as' fs bs) (next p e a) (heard (next p e a) d a) one.2 over in
    record {
      events = ap (λ g. g ∷ es) event_same ∙ ap (λ l. f ∷ l) rest.events;
      answers = ap (λ c. c ∷ as') answer_same ∙ ap (λ l. b ∷ l) rest.answers;
      ended = rest.ended;
    }
  where
    event_same : e ≡ f
    event_same = one.0 ∙ sym two.0

    answer_same : a ≡ b
    answer_same = first_same a b (as' ++ m) (bs ++ n) same

    over : IsHeard (next p e a) (heard (next p e a) d a) fs bs y
    over =
        subst (λ g. IsHeard (next p g a) (heard (next p g a) d a) fs bs y) (sym event_same)
        (subst (λ c. IsHeard (next p f c) (heard (next p f c) d c) fs bs y) (sym answer_same) two.2)

    by : ((q : Plain) (further : Driving) (v w : Result Driven Refusal) (k l : List Answer) → IsDrive q further es as' v → IsDrive q further fs bs w → as' ++ k ≡ bs ++ l → SameDrive es fs as' bs v w)
        → (q : Plain) (h : Heard) → IsHeard q h es as' x → IsHeard q h fs bs y → SameDrive es fs as' bs x y
    by again q (goes_on further) goes goes' = again q further x y m n goes goes' (others_same a b (as' ++ m) (bs ++ n) same)
    by again q (ends last) goes goes' = record { events = goes.0 ∙ sym goes'.0; answers = goes.1 ∙ sym goes'.1; ended = sym goes.2 ∙ goes'.2 }

-- a line twice
record SameLine (run other : LineRun) : Type 0 where
  events : run.events ≡ other.events
  answers : run.answers ≡ other.answers
  text : run.text ≡ other.text

line_decided : (p : Plain) (t : Told) (run other : LineRun) (m n : List Answer) → WritesOf p t run.events run.answers run.text → WritesOf p t other.events other.answers other.text
    → run.answers ++ m ≡ other.answers ++ n → SameLine run other
line_decided p nothing run other m n one two same = record { events = one.0 ∙ sym two.0; answers = one.1 ∙ sym two.1; text = one.2 ∙ sym two.2 }
line_decided p (says text) run other m n one two same = record { events = one.0 ∙ sym two.0; answers = one.1 ∙ sym two.1; text = one.2 ∙ sym two.2 }
line_decided p (asks e) run other m n one two same =
    let joined : one.0 ∷ m ≡ two.0 ∷ n = sym (ap (λ l. l ++ m) one.3) ∙ same ∙ ap (λ l. l ++ n) two.3 in
    let first : one.0 ≡ two.0 = first_same one.0 two.0 m n joined in
    record {
      events = one.2 ∙ sym two.2;
      answers = one.3 ∙ ap (λ a. a ∷ []) first ∙ sym two.3;
      text = one.4 ∙ ap (λ a. answer_text a ++ line_feed) first ∙ sym two.4;
    }
line_decided p (drives d) run other m n one two same =
    let both = drive_decided run.events run.answers other.events other.answers p d one.0 two.0 m n one.1 two.1 same in
    record { events = both.events; answers = both.answers; text = one.2 ∙ ap (λ x. ended_text x ++ line_feed) both.ended ∙ sym two.2 }

line_run_same : (run other : LineRun) → SameLine run other → run ≡ other
line_run_same run other same =
    ap (λ es. record { events = es; answers = run.answers; text = run.text }) same.events ∙ ap (λ as'. record { events = other.events; answers = as'; text = run.text }) same.answers
    ∙ ap (λ text. record { events = other.events; answers = other.answers; text = text }) same.text

module _ (reading : Reading) where
  lines_decided : (lines : List (List ℕ)) (runs others : List LineRun) (p : Plain) → AreLineRuns reading p lines runs → AreLineRuns reading p lines others
      → flat_map (λ run. run.answers) runs ≡ flat_map (λ run. run.answers) others → runs ≡ others
  lines_decided [] [] [] p one two same = refl
  lines_decided [] [] (other ∷ others) p one two same = absurd two
  lines_decided [] (run ∷ runs) others p one two same = absurd one
  lines_decided (line ∷ lines) [] others p one two same = absurd one
  lines_decided (line ∷ lines) (run ∷ runs) [] p one two same = absurd two
  lines_decided (line ∷ lines) (run ∷ runs) (other ∷ others) p one two same =
      let m = flat_map (λ r. r.answers) runs in
      let n = flat_map (λ r. r.answers) others in
      let first = line_decided p (told reading p line) run other m n one.0 two.0 same in
      let is : run ≡ other = line_run_same run other first in
      let left : m ≡ n = append_cancel_left run.answers m n (same ∙ ap (λ l. l ++ n) (sym first.answers)) in
      let over : AreLineRuns reading (after p run.events run.answers) lines others = subst (λ r. AreLineRuns reading (after p r.events r.answers) lines others) (sym is) two.1 in
      ap (λ r. r ∷ runs) is ∙ ap (λ l. other ∷ l) (lines_decided lines runs others (after p run.events run.answers) one.1 over left)

  pub answers_decide : (p : Plain) (lines : List (List ℕ)) (events other_events : List Event) (answers : List Answer) (out other : List ℕ)
      → IsScriptRun reading p lines events answers out → IsScriptRun reading p lines other_events answers other → (other_events ≡ events) × (other ≡ out)
  answers_decide p lines events other_events answers out other one two =
      let same : two.runs ≡ one.runs = lines_decided lines two.runs one.runs p two.each one.each (sym two.answers_are ∙ one.answers_are) in (
        two.events_are ∙ ap (flat_map (λ run. run.events)) same ∙ sym one.events_are,
        two.out_is ∙ ap (flat_map (λ run. run.text)) same ∙ sym one.out_is,
      )
