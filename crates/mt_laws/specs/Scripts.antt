-- Of which run an output of a script is: the events that each of its lines asks for, their answers, and the text that it writes.
use Rattle.std.specs.Prelude.{◌≡◌, ℕ, List, [], ◌∷◌, ◌++◌, flat_map, Result, ⊤}
use Rattle.mt_plain.specs.Answers.{Answers, after}
use Rattle.mt_plain.specs.Drive.{Driven, Driving, EndRule, GoesOn, event_of, heard}
use Rattle.mt_plain.specs.Events.{Event, Refusal, Answer}
use Rattle.mt_plain.specs.Next.{next}
use Rattle.mt_plain.specs.Output.{Reading, Told, nothing, says, asks, drives, answer_text, ended_text, line_feed, told}
use Rattle.mt_plain.specs.Plain.{Plain}

-- a drive has ended so, and nothing is left of it
abbrev pub HasEnded : List Event → List Answer → Result Driven Refusal → EndRule
HasEnded events answers ended last p = (events ≡ []) × (answers ≡ []) × (last ≡ ended)

-- these are all the events of a drive from a state on, with their answers, and it ends so: the first is the one that it asks for
-- there, and behind its answer it goes on with the others, or has ended
abbrev pub IsDrive : Plain → Driving → List Event → List Answer → Result Driven Refusal → Type 0
IsDrive p driving (event ∷ events) (answer ∷ answers) ended =
    (event ≡ event_of p driving) × Answers p event answer
    × (let q = next p event answer in
    GoesOn (λ further r. IsDrive r further events answers ended) (HasEnded events answers ended) q (heard q driving answer))
IsDrive p driving events answers ended = ⊥

-- a line that tells this in a state asks for these events, gets these answers, and writes this text, with its line feed
abbrev pub WritesOf : Plain → Told → List Event → List Answer → (text : List ℕ) → Type 0
WritesOf p nothing events answers text = (events ≡ []) × (answers ≡ []) × (text ≡ [])
WritesOf p (says said) events answers text = (events ≡ []) × (answers ≡ []) × (text ≡ said ++ line_feed)
WritesOf p (asks event) events answers text =
    (answer : Answer) × Answers p event answer × (events ≡ event ∷ []) × (answers ≡ answer ∷ []) × (text ≡ answer_text answer ++ line_feed)
WritesOf p (drives driving) events answers text =
    (ended : Result Driven Refusal) × IsDrive p driving events answers ended × (text ≡ ended_text ended ++ line_feed)

-- what a line did: the events that it asked for, their answers, and the text that it wrote
pub record LineRun : Type 0 where
  pub events : List Event
  pub answers : List Answer
  pub text : List ℕ

-- what the lines of a script did from a state on, one after another, each in the state that the events of those before it leave
abbrev pub AreLineRuns : Reading → Plain → List (List ℕ) → List LineRun → Type 0
AreLineRuns reading p [] [] = ⊤
AreLineRuns reading p (line ∷ lines) (run ∷ runs) =
    WritesOf p (told reading p line) run.events run.answers run.text × AreLineRuns reading (after p run.events run.answers) lines runs
AreLineRuns reading p lines runs = ⊥

-- the lines of a script asked for these events from a state on, got these answers, and wrote this, line by line
pub record IsScriptRun (reading : Reading) (p : Plain) (lines : List (List ℕ)) (events : List Event) (answers : List Answer) (out : List ℕ) : Type 0 where
  pub runs : List LineRun
  pub each : AreLineRuns reading p lines runs
  pub events_are : events ≡ flat_map (λ run. run.events) runs
  pub answers_are : answers ≡ flat_map (λ run. run.answers) runs
  pub out_is : out ≡ flat_map (λ run. run.text) runs
