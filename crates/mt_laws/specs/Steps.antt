-- One step and its undo; and which steps a way took.
use Rattle.std.specs.Prelude.{◌≡◌, ℕ, Bool, false, ◌&&◌, ◌==◌, List, ◌∷◌, Option, option_and_then, option_map, ⊤}
use Rattle.std.specs.Option.{option_map_or}
use Rattle.mt_names.specs.Names.{same_text}
use Rattle.mt_plain.specs.Answers.{Answers, Run, after}
use Rattle.mt_plain.specs.Drive.{way_of}
use Rattle.mt_plain.specs.Events.{Event, create, begin_switch, begin_reverse, step, undo, cancel, complete, StreamName, StreamState, Answer, done}
use Rattle.mt_plain.specs.Next.{next}
use Rattle.mt_plain.specs.Plain.{Plain, lane_at, live_at, next_step, stands_done, write_journal}
use Rattle.mt_plain.specs.Slots.{slot_of}

-- whether an event was a command of the workflow that was taken: Create, a begin, a step, an undo, Cancel or Complete
abbrev pub is_command : (name : List ℕ) → Event → Answer → Bool
is_command name (create workflow source target tables) done = same_text workflow name
is_command name (begin_switch workflow types) done = same_text workflow name
is_command name (begin_reverse workflow types) done = same_text workflow name
is_command name (step workflow at) done = same_text workflow name
is_command name (undo workflow at) done = same_text workflow name
is_command name (cancel workflow) done = same_text workflow name
is_command name (complete workflow) done = same_text workflow name
is_command name event answer = false

-- no event of a run was one
abbrev pub IsLeftAlone : (name : List ℕ) → List Event → List Answer → Type 0
IsLeftAlone name (event ∷ events) (answer ∷ answers) = (is_command name event answer ≡ false) × IsLeftAlone name events answers
IsLeftAlone name events answers = ⊤

-- from the state before a step that was taken to the one that the next command of the workflow leaves, an undo: whatever else comes
-- between
pub record StepUndone (name : List ℕ) (at at_undo : ℕ) (p q : Plain) : Type 0 where
  pub stepped : Answers p (step name at) done
  pub events : List Event
  pub answers : List Answer
  pub run : Run (next p (step name at) done) events answers
  pub left_alone : IsLeftAlone name events answers
  pub undone : Answers (after (next p (step name at) done) events answers) (undo name at_undo) done
  pub is : next (after (next p (step name at) done) events answers) (undo name at_undo) done ≡ q

-- what a stream of the workflow does, where it has that stream
abbrev pub stream_state : Plain → (name : List ℕ) → (shard : ℕ) → StreamName → Option StreamState
stream_state p name shard stream =
    option_map (λ slot. slot.state) (option_and_then (λ w. option_and_then (λ lane. slot_of w lane stream) (lane_at w shard)) (live_at p name))

-- whether an event was the step of the workflow that writes the journal
abbrev pub writes_journal : (name : List ℕ) → Plain → Event → Answer → Bool
writes_journal name p (step workflow at) done = same_text workflow name && option_map_or (λ way. next_step way == write_journal) (way_of p name) false
writes_journal name p event answer = false

-- no event of a run was that
abbrev pub WritesNoJournal : (name : List ℕ) → Plain → List Event → List Answer → Type 0
WritesNoJournal name p (event ∷ events) (answer ∷ answers) = (writes_journal name p event answer ≡ false) × WritesNoJournal name (next p event answer) events answers
WritesNoJournal name p events answers = ⊤

-- whether the journal's step stands done on the way that the workflow has open
abbrev pub is_past_journal : (name : List ℕ) → Plain → Bool
is_past_journal name p = option_map_or (λ way. stands_done way write_journal) (way_of p name) false

-- at no point of a run does it
abbrev pub StaysBeforeJournal : (name : List ℕ) → Plain → List Event → List Answer → Type 0
StaysBeforeJournal name p (event ∷ events) (answer ∷ answers) = (is_past_journal name p ≡ false) × StaysBeforeJournal name (next p event answer) events answers
StaysBeforeJournal name p events answers = is_past_journal name p ≡ false
