-- A whole switch or reversal of traffic, as one line of a script asks for it: which event it asks for next, and when it ends
-- (MoveTables: SwitchTraffic, ReverseTraffic; the number of tries is this profile's own).
use Rattle.std.specs.Prelude.{ℕ, zero, suc, Bool, true, false, if◌then◌else◌, List, nat_lt, option_and_then, Option, None, Some, Result, Ok, Err}
use Rattle.std.specs.Option.{option_map_or}
use Rattle.mt_names.specs.Shards.{shard_count}
use Rattle.mt_names.specs.declared.types.TypeSet.{TypeSet}
use Rattle.mt_plain.specs.Answers.{AnswerRule}
use Rattle.mt_plain.specs.Events.{Event, begin_switch, begin_reverse, advance, step, undo, StreamName, forward, back, Refusal, not_level, Answer, refused, Way}
use Rattle.mt_plain.specs.Next.{next}
use Rattle.mt_plain.specs.Plain.{Plain, lane_at, live_at, stands_done, write_journal}
use Rattle.mt_plain.specs.Slots.{slot_of}

-- how often a step is tried, and how many entries are read before it is tried again
abbrev pub most_tries : ℕ
most_tries = 64

-- how many entries are read before a step is tried again
abbrev pub most_at_once : ℕ
most_at_once = 100

-- what a drive is about to ask for: the way, a step, an advance of the feeding stream of a shard, and then of the shards behind it, before
-- the step is tried again, or an undo, after a refusal that it will tell
pub data Driving : Type 0 where
  begins : (workflow : List ℕ) → TypeSet → (backward : Bool) → Driving
  steps : (workflow : List ℕ) → (tries : ℕ) → Driving
  feeds : (workflow : List ℕ) → (shard tries : ℕ) → Driving
  gives_up : (workflow : List ℕ) → Refusal → Driving

-- the open way of a workflow, and how many of its steps stand done
abbrev pub way_of : Plain → (workflow : List ℕ) → Option Way
way_of p workflow = option_and_then (λ w. w.way) (live_at p workflow)

-- how many steps of it stand done
abbrev pub steps_done : Plain → (workflow : List ℕ) → ℕ
steps_done p workflow = option_map_or (λ way. way.done) (way_of p workflow) 0

-- the stream that feeds on the open way, and its position
abbrev pub feeding_stream : Plain → (workflow : List ℕ) → StreamName
feeding_stream p workflow = if option_map_or (λ way. way.back) (way_of p workflow) false then back else forward

-- the position of a stream of a shard
abbrev pub position_of : Plain → (workflow : List ℕ) → StreamName → (shard : ℕ) → ℕ
position_of p workflow name shard =
    option_map_or (λ slot. slot.position) (option_and_then (λ w. option_and_then (λ lane. slot_of w lane name) (lane_at w shard)) (live_at p workflow)) 0

-- how many shards the target of a workflow has
abbrev pub lanes_of : Plain → (workflow : List ℕ) → ℕ
lanes_of p workflow = option_map_or (λ w. shard_count w.cuts) (live_at p workflow) 0

-- the event that it asks for
abbrev pub event_of : Plain → Driving → Event
event_of p (begins workflow types true) = begin_reverse workflow types
event_of p (begins workflow types false) = begin_switch workflow types
event_of p (steps workflow tries) = step workflow (steps_done p workflow)
event_of p (feeds workflow shard tries) =
    let name = feeding_stream p workflow in advance workflow name shard (position_of p workflow name shard) most_at_once
event_of p (gives_up workflow refusal) = undo workflow (steps_done p workflow)

-- ---- what follows from the answer

-- how a drive ends once it has begun: all its steps are done; a refusal came before the journal, and all is undone; or one came behind it, with so
-- many steps done, and the way stays open (How traffic is switched: the journal is the point of no return)
pub data Driven : Type 0 where
  done : Driven
  abandoned : Refusal → Driven
  stopped : Refusal → (steps : ℕ) → Driven

-- a drive goes on, or ends: so, or with the refusal of its begin
pub data Heard : Type 0 where
  goes_on : Driving → Heard
  ends : Result Driven Refusal → Heard

-- a drive that can't go on undoes what stands done before the journal; behind it, it stops
abbrev pub fails : Plain → (workflow : List ℕ) → Refusal → Heard
fails p workflow refusal =
    if option_map_or (λ way. stands_done way write_journal) (way_of p workflow) false
    then ends (Ok (stopped refusal (steps_done p workflow))) else goes_on (gives_up workflow refusal)

-- it ends once the way has closed
abbrev pub unless_closed : Option Way → Driven → Driving → Heard
unless_closed None driven driving = ends (Ok driven)
unless_closed (Some way) driven driving = goes_on driving

-- a step that finds the stream not level is tried again behind an advance, as long as tries are left; another refusal ends it
abbrev pub refused_step : Plain → (workflow : List ℕ) → (tries : ℕ) → Refusal → Heard
refused_step p workflow (suc (suc left)) not_level = goes_on (feeds workflow 0 (suc left))
refused_step p workflow tries refusal = fails p workflow refusal

-- in the state after the answer; no other answer comes
abbrev pub heard : Plain → Driving → Answer → Heard
heard p (begins workflow types backward) (refused refusal) = ends (Err refusal)
heard p (begins workflow types backward) other = goes_on (steps workflow most_tries)
heard p (steps workflow tries) (refused refusal) = refused_step p workflow tries refusal
heard p (steps workflow tries) other = unless_closed (way_of p workflow) done (steps workflow most_tries)
heard p (feeds workflow shard tries) (refused refusal) = fails p workflow refusal
heard p (feeds workflow shard tries) other =
    if nat_lt (suc shard) (lanes_of p workflow) then goes_on (feeds workflow (suc shard) tries) else goes_on (steps workflow tries)
heard p (gives_up workflow refusal) answer = unless_closed (way_of p workflow) (abandoned refusal) (gives_up workflow refusal)

-- more events than any drive asks for: two steps are tried with 63 advances of each of eight streams between, and nineteen are done or
-- undone
abbrev pub most_turns : ℕ
most_turns = 1400

-- ---- a whole drive

-- what is to hold where a drive ends: of how it ended, and of the state that it leaves
abbrev pub EndRule : Type 1
EndRule = Result Driven Refusal → Plain → Type 0

-- a drive goes on, or that holds
abbrev pub GoesOn : (Driving → Plain → Type 0) → EndRule → Plain → Heard → Type 0
GoesOn Again Ends p (goes_on driving) = Again driving p
GoesOn Again Ends p (ends ended) = Ends ended p

-- the events of a drive, each answered in the state that the one before it leaves, until it ends; none asks for as many as its turns
abbrev pub Drives : AnswerRule → (turns : ℕ) → EndRule → Driving → Plain → Type 0
Drives rule zero Ends driving p = ⊥
Drives rule (suc turns) Ends driving p =
    (answer : Answer) × rule p (event_of p driving) answer
    × (let q = next p (event_of p driving) answer in GoesOn (Drives rule turns Ends) Ends q (heard q driving answer))
