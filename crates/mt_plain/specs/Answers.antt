-- The answers that an event may get, runs of events, histories and publications. All of this page is this profile's own, unless
-- a comment names a page of Vitess's documentation.
use Rattle.std.specs.Prelude.{◌≡◌, ◌≢◌, ◌⊎◌, ◌↔◌, ℕ, ◌≤◌, not, true, false, List, [], ◌∷◌, length, map, slice_get, take, All, AllPairs, Contains, Option, None, Some, option_map, unwrap_or, ⊤}
use Rattle.std.specs.Option.{option_map_or}
use Rattle.mt_names.specs.Shards.{Cuts, KeyRange, ranges_of, whole}
use Rattle.mt_model.specs.declared.entries.Entry.{Entry}
use Rattle.mt_model.specs.Topology.{is_routed, key_of}
use Rattle.mt_plain.specs.Events.{Event, read, advance, show, StreamName, forward, back, Refusal, memory, watcher_refused, frozen, Shown, ShownLane, Answer, done, row, advanced, shown, refused}
use Rattle.mt_plain.specs.Next.{next}
use Rattle.mt_plain.specs.Plain.{Lane, Live, Plain, lane_at, live_at}
use Rattle.mt_plain.specs.Refuse.{is_still_copying, may_grow, may_refuse, refusal_of}
use Rattle.mt_plain.specs.Serve.{served_entry}
use Rattle.mt_plain.specs.Slots.{may_be_cut, most_events, most_rows, slot_of}
use Rattle.mt_plain.specs.Writes.{row_of}

-- ---- the answer of an event that is taken

-- the range of a shard ("Sharding")
abbrev pub range_at : Cuts → (shard : ℕ) → KeyRange
range_at cuts shard = unwrap_or (slice_get (ranges_of cuts) shard) whole

-- what Show tells of a lane; a forward stream is always there (MoveTables: Show)
abbrev pub lane_shown : Live → Lane → ShownLane
lane_shown w lane =
    record {
      range = range_at w.cuts lane.shard;
      forward = unwrap_or (slot_of w lane forward) (record { state = frozen; position = lane.forward_at });
      copied = not (is_still_copying lane.copied);
      back = slot_of w lane back;
    }

-- what Show tells (MoveTables: Show)
abbrev pub shown_of : Live → Shown
shown_of w =
    record {
      workflow = w.name;
      source = w.source;
      target = w.target;
      tables = w.tables;
      switched = w.switched;
      way = w.way;
      lanes = map (lane_shown w) w.lanes;
    }

-- a live workflow is shown (MoveTables: Show)
abbrev pub show_of : Option Live → Answer
show_of None = done
show_of (Some w) = shown (shown_of w)

-- the counts of an advance that finds memory
abbrev pub lane_advanced_of : Plain → StreamName → (at at_most : ℕ) → Live → Option Lane → Answer
lane_advanced_of p name at at_most w None = done
lane_advanced_of p name at at_most w (Some lane) = advanced (most_events p w lane name at at_most) (most_rows p w lane name at at_most)

abbrev pub advanced_of : Plain → StreamName → (shard at at_most : ℕ) → Option Live → Answer
advanced_of p name shard at at_most None = done
advanced_of p name shard at at_most (Some w) = lane_advanced_of p name at at_most w (lane_at w shard)

-- a read answers the row, an advance its counts, Show what it tells, and each other event that it is done
abbrev pub reply_of : Plain → Event → Answer
reply_of p (read keyspace table key tablet_type) = row (row_of p keyspace table key)
reply_of p (advance workflow name shard at at_most) = advanced_of p name shard at at_most (live_at p workflow)
reply_of p (show workflow) = show_of (live_at p workflow)
reply_of p other = done

-- ---- the answers that an event may get

-- a refusal comes exactly where its condition holds and none before it does. Two are free, where no condition refuses: want of
-- memory, where the event may grow something, and the refusal of a watcher that it asks
abbrev pub Refuses : Plain → Event → Refusal → Type 0
Refuses p event memory = (refusal_of p event ≡ None) × (may_grow p event ≡ true)
Refuses p event (watcher_refused index) = (refusal_of p event ≡ None) × (may_refuse p event index ≡ true)
Refuses p event refusal = refusal_of p event ≡ Some refusal

-- an advance may be cut short, where a growth was refused
abbrev pub IsCut : Plain → Event → (events rows : ℕ) → Type 0
IsCut p (advance workflow name shard at at_most) events rows =
    option_map_or (λ w. option_map_or (λ lane. may_be_cut p w lane name at at_most events rows) (lane_at w shard) false) (live_at p workflow) false ≡ true
IsCut p other events rows = ⊥

-- the answer of an event that is taken is the one that the state decides, a cut advance aside
abbrev pub Answers : Plain → Event → Answer → Type 0
Answers p event (refused refusal) = Refuses p event refusal
Answers p event (advanced events rows) = (refusal_of p event ≡ None) × ((advanced events rows ≡ reply_of p event) ⊎ IsCut p event events rows)
Answers p event answer = (refusal_of p event ≡ None) × (answer ≡ reply_of p event)

-- the one answer where nothing is free: memory enough, and no watcher that refuses
abbrev pub answer_or : Option Refusal → Answer → Answer
answer_or None reply = reply
answer_or (Some refusal) reply = refused refusal

-- that answer, from the state and the event
abbrev pub answer_of : Plain → Event → Answer
answer_of p event = answer_or (refusal_of p event) (reply_of p event)

-- an answer that the state does not decide
abbrev pub IsFree : Plain → Event → Answer → Type 0
IsFree p event (refused memory) = ⊤
IsFree p event (refused (watcher_refused index)) = ⊤
IsFree p event (advanced events rows) = IsCut p event events rows
IsFree p event answer = ⊥

-- a rule by which the core answers
abbrev pub AnswerRule : Type 1
AnswerRule = Plain → Event → Answer → Type 0

-- ---- runs: a list of events with an answer to each

-- each answer follows from the state that the events before it leave
abbrev pub Run : Plain → List Event → List Answer → Type 0
Run p [] [] = ⊤
Run p (event ∷ events) (answer ∷ answers) = Answers p event answer × Run (next p event answer) events answers
Run p events answers = ⊥

-- the state after a run
abbrev pub after : Plain → List Event → List Answer → Plain
after p (event ∷ events) (answer ∷ answers) = after (next p event answer) events answers
after p events answers = p

-- ---- histories of several clients

-- a line of a history: which client asked for an event, and the answer
pub record HistoryLine : Type 0 where
  pub client : ℕ
  pub event : Event
  pub answer : Answer

-- a history is a list of its lines
abbrev pub History : Type 0
History = List HistoryLine

-- a history is legal from an opening state on where it is a run, whoever asked
abbrev pub IsLegal : (opening : Plain) → History → Type 0
IsLegal p history = Run p (map (λ line. line.event) history) (map (λ line. line.answer) history)

-- the state after its first lines
abbrev pub after_lines : (opening : Plain) → History → ℕ → Plain
after_lines p history n = let first = take n history in after p (map (λ line. line.event) first) (map (λ line. line.answer) first)

-- ---- publications of routes

-- a list of entries is the view of a state: each rule that stands and each table that is there, as they are served, once, in
-- whatever order (Routing Rules)
pub record IsView (p : Plain) (view : List Entry) : Type 0 where
  pub once : AllPairs (λ a b. key_of a ≢ key_of b) view
  pub entries : (e : Entry) → Contains view e ↔ ((is_routed e ≡ true) × (served_entry p (key_of e) ≡ e))

-- a publication: a front, which is a number of lines of a history, and the view of the topology after them
pub record Publication : Type 0 where
  pub front : ℕ
  pub view : List Entry

-- a publication tells the view of its own front
abbrev pub IsPublication : (opening : Plain) → History → Publication → Type 0
IsPublication p history publication =
    (publication.front ≤ length history) × IsView (after_lines p history publication.front) publication.view

-- the publications of a desk, in their order: the first is of no line, and so tells the opening's view; and fronts never fall
pub record ArePublications (opening : Plain) (history : History) (publications : List Publication) : Type 0 where
  pub begins : option_map (λ publication. publication.front) (slice_get publications 0) ≡ Some 0
  pub each : All (IsPublication opening history) publications
  pub fronts : AllPairs (λ earlier later. earlier.front ≤ later.front) publications
