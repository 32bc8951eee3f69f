-- What a controller asks for, and what follows from each answer (MoveTables: SwitchTraffic, ReverseTraffic; the tries are this profile's own).
use Rattle.std.specs.Prelude.{◌≡◌, ◌+◌, ◌-◌, ℕ, min, nat_lt, Bool, true, false, if◌then◌else◌, List, [], ◌∷◌, ◌++◌, length, map, Result, Ok, Err, slice_get, slice_index, slice_set}
use Rattle.std.specs.List.{AllByRecursion, range_with_len}
use Rattle.std.specs.Option.{option_map_or}
use Rattle.mt_desk.specs.declared.history.Call.{Call}
use Rattle.mt_event.specs.declared.driven.Driven.{Driven}
use Rattle.mt_event.specs.declared.driven.Driven.TheVariants.{Done, Abandoned, Stopped}
use Rattle.mt_event.specs.declared.event.Event.{Event}
use Rattle.mt_event.specs.declared.event.Event.TheVariants as event
use Rattle.mt_event.specs.declared.lanes.ShownLane.{ShownLane}
use Rattle.mt_event.specs.declared.refusal.Refusal.{Refusal}
use Rattle.mt_event.specs.declared.reason.Reason.TheVariants as reason
use Rattle.mt_event.specs.declared.refusal.Refusal.TheVariants as refusal
use Rattle.mt_event.specs.declared.reply.Reply.TheVariants as reply
use Rattle.mt_event.specs.declared.reply.Shown.{Shown}
use Rattle.mt_names.specs.declared.types.TypeSet.{TypeSet}
use Rattle.mt_names.specs.Shards.{most_shards}
use Rattle.mt_plain.specs.Plain.{behind_last, next_step, stands_done, write_journal}
use Rattle.mt_workflow.specs.declared.way.Slot.{Slot}
use Rattle.mt_workflow.specs.declared.way.Slot.TheVariants.{Forward, Back}
use Rattle.mt_workflow.specs.declared.way.Way.{Way}
use Rattle.mt_workflow.specs.Workflows.{way_from}
use Rattle.mt_workers.specs.Advances.{Answer, next_position}
use Rattle.mt_workers.specs.declared.course.Course.{Course}
use Rattle.mt_workers.specs.declared.fault.ControlFault.{ControlFault}
use Rattle.mt_workers.specs.declared.fault.ControlFault.TheVariants as fault
use Rattle.mt_workers.specs.declared.turn.Heard.{Heard}
use Rattle.mt_workers.specs.declared.turn.Heard.TheVariants.{GoesOn, Ends}
use Rattle.mt_workers.specs.declared.turn.Turn.{Turn}
use Rattle.mt_workers.specs.declared.turn.Turn.TheVariants.{Steps, Feeds, GivesUp}

-- ---- the course of a controller, as it knows it: the way that it goes, how many of its places stand done, where the feeding stream of each
-- shard is, and how many tries are left

-- no way has more places: twelve steps, of which one has a place for each shard, eight at most
abbrev pub most_places : ℕ
most_places = 19

-- how many entries a feeding stream reads before a step is tried again
abbrev pub most_at_once : ℕ
most_at_once = 100

abbrev pub feeding : Course → Slot
feeding course = if course.way.back then Back else Forward

-- the course with another number of places done, with another position of a shard, or with one try fewer
abbrev pub with_done : Course → ℕ → Course
with_done course done = record course { way = record course.way { done = done } }

abbrev pub with_position : Course → (shard position : ℕ) → Course
with_position course shard position = record course { positions = slice_set course.positions shard position }

abbrev pub one_try_fewer : Course → Course
one_try_fewer course = record course { tries = course.tries - 1 }

-- where the stream that feeds on a way stands, as Show tells it of a shard: 0 where it tells of none
abbrev pub feeding_position : (back : Bool) → ShownLane → ℕ
feeding_position back lane = if back then option_map_or (λ stream. stream.position) lane.back 0 else lane.forward.position

abbrev pub position_on : Shown → (back : Bool) → (shard : ℕ) → ℕ
position_on shown back shard = option_map_or (feeding_position back) (slice_get shown.lanes.items shard) 0

-- and of as many shards as there may be
abbrev pub positions_on : Shown → (back : Bool) → List ℕ
positions_on shown back = map (position_on shown back) (range_with_len 0 most_shards)

-- what Show tells of the open way: as many shards have streams as the target has
abbrev pub course_on : (tries : ℕ) → Shown → Way → Course
course_on tries shown way = record {
  way = record way { shards = length shown.lanes.items; done = min way.done most_places };
  positions = positions_on shown way.back;
  tries = tries;
}

-- it goes on where a way is open, and else ends with a refusal
abbrev pub course_of : (tries : ℕ) → (none : Refusal) → Answer → Result Course Refusal
course_of tries none (Ok (reply.Shown shown)) = option_map_or (λ way. Ok (course_on tries shown way)) shown.way (Err none)
course_of tries none (Ok other) = Err none
course_of tries none (Err why) = Err why

-- ---- one turn

-- the shard that a turn feeds
abbrev pub shard_of : Turn → ℕ
shard_of (Feeds shard) = shard
shard_of other = 0

-- the event that is due
abbrev pub due : (workflow : List ℕ) → Turn → Course → Event
due workflow Steps course = event.Step workflow course.way.done
due workflow (Feeds shard) course = event.Advance workflow (feeding course) shard (slice_index course.positions shard) most_at_once
due workflow (GivesUp why) course = event.Undo workflow course.way.done

-- before the journal all is undone; behind it the controller stops
abbrev pub fails : Course → Refusal → Heard
fails course why =
    if stands_done (way_from course.way) write_journal then Ends (Ok (Stopped why course.way.done)) else GoesOn (GivesUp why) course

-- it is tried again, as long as tries are left
abbrev pub again : Turn → Course → Refusal → Heard
again turn course why = if nat_lt 1 course.tries then GoesOn turn (one_try_fewer course) else fails course why

-- the last step closes the way
abbrev pub stepped : Course → Heard
stepped course =
    let way = way_from course.way in
    if nat_lt (next_step way + 1) (behind_last way) then GoesOn Steps (with_done course (course.way.done + 1)) else Ends (Ok Done)

abbrev pub step_refused : Course → Refusal → Heard
step_refused course (refusal.Other reason.NotLevel) = again (Feeds 0) course (refusal.Other reason.NotLevel)
step_refused course (refusal.Other (reason.Stale current)) = again Steps (with_done course (min current most_places)) (refusal.Other (reason.Stale current))
step_refused course (refusal.Other reason.NoWorkflow) = Ends (Err (refusal.Other reason.NoWorkflow))
step_refused course (refusal.Other reason.NothingUnderWay) = Ends (Err (refusal.Other reason.NothingUnderWay))
step_refused course why = fails course why

-- the streams of all shards are fed, one after the other, before the step is tried again
abbrev pub fed : (shard : ℕ) → Course → Heard
fed shard course = GoesOn (if nat_lt (shard + 1) course.way.shards then Feeds (shard + 1) else Steps) course

abbrev pub advance_refused : (shard : ℕ) → Course → Refusal → Heard
advance_refused shard course (refusal.Other (reason.Stale current)) =
    again (Feeds shard) (with_position course shard current) (refusal.Other (reason.Stale current))
advance_refused shard course why = fails course why

-- the undo that leaves no step done closes the way
abbrev pub undone : (why : Refusal) → Course → Heard
undone why course =
    if nat_lt 1 course.way.done then GoesOn (GivesUp why) (with_done course (course.way.done - 1)) else Ends (Ok (Abandoned why))

abbrev pub undo_refused : (why : Refusal) → Course → Refusal → Heard
undo_refused why course (refusal.Other (reason.Stale current)) =
    if nat_lt 1 course.tries then GoesOn (GivesUp why) (one_try_fewer (with_done course (min current most_places))) else Ends (Err (refusal.Other (reason.Stale current)))
undo_refused why course other = Ends (Err other)

abbrev pub heard_advance : (shard : ℕ) → Course → Answer → Heard
heard_advance shard course (Ok taken) = fed shard (with_position course shard (next_position (slice_index course.positions shard) (Ok taken)))
heard_advance shard course (Err why) = advance_refused shard course why

-- what follows from the answer; a step is answered by no other reply
abbrev pub heard : Turn → Course → Answer → Heard
heard Steps course (Ok reply.Done) = stepped course
heard Steps course (Ok other) = Ends (Err (refusal.Other reason.NothingUnderWay))
heard Steps course (Err why) = step_refused course why
heard (Feeds shard) course answer = heard_advance shard course answer
heard (GivesUp why) course (Ok taken) = undone why course
heard (GivesUp why) course (Err other) = undo_refused why course other

-- ---- turn after turn

-- the desk refused the next call, or this ends it
abbrev pub IsDeskFault : Result Driven ControlFault → Type 0
IsDeskFault (Err (fault.Desk why)) = Unit {0}
IsDeskFault other = ⊥

abbrev pub ended : Result Driven Refusal → Result Driven ControlFault
ended (Ok driven) = Ok driven
ended (Err why) = Err (fault.Refused why)

abbrev pub GoesOnOr : (Turn → Course → Type 0) → (Result Driven Refusal → Type 0) → Heard → Type 0
GoesOnOr Again End (GoesOn turn course) = Again turn course
GoesOnOr Again End (Ends result) = End result

-- the calls of a controller on its course, each the one that is due, until it ends so
abbrev pub Runs : (workflow : List ℕ) → Turn → Course → List Call → Result Driven ControlFault → Type 0
Runs workflow turn course [] result = IsDeskFault result
Runs workflow turn course (call ∷ calls) result =
    (call.event ≡ due workflow turn course)
    × GoesOnOr (λ next further. Runs workflow next further calls result) (λ end. (calls ≡ []) × (result ≡ ended end)) (heard turn course call.answer)

-- those of one that asks what way is open; it has the refusal to end with if none is
abbrev pub RunsFrom : (workflow : List ℕ) → Result Course Refusal → List Call → Result Driven ControlFault → Type 0
RunsFrom workflow (Ok course) calls result = Runs workflow Steps course calls result
RunsFrom workflow (Err why) calls result = (calls ≡ []) × (result ≡ Err (fault.Refused why))

abbrev pub Looks : (workflow : List ℕ) → (tries : ℕ) → (none : Refusal) → List Call → Result Driven ControlFault → Type 0
Looks workflow tries none [] result = IsDeskFault result
Looks workflow tries none (call ∷ calls) result =
    (call.event ≡ event.Show workflow) × RunsFrom workflow (course_of tries none call.answer) calls result

-- the refusal that ends it if no way is open after an answer to its begin, or that ends it at once
abbrev pub none_open : Answer → Result Refusal Refusal
none_open (Ok taken) = Ok (refusal.Other reason.NothingUnderWay)
none_open (Err (refusal.Other reason.UnderWay)) = Ok (refusal.Other reason.UnderWay)
none_open (Err why) = Err why

abbrev pub LooksOr : (workflow : List ℕ) → (tries : ℕ) → Result Refusal Refusal → List Call → Result Driven ControlFault → Type 0
LooksOr workflow tries (Ok none) calls result = Looks workflow tries none calls result
LooksOr workflow tries (Err why) calls result = (calls ≡ []) × (result ≡ Err (fault.Refused why))

abbrev pub begin_event : (workflow : List ℕ) → TypeSet → (back : Bool) → Event
begin_event workflow types true = event.BeginReverse workflow types
begin_event workflow types false = event.BeginSwitch workflow types

-- those of a whole controller
abbrev pub Controls : (workflow : List ℕ) → TypeSet → (back : Bool) → (tries : ℕ) → List Call → Result Driven ControlFault → Type 0
Controls workflow types back tries [] result = IsDeskFault result
Controls workflow types back tries (call ∷ calls) result =
    (call.event ≡ begin_event workflow types back) × LooksOr workflow tries (none_open call.answer) calls result

-- ---- what follows

-- an event that a controller of this workflow asks for
abbrev pub IsOfController : (workflow : List ℕ) → Event → Type 0
IsOfController workflow (event.Advance name stream shard at max) = name ≡ workflow
IsOfController workflow (event.BeginSwitch name types) = name ≡ workflow
IsOfController workflow (event.BeginReverse name types) = name ≡ workflow
IsOfController workflow (event.Step name at) = name ≡ workflow
IsOfController workflow (event.Undo name at) = name ≡ workflow
IsOfController workflow (event.Show name) = name ≡ workflow
IsOfController workflow other = ⊥

-- a step of it that is done
abbrev pub IsStepDone : (workflow : List ℕ) → Call → Type 0
IsStepDone workflow call = (at : ℕ) × (call.event ≡ event.Step workflow at) × (call.answer ≡ Ok reply.Done)

-- the last of some calls is one
abbrev pub EndsInStep : (workflow : List ℕ) → List Call → Type 0
EndsInStep workflow calls = (before : List Call) × (last : Call) × (calls ≡ before ++ last ∷ []) × IsStepDone workflow last

-- whatever a controller asks for is of its workflow
abbrev pub AsksForItsOwn : Type 0
AsksForItsOwn = (workflow : List ℕ) (types : TypeSet) (back : Bool) (tries : ℕ) (calls : List Call) (result : Result Driven ControlFault)
    → Controls workflow types back tries calls result → AllByRecursion (λ call. IsOfController workflow call.event) calls

-- where it answers Done, its last call is a step that is done
abbrev pub EndsWithAStep : Type 0
EndsWithAStep = (workflow : List ℕ) (types : TypeSet) (back : Bool) (tries : ℕ) (calls : List Call) → Controls workflow types back tries calls (Ok Done)
    → EndsInStep workflow calls
