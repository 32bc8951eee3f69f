-- Which calls a controller makes.
use Rattle.std.proofs.Common.{◌≡◌, ◌+◌, ◌-◌, ℕ, min, nat_lt, Bool, true, false, cond, List, [], ◌∷◌, Result, Ok, Err, refl, sym, ap, subst}
use Rattle.std.specs.List.{AllByRecursion}
use Rattle.mt_desk.specs.declared.history.Call.{Call}
use Rattle.mt_event.specs.declared.driven.Driven.{Driven}
use Rattle.mt_event.specs.declared.driven.Driven.TheVariants.{Done, Abandoned, Stopped}
use Rattle.mt_event.specs.declared.event.Event.{Event}
use Rattle.mt_event.specs.declared.refusal.Refusal.{Refusal}
use Rattle.mt_event.specs.declared.reason.Reason.TheVariants as reason
use Rattle.mt_event.specs.declared.refusal.Refusal.TheVariants as refusal
use Rattle.mt_event.specs.declared.reply.Reply.TheVariants as reply
use Rattle.mt_plain.specs.Plain.{behind_last, next_step, stands_done, write_journal}
use Rattle.mt_workflow.specs.Workflows.{way_from}
use Rattle.mt_workers.specs.Advances.{Answer}
use Rattle.mt_workers.specs.Controls.{AsksForItsOwn, EndsInStep, EndsWithAStep, GoesOnOr, IsOfController, IsStepDone, Looks, LooksOr, Runs, RunsFrom, advance_refused, again, begin_event, course_of, due, ended, fails, heard, most_places, none_open, one_try_fewer, step_refused, stepped, undo_refused, undone, with_done, with_position}
use Rattle.mt_workers.specs.declared.course.Course.{Course}
use Rattle.mt_workers.specs.declared.fault.ControlFault.{ControlFault}
use Rattle.mt_workers.specs.declared.turn.Heard.{Heard}
use Rattle.mt_workers.specs.declared.turn.Heard.TheVariants.{GoesOn, Ends}
use Rattle.mt_workers.specs.declared.turn.Turn.{Turn}
use Rattle.mt_workers.specs.declared.turn.Turn.TheVariants.{Steps, Feeds, GivesUp}

abbrev AreOwn : (workflow : List ℕ) → List Call → Type 0
AreOwn workflow calls = AllByRecursion (λ call. IsOfController workflow call.event) calls

none_left : (workflow : List ℕ) (calls : List Call) → calls ≡ [] → AreOwn workflow calls
none_left workflow calls is = subst (AreOwn workflow) (sym is) tt

-- ---- all are of its workflow

due_own : (workflow : List ℕ) (turn : Turn) (course : Course) → IsOfController workflow (due workflow turn course)
due_own workflow Steps course = refl
due_own workflow (Feeds shard) course = refl
due_own workflow (GivesUp why) course = refl

runs_own : (workflow : List ℕ) (turn : Turn) (course : Course) (calls : List Call) (result : Result Driven ControlFault) → Runs workflow turn course calls result → AreOwn workflow calls
runs_own workflow turn course [] result runs = tt
runs_own workflow turn course (call ∷ calls) result runs = (
  subst (IsOfController workflow) (sym runs.0) (due_own workflow turn course),
  by (heard turn course call.answer) (λ next further rest. runs_own workflow next further calls result rest) runs.1,
)
  where
    by : (h : Heard) → ((next : Turn) (further : Course) → Runs workflow next further calls result → AreOwn workflow calls)
        → GoesOnOr (λ next further. Runs workflow next further calls result) (λ end. (calls ≡ []) × (result ≡ ended end)) h → AreOwn workflow calls
    by (GoesOn next further) goes rest = goes next further rest
    by (Ends end) goes rest = none_left workflow calls rest.0

looks_own : (workflow : List ℕ) (tries : ℕ) (none : Refusal) (calls : List Call) (result : Result Driven ControlFault) → Looks workflow tries none calls result → AreOwn workflow calls
looks_own workflow tries none [] result looks = tt
looks_own workflow tries none (call ∷ calls) result looks =
    (subst (IsOfController workflow) (sym looks.0) refl, by (course_of tries none call.answer) looks.1)
  where
    by : (found : Result Course Refusal) → RunsFrom workflow found calls result → AreOwn workflow calls
    by (Ok course) runs = runs_own workflow Steps course calls result runs
    by (Err why) ends = none_left workflow calls ends.0

pub asks_for_its_own : AsksForItsOwn
asks_for_its_own workflow types back tries [] result controls = tt
asks_for_its_own workflow types back tries (call ∷ calls) result controls =
    (subst (IsOfController workflow) (sym controls.0) (begin_own back), by (none_open call.answer) controls.1)
  where
    begin_own : (b : Bool) → IsOfController workflow (begin_event workflow types b)
    begin_own true = refl
    begin_own false = refl

    by : (none : Result Refusal Refusal) → LooksOr workflow tries none calls result → AreOwn workflow calls
    by (Ok none) looks = looks_own workflow tries none calls result looks
    by (Err why) ends = none_left workflow calls ends.0

-- ---- and the last one, where all is done, is a step

-- what follows is told as done only where this is so
abbrev DoneIf : Type 0 → Heard → Type 0
DoneIf P (Ends (Ok Done)) = P
DoneIf P other = Unit {0}

fails_undone : (P : Type 0) (course : Course) (why : Refusal) → DoneIf P (fails course why)
fails_undone P course why = by (stands_done (way_from course.way) write_journal)
  where
    by : (t : Bool) → DoneIf P (cond t (Ends (Ok (Stopped why course.way.done))) (GoesOn (GivesUp why) course))
    by true = tt
    by false = tt

again_undone : (P : Type 0) (turn : Turn) (course : Course) (why : Refusal) → DoneIf P (again turn course why)
again_undone P turn course why = by (nat_lt 1 course.tries)
  where
    by : (t : Bool) → DoneIf P (cond t (GoesOn turn (one_try_fewer course)) (fails course why))
    by true = tt
    by false = fails_undone P course why

stepped_done : (P : Type 0) (course : Course) → P → DoneIf P (stepped course)
stepped_done P course p = by (nat_lt (next_step (way_from course.way) + 1) (behind_last (way_from course.way)))
  where
    by : (t : Bool) → DoneIf P (cond t (GoesOn Steps (with_done course (course.way.done + 1))) (Ends (Ok Done)))
    by true = tt
    by false = p

undone_undone : (P : Type 0) (why : Refusal) (course : Course) → DoneIf P (undone why course)
undone_undone P why course = by (nat_lt 1 course.way.done)
  where
    by : (t : Bool) → DoneIf P (cond t (GoesOn (GivesUp why) (with_done course (course.way.done - 1))) (Ends (Ok (Abandoned why))))
    by true = tt
    by false = tt

step_refused_undone : (P : Type 0) (course : Course) (why : Refusal) → DoneIf P (step_refused course why)
step_refused_undone P course (refusal.Other reason.NotLevel) = again_undone P (Feeds 0) course (refusal.Other reason.NotLevel)
step_refused_undone P course (refusal.Other (reason.Stale current)) = again_undone P Steps (with_done course (min current most_places)) (refusal.Other (reason.Stale current))
step_refused_undone P course (refusal.Other reason.NoWorkflow) = tt
step_refused_undone P course (refusal.Other reason.NothingUnderWay) = tt
step_refused_undone P course why = fails_undone P course why

advance_refused_undone : (P : Type 0) (shard : ℕ) (course : Course) (why : Refusal) → DoneIf P (advance_refused shard course why)
advance_refused_undone P shard course (refusal.Other (reason.Stale current)) = again_undone P (Feeds shard) (with_position course shard current) (refusal.Other (reason.Stale current))
advance_refused_undone P shard course why = fails_undone P course why

undo_refused_undone : (P : Type 0) (why : Refusal) (course : Course) (other : Refusal) → DoneIf P (undo_refused why course other)
undo_refused_undone P why course (refusal.Other (reason.Stale current)) = by (nat_lt 1 course.tries)
  where
    by : (t : Bool) → DoneIf P (cond t (GoesOn (GivesUp why) (one_try_fewer (with_done course (min current most_places)))) (Ends (Err (refusal.Other (reason.Stale current)))))
    by true = tt
    by false = tt
undo_refused_undone P why course other = tt

done_by_step : (workflow : List ℕ) (turn : Turn) (course : Course) (event : Event) (answer : Answer) → event ≡ due workflow turn course
    → DoneIf (IsStepDone workflow record { event = event; answer = answer }) (heard turn course answer)
done_by_step workflow Steps course event (Ok reply.Done) is = stepped_done (IsStepDone workflow record { event = event; answer = Ok reply.Done }) course (course.way.done, is, refl)
done_by_step workflow Steps course event (Ok (reply.Row row)) is = tt
done_by_step workflow Steps course event (Ok (reply.Advanced counts)) is = tt
done_by_step workflow Steps course event (Ok (reply.Shown shown)) is = tt
done_by_step workflow Steps course event (Err why) is = step_refused_undone (IsStepDone workflow record { event = event; answer = Err why }) course why
done_by_step workflow (Feeds shard) course event (Ok taken) is = tt
done_by_step workflow (Feeds shard) course event (Err why) is = advance_refused_undone (IsStepDone workflow record { event = event; answer = Err why }) shard course why
done_by_step workflow (GivesUp why) course event (Ok taken) is = undone_undone (IsStepDone workflow record { event = event; answer = Ok taken }) why course
done_by_step workflow (GivesUp why) course event (Err other) is = undo_refused_undone (IsStepDone workflow record { event = event; answer = Err other }) why course other

before : (workflow : List ℕ) (call : Call) (calls : List Call) → EndsInStep workflow calls → EndsInStep workflow (call ∷ calls)
before workflow call calls ends = (call ∷ ends.0, ends.1, ap (λ l. call ∷ l) ends.2, ends.3)

runs_done : (workflow : List ℕ) (turn : Turn) (course : Course) (calls : List Call) → Runs workflow turn course calls (Ok Done) → EndsInStep workflow calls
runs_done workflow turn course [] runs = absurd runs
runs_done workflow turn course (call ∷ calls) runs =
    by (heard turn course call.answer) (λ next further rest. before workflow call calls (runs_done workflow next further calls rest)) runs.1
    (done_by_step workflow turn course call.event call.answer runs.0)
  where
    by : (h : Heard) → ((next : Turn) (further : Course) → Runs workflow next further calls (Ok Done) → EndsInStep workflow (call ∷ calls))
        → GoesOnOr (λ next further. Runs workflow next further calls (Ok Done)) (λ end. (calls ≡ []) × (Ok Done ≡ ended end)) h
        → DoneIf (IsStepDone workflow call) h → EndsInStep workflow (call ∷ calls)
    by (GoesOn next further) goes rest done = goes next further rest
    by (Ends (Ok Done)) goes rest done = ([], call, ap (λ l. call ∷ l) rest.0, done)
    by (Ends (Ok (Abandoned why))) goes rest done = absurd (let e = rest.1 in cc)
    by (Ends (Ok (Stopped why steps))) goes rest done = absurd (let e = rest.1 in cc)
    by (Ends (Err why)) goes rest done = absurd (let e = rest.1 in cc)

looks_done : (workflow : List ℕ) (tries : ℕ) (none : Refusal) (calls : List Call) → Looks workflow tries none calls (Ok Done) → EndsInStep workflow calls
looks_done workflow tries none [] looks = absurd looks
looks_done workflow tries none (call ∷ calls) looks = before workflow call calls (by (course_of tries none call.answer) looks.1)
  where
    by : (found : Result Course Refusal) → RunsFrom workflow found calls (Ok Done) → EndsInStep workflow calls
    by (Ok course) runs = runs_done workflow Steps course calls runs
    by (Err why) ends = absurd (let e = ends.1 in cc)

pub ends_with_a_step : EndsWithAStep
ends_with_a_step workflow types back tries [] controls = absurd controls
ends_with_a_step workflow types back tries (call ∷ calls) controls = before workflow call calls (by (none_open call.answer) controls.1)
  where
    by : (none : Result Refusal Refusal) → LooksOr workflow tries none calls (Ok Done) → EndsInStep workflow calls
    by (Ok none) looks = looks_done workflow tries none calls looks
    by (Err why) ends = absurd (let e = ends.1 in cc)
