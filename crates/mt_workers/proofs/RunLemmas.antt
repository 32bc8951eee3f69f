-- A controller on its course.
use Rattle.std.proofs.Common.{◌≡◌, ◌+◌, ◌-◌, ◌*◌, ◌<◌, ◌≤◌, ℕ, max, min, nat_le, nat_lt, Bool, true, false, cond, List, [], ◌∷◌, ◌++◌, append_assoc, Result, Ok, Err, refl, sym, ap, ◌∙◌, subst, arith}
use Rattle.std.proofs.lemmas.Bool.{ltb-true}
use Rattle.std.proofs.lemmas.List.{append-nil}
use Rattle.std.specs.Prelude.{slice_index}
use Rattle.mt_desk.specs.declared.fault.DeskFault.{DeskFault}
use Rattle.mt_desk.specs.declared.history.Call.{Call}
use Rattle.mt_event.specs.declared.driven.Driven.{Driven}
use Rattle.mt_event.specs.declared.refusal.Refusal.{Refusal}
use Rattle.mt_event.specs.declared.reason.Reason.TheVariants as reason
use Rattle.mt_event.specs.declared.refusal.Refusal.TheVariants as refusal
use Rattle.mt_event.specs.declared.reply.Reply.TheVariants as reply
use Rattle.mt_names.specs.Shards.{most_shards}
use Rattle.mt_plain.specs.Events as plain
use Rattle.mt_plain.specs.Plain.{behind_last, changed_types, next_place, next_step, repeated_step, stands_done, write_journal}
use Rattle.mt_workflow.specs.Workflows.{way_from}
use Rattle.mt_workers.specs.Advances.{Answer, next_position}
use Rattle.mt_workers.specs.Controls.{GoesOnOr, Runs, advance_refused, again, due, ended, fails, fed, heard, most_places, one_try_fewer, shard_of, step_refused, stepped, undo_refused, undone, with_done, with_position}
use Rattle.mt_workers.specs.declared.course.Course.{Course}
use Rattle.mt_workers.specs.declared.fault.ControlFault.{ControlFault}
use Rattle.mt_workers.specs.declared.fault.ControlFault.TheVariants as fault
use Rattle.mt_workers.specs.declared.turn.Heard.{Heard}
use Rattle.mt_workers.specs.declared.turn.Heard.TheVariants.{GoesOn, Ends}
use Rattle.mt_workers.specs.declared.turn.Turn.{Turn}
use Rattle.mt_workers.specs.declared.turn.Turn.TheVariants.{Steps, Feeds, GivesUp}

-- ---- its calls so far

-- as it ends from here, so the whole run ends
abbrev pub IsOnCourse : (workflow : List ℕ) → (start : Course) → (old now : List Call) → Turn → Course → Type 0
IsOnCourse workflow start old now turn course =
    (calls : List Call) × (now ≡ old ++ calls)
    × ((more : List Call) (result : Result Driven ControlFault) → Runs workflow turn course more result → Runs workflow Steps start (calls ++ more) result)

abbrev pub HasRun : (workflow : List ℕ) → (start : Course) → (old new : List Call) → Result Driven ControlFault → Type 0
HasRun workflow start old new result = (calls : List Call) × (new ≡ old ++ calls) × Runs workflow Steps start calls result

pub at_the_start : (workflow : List ℕ) (start : Course) (old : List Call) → IsOnCourse workflow start old old Steps start
at_the_start workflow start old = ([], sym (append-nil old), λ more result runs. runs)

pub goes_further : (workflow : List ℕ) (start : Course) (old now new : List Call) (turn : Turn) (course : Course) (call : Call) (next : Turn) (further : Course)
    → IsOnCourse workflow start old now turn course → call.event ≡ due workflow turn course → new ≡ now ++ call ∷ [] → GoesOn next further ≡ heard turn course call.answer
    → IsOnCourse workflow start old new next further
goes_further workflow start old now new turn course call next further way is adds hears = (
  way.0 ++ call ∷ [],
  adds ∙ ap (λ l. l ++ call ∷ []) way.1 ∙ append_assoc old way.0 (call ∷ []),
  λ more result runs. subst (λ l. Runs workflow Steps start l result) (sym (append_assoc way.0 (call ∷ []) more))
      (way.2 (call ∷ more) result
      (is, subst (GoesOnOr (λ t c. Runs workflow t c more result) (λ end. (more ≡ []) × (result ≡ ended end))) hears runs)),
)

pub ends_here : (workflow : List ℕ) (start : Course) (old now new : List Call) (turn : Turn) (course : Course) (call : Call) (end : Result Driven Refusal)
    → IsOnCourse workflow start old now turn course → call.event ≡ due workflow turn course → new ≡ now ++ call ∷ [] → Ends end ≡ heard turn course call.answer
    → HasRun workflow start old new (ended end)
ends_here workflow start old now new turn course call end way is adds hears = (
  way.0 ++ call ∷ [],
  adds ∙ ap (λ l. l ++ call ∷ []) way.1 ∙ append_assoc old way.0 (call ∷ []),
  way.2 (call ∷ []) (ended end)
      (is, subst (GoesOnOr (λ t c. Runs workflow t c [] (ended end)) (λ e. ([] ≡ []) × (ended end ≡ ended e))) hears (refl, refl)),
)

pub refused_here : (workflow : List ℕ) (start : Course) (old now new : List Call) (turn : Turn) (course : Course) (why : DeskFault)
    → IsOnCourse workflow start old now turn course → new ≡ now → HasRun workflow start old new (Err (fault.Desk why))
refused_here workflow start old now new turn course why way same =
    (way.0, same ∙ way.1, subst (λ l. Runs workflow Steps start l (Err (fault.Desk why))) (append-nil way.0) (way.2 [] (Err (fault.Desk why)) tt))

-- ---- it ends: how much is left

abbrev pub size : Turn → Course → ℕ
size Steps course = 64 * course.tries + 21 + (19 - course.way.done)
size (Feeds shard) course = 64 * course.tries + 22 + (19 - course.way.done) + (8 - shard)
size (GivesUp why) course = 64 * course.tries + course.way.done

-- a turn on a course whose way has so many places and shards at most, and that feeds one of them
pub record IsSound (turn : Turn) (course : Course) : Type 0 where
  pub done : course.way.done ≤ most_places
  pub shards : course.way.shards ≤ most_shards
  pub shard : shard_of turn < most_shards

-- less is left where it goes on
abbrev pub IsLess : ℕ → Heard → Type 0
IsLess left (GoesOn next further) = (size next further < left) × IsSound next further
IsLess left (Ends end) = Unit {0}

fails_less : (left : ℕ) (course : Course) (why : Refusal) → course.way.done ≤ most_places → course.way.shards ≤ most_shards → 64 * course.tries + 19 < left → IsLess left (fails course why)
fails_less left course why done shards room = by (stands_done (way_from course.way) write_journal)
  where
    by : (t : Bool) → IsLess left (cond t (Ends (Ok (Rattle.mt_event.specs.declared.driven.Driven.TheVariants.Stopped why course.way.done))) (GoesOn (GivesUp why) course))
    by true = tt
    by false = (omega (arith, done, room), record { done = done; shards = shards; shard = omega arith })

again_less : (left : ℕ) (turn : Turn) (course : Course) (why : Refusal) → IsSound turn course → 64 * course.tries + 19 < left
    → (1 < course.tries → size turn (one_try_fewer course) < left) → IsLess left (again turn course why)
again_less left turn course why sound room fewer = by (nat_lt 1 course.tries) refl
  where
    by : (t : Bool) → nat_lt 1 course.tries ≡ t → IsLess left (cond t (GoesOn turn (one_try_fewer course)) (fails course why))
    by true t = (fewer (ltb-true 1 course.tries t), record { done = sound.done; shards = sound.shards; shard = sound.shard })
    by false t = fails_less left course why sound.done sound.shards room

-- a place whose step isn't the last one has others behind it
before_last : (way : plain.Way) → way.shards ≤ most_shards → next_step way + 1 < behind_last way → way.done < most_places
before_last way shards before = by (nat_le (next_place way) (repeated_step way)) refl
  where
    later : ℕ
    later = max (repeated_step way) (next_place way - (way.shards - 1))

    last : (t : Bool) → cond t 12 1 ≤ 12
    last true = omega arith
    last false = omega arith

    low : next_step way + 1 < 12
    low = let most : behind_last way ≤ 12 = last (changed_types way).primary in omega (arith, before, most)

    by : (t : Bool) → nat_le (next_place way) (repeated_step way) ≡ t → way.done < most_places
    by true t = let is : next_step way ≡ next_place way = ap (λ b. cond b (next_place way) later) t in omega (arith, is, low)
    by false t = let is : next_step way ≡ later = ap (λ b. cond b (next_place way) later) t in omega (arith, is, low, shards)

stepped_less : (course : Course) → course.way.done ≤ most_places → course.way.shards ≤ most_shards → IsLess (size Steps course) (stepped course)
stepped_less course done shards = by (nat_lt (next_step (way_from course.way) + 1) (behind_last (way_from course.way))) refl
  where
    by : (t : Bool) → nat_lt (next_step (way_from course.way) + 1) (behind_last (way_from course.way)) ≡ t
        → IsLess (size Steps course) (cond t (GoesOn Steps (with_done course (course.way.done + 1))) (Ends (Ok Rattle.mt_event.specs.declared.driven.Driven.TheVariants.Done)))
    by true t =
        let more : course.way.done < most_places = before_last (way_from course.way) shards (ltb-true (next_step (way_from course.way) + 1) (behind_last (way_from course.way)) t) in
        (omega (arith, more), record { done = omega (arith, more); shards = shards; shard = omega arith })
    by false t = tt

undone_less : (why : Refusal) (course : Course) → course.way.done ≤ most_places → course.way.shards ≤ most_shards → IsLess (size (GivesUp why) course) (undone why course)
undone_less why course done shards = by (nat_lt 1 course.way.done) refl
  where
    by : (t : Bool) → nat_lt 1 course.way.done ≡ t
        → IsLess (size (GivesUp why) course) (cond t (GoesOn (GivesUp why) (with_done course (course.way.done - 1))) (Ends (Ok (Rattle.mt_event.specs.declared.driven.Driven.TheVariants.Abandoned why))))
    by true t = let more = ltb-true 1 course.way.done t in (omega (arith, more), record { done = omega (arith, done); shards = shards; shard = omega arith })
    by false t = tt

few : (n : ℕ) → min n most_places ≤ most_places
few n = omega arith

step_refused_less : (course : Course) (why : Refusal) → course.way.done ≤ most_places → course.way.shards ≤ most_shards → IsLess (size Steps course) (step_refused course why)
step_refused_less course (refusal.Other reason.NotLevel) done shards =
    again_less (size Steps course) (Feeds 0) course (refusal.Other reason.NotLevel) (record { done = done; shards = shards; shard = omega arith }) (omega arith) (λ more. omega (arith, more))
step_refused_less course (refusal.Other (reason.Stale current)) done shards =
    again_less (size Steps course) Steps (with_done course (min current most_places)) (refusal.Other (reason.Stale current)) (record { done = few current; shards = shards; shard = omega arith }) (omega arith)
    (λ more. omega (arith, more, few current))
step_refused_less course (refusal.Other reason.NoWorkflow) done shards = tt
step_refused_less course (refusal.Other reason.NothingUnderWay) done shards = tt
step_refused_less course why done shards = fails_less (size Steps course) course why done shards (omega arith)

advance_refused_less : (shard : ℕ) (course : Course) (why : Refusal) → IsSound (Feeds shard) course → IsLess (size (Feeds shard) course) (advance_refused shard course why)
advance_refused_less shard course (refusal.Other (reason.Stale current)) sound =
    again_less (size (Feeds shard) course) (Feeds shard) (with_position course shard current) (refusal.Other (reason.Stale current)) (record { done = sound.done; shards = sound.shards; shard = sound.shard }) (omega arith)
    (λ more. omega (arith, more))
advance_refused_less shard course why sound = fails_less (size (Feeds shard) course) course why sound.done sound.shards (omega arith)

-- behind an advance fewer shards are left, or the step is tried
fed_less : (shard : ℕ) (course : Course) → IsSound (Feeds shard) course → IsLess (size (Feeds shard) course) (fed shard course)
fed_less shard course sound = by (nat_lt (shard + 1) course.way.shards) refl
  where
    by : (t : Bool) → nat_lt (shard + 1) course.way.shards ≡ t → IsLess (size (Feeds shard) course) (GoesOn (cond t (Feeds (shard + 1)) Steps) course)
    by true t =
        let more = ltb-true (shard + 1) course.way.shards t in
        let few = sound.shards in
        let within = sound.shard in
        (omega (arith, within), record { done = sound.done; shards = few; shard = omega (arith, more, few) })
    by false t = (omega arith, record { done = sound.done; shards = sound.shards; shard = omega arith })

undo_refused_less : (why : Refusal) (course : Course) (other : Refusal) → course.way.done ≤ most_places → course.way.shards ≤ most_shards → IsLess (size (GivesUp why) course) (undo_refused why course other)
undo_refused_less why course (refusal.Other (reason.Stale current)) done shards = by (nat_lt 1 course.tries) refl
  where
    by : (t : Bool) → nat_lt 1 course.tries ≡ t
        → IsLess (size (GivesUp why) course) (cond t (GoesOn (GivesUp why) (one_try_fewer (with_done course (min current most_places)))) (Ends (Err (refusal.Other (reason.Stale current)))))
    by true t = let more = ltb-true 1 course.tries t in (omega (arith, more, few current), record { done = few current; shards = shards; shard = omega arith })
    by false t = tt
undo_refused_less why course other done shards = tt

heard_less : (turn : Turn) (course : Course) (answer : Answer) → IsSound turn course → IsLess (size turn course) (heard turn course answer)
heard_less Steps course (Ok reply.Done) sound = stepped_less course sound.done sound.shards
heard_less Steps course (Ok (reply.Row row)) sound = tt
heard_less Steps course (Ok (reply.Advanced counts)) sound = tt
heard_less Steps course (Ok (reply.Shown shown)) sound = tt
heard_less Steps course (Err why) sound = step_refused_less course why sound.done sound.shards
heard_less (Feeds shard) course (Ok taken) sound =
    fed_less shard (with_position course shard (next_position (slice_index course.positions shard) (Ok taken))) (record { done = sound.done; shards = sound.shards; shard = sound.shard })
heard_less (Feeds shard) course (Err why) sound = advance_refused_less shard course why sound
heard_less (GivesUp why) course (Ok taken) sound = undone_less why course sound.done sound.shards
heard_less (GivesUp why) course (Err other) sound = undo_refused_less why course other sound.done sound.shards

pub goes_on_less : (turn : Turn) (course : Course) (answer : Answer) (next : Turn) (further : Course) → IsSound turn course
    → GoesOn next further ≡ heard turn course answer → IsLess (size turn course) (GoesOn next further)
goes_on_less turn course answer next further sound hears = subst (IsLess (size turn course)) (sym hears) (heard_less turn course answer sound)
