-- What is fed to each lane, in each state that a run reaches.
use Rattle.std.proofs.Common.{◌≡◌, ◌≢◌, ℕ, ◌+◌, ◌≤◌, Bool, true, false, not, cond, eqb, List, [], length, Option, None, Some, refl, sym, ap, ◌∙◌, subst, arith, eqb-true}
use Rattle.std.proofs.lemmas.Bool.{true≢false, and_from, and_parts}
use Rattle.std.specs.List.{range_with_len}
use Rattle.std.specs.Prelude.{◌&&◌, ◌||◌}
use Rattle.mt_names.specs.Names.{same_text}
use Rattle.mt_names.specs.Shards.{Cuts, shard_count}
use Rattle.mt_names.proofs.SameLemmas.{same_text_decides}
use Rattle.mt_plain.specs.Answers.{Answers}
use Rattle.mt_plain.specs.Events.{Event, create, advance, begin_switch, begin_reverse, step, undo, StreamName, forward, back, Slot, Answer, done, row, advanced, shown, refused, Way}
use Rattle.mt_plain.specs.Next.{created, lane_fed, lane_stepped, live_stepped, live_undone, new_lane, next, types_and, types_without, with_advance, with_way_to}
use Rattle.mt_plain.specs.Plain.{Lane, Live, Plain, catch_up, changes_primary, create_back, cuts_of, each_once, lane_at, live_at, moves, next_step, owner, refresh_target, stands_done, stands_done_at, start_back, stop_feeding, write_journal}
use Rattle.mt_plain.specs.Refuse.{advance_at, advance_refusal, in_lane_at, in_workflow, step_refusal, will_read_other_side}
use Rattle.mt_plain.specs.Slots.{feeding_slot, is_feeding, is_fresh, lane_advanced, live_advanced, log_length, other_slot, read_shard, read_side, running_at, slot_before_way, slot_by_way, slot_of, with_position, written_side}
use Rattle.mt_plain.specs.Writes.{lane_writes}
use Rattle.mt_laws.specs.Changes.{BeginsWay, ChangesLogs, ChangesNumbers, ChangesWrites, IsAdvance, IsStep}
use Rattle.mt_laws.specs.Copies.{Undoes}
use Rattle.mt_laws.specs.WayBack.{IsReached, ends_workflow}
use Rattle.mt_laws.proofs.AllWritesLemmas.{reached_next}
use Rattle.mt_laws.proofs.ChangeLemmas.{live_next, made_live, sides-next}
use Rattle.mt_laws.proofs.CopyLemmas.{advance_runs, lane_level, level_if_taken}
use Rattle.mt_laws.proofs.FedLemmas.{IsFed, Level, LevelAt, at_by, shard_by, fed_other, owner_before, owner_behind}
use Rattle.mt_laws.proofs.FedStepLemmas.{begun_fed, stepped_fed, undone_fed}
use Rattle.mt_laws.proofs.KeepLemmas.{at_it, next_has}
use Rattle.mt_laws.proofs.LaneLemmas.{EachLane, IsNumbered, KeepsLane, in_map, lane_at_it, lanes_kept, reached_numbered, shard-advanced}
use Rattle.mt_laws.proofs.LiveLemmas.{IsIn, find_some, sides_same, unique}
use Rattle.mt_laws.proofs.OwnerLemmas.{IsJournaled, reached_journaled}
use Rattle.mt_laws.proofs.PartLemmas.{IsSettled}
use Rattle.mt_laws.proofs.PendingLemmas.{lane_writes_same, pending_beside, pending_end, pending_own, pending_same, read-le}
use Rattle.mt_laws.proofs.PositionLemmas.{position_in, rest_at, running_slot, slot_position}
use Rattle.mt_laws.proofs.ReachLemmas.{live_by_name, not_ended, reached_has_parts, each_next, reached_keeps}
use Rattle.mt_laws.proofs.RefusalLemmas.{reverse-none, switch-none}
use Rattle.mt_laws.proofs.StreamLemmas.{feeding_runs, other_runs, reached_turned, runs_at_the_owner}
use Rattle.mt_laws.proofs.UntouchedLemmas.{same_logs, same_made, same_numbers, same_writes}
use Rattle.mt_laws.proofs.WayLemmas.{undo_before_journal}
use Rattle.mt_laws.proofs.PlainWords.{side_by}
use Rattle.mt_laws.proofs.WayStepLemmas.{done_in_order}

-- ---- an advance of one of its streams

module _ (p : Plain) (reached : IsReached p) (w : Live) (in_it : IsIn w p.lives) (workflow : List ℕ) (live : live_at p workflow ≡ Some w)
    (stream : StreamName) (shard at at_most events rows : ℕ) (runner : Lane) (runs : running_at (slot_of w runner stream) ≡ Some at) where
  abbrev q : Plain
  q = with_advance p stream shard at at_most events rows (Some w)

  settled : IsSettled w
  settled = (reached_has_parts p reached).settled w in_it

  journaled : IsJournaled w
  journaled = reached_journaled p reached w in_it

  apart : w.source ≢ w.target
  apart = ((reached_has_parts p reached).placed w in_it).sides

  reads : read_side w stream ≡ owner w
  reads = runs_at_the_owner p reached workflow w live runner stream at runs

  written_elsewhere : written_side w stream ≢ read_side w stream
  written_elsewhere = by stream
    where
      by : (s : StreamName) → written_side w s ≢ read_side w s
      by forward = λ e. apart (sym e)
      by back = apart

  -- on a way that has made its streams, those alone run, once they are started
  module _ (way : Way) (opens : w.way ≡ Some way) where
    pub made_runs : changes_primary way ≡ true → stands_done way create_back ≡ true → (is_feeding way stream ≡ false) × (stands_done way start_back ≡ true)
    made_runs changes created = by (is_feeding way stream) refl (sym (ap (λ t. running_at (cond (not t) slot (cond (is_feeding way stream) (feeding_slot runner way slot) (other_slot runner way slot)))) changes) ∙ sym (ap (λ o. running_at (slot_by_way w runner o stream)) opens) ∙ runs)
      where
        slot : Option Slot
        slot = slot_before_way w runner stream

        by : (f : Bool) → is_feeding way stream ≡ f → running_at (cond (is_feeding way stream) (feeding_slot runner way slot) (other_slot runner way slot)) ≡ Some at → (is_feeding way stream ≡ false) × (stands_done way start_back ≡ true)
        by true f e =
            let r = feeding_runs (stands_done way stop_feeding) slot at (sym (ap (λ t. running_at (cond t (feeding_slot runner way slot) (other_slot runner way slot))) f) ∙ e) in
            absurd (true≢false (sym (done_in_order way 3 create_back (omega arith) created) ∙ r.0))
        by false f e =
            let r = other_runs (stands_done way create_back) (stands_done way start_back) runner.fresh_at slot at (sym (ap (λ t. running_at (cond t (feeding_slot runner way slot) (other_slot runner way slot))) f) ∙ e) in
            (f, r.0 created)

    reads_before : (changes_primary way && stands_done way write_journal) ≡ false → read_side w stream ≡ side_by w way.before.primary
    reads_before guard = reads ∙ owner_before w settled journaled way opens guard

    reads_behind : changes_primary way ≡ true → stands_done way create_back ≡ true → read_side w stream ≡ side_by w (not way.before.primary)
    reads_behind changes created = reads ∙ owner_behind w settled journaled way opens changes (done_in_order way 5 start_back (omega arith) (made_runs changes created).1)

    not_fresh : (changes_primary way && stands_done way write_journal) ≡ false → is_fresh w.way stream ≡ false
    not_fresh guard = by (is_fresh (Some way) stream) refl
      where
        by : (t : Bool) → is_fresh (Some way) stream ≡ t → is_fresh w.way stream ≡ false
        by false t = ap (λ o. is_fresh o stream) opens ∙ t
        by true t =
            let r = and_parts (changes_primary way && not (is_feeding way stream)) (stands_done way create_back) t in
            let s = and_parts (changes_primary way) (not (is_feeding way stream)) r.0 in
            let started = (made_runs s.0 r.1).1 in
            absurd (true≢false (sym (and_from (changes_primary way) (stands_done way write_journal) s.0 (done_in_order way 5 start_back (omega arith) started)) ∙ guard))

    is_made : changes_primary way ≡ true → stands_done way create_back ≡ true → is_fresh w.way stream ≡ true
    is_made changes created =
        ap (λ o. is_fresh o stream) opens
        ∙ and_from (changes_primary way && not (is_feeding way stream)) (stands_done way create_back)
        (and_from (changes_primary way) (not (is_feeding way stream)) changes (ap not (made_runs changes created).0)) created

  -- ---- a lane whose stream isn't the one that was advanced

  level_beside : (lane : Lane) (b : Bool) (n : ℕ) → read_side w stream ≡ side_by w b → LevelAt p w lane b n → LevelAt q w lane b n
  level_beside lane b n reads_it level =
      (level.0, pending_beside p w lane stream shard at at_most events rows (side_by w b) (shard_by lane b) n lane.fed (λ e. written_elsewhere (e ∙ sym reads_it)) level.1)

  pub beside_fed : (lane : Lane) → IsFed p w lane → IsFed q w lane
  beside_fed lane is = record {
    rests = λ r. level_beside lane w.switched.primary (at_by lane w.switched.primary) reads (is.rests r);
    before = λ way opens guard. level_beside lane way.before.primary (at_by lane way.before.primary) (reads_before way opens guard) (is.before way opens guard);
    fresh = λ way opens changes created. level_beside lane (not way.before.primary) lane.fresh_at (reads_behind way opens changes created) (is.fresh way opens changes created);
    window = λ way opens changes caught waits. is.window way opens changes caught waits;
  }

  -- ---- the one whose stream was

  abbrev later : Lane
  later = lane_advanced p w runner stream at at_most events rows

  own : later.shard ≡ runner.shard
  own = shard-advanced p w runner stream at at_most events rows

  position : position_in w runner stream ≡ at
  position = let r = running_slot (slot_of w runner stream) at runs in sym (slot_position w runner stream r.0 r.1) ∙ r.2

  shard_is : (b : Bool) → read_side w stream ≡ side_by w b → shard_by runner b ≡ read_shard runner stream
  shard_is b e = by stream b e
    where
      by : (s : StreamName) (b : Bool) → read_side w s ≡ side_by w b → shard_by runner b ≡ read_shard runner s
      by forward true e = absurd (apart e)
      by forward false e = refl
      by back true e = refl
      by back false e = absurd (apart (sym e))

  level_read : Level p w runner (read_side w stream) (read_shard runner stream) at → Level q w later (read_side w stream) (read_shard runner stream) (at + events)
  level_read level =
      let all : length (lane_writes q w later) ≡ length (lane_writes p w runner) = ap length (lane_writes_same p w w runner later (sides_same w) own) in
      let le = read-le p w runner runner.fed (read_side w stream) (read_shard runner stream) at events level.0 level.1 in (
        omega arith,
        pending_same q w w runner later (sides_same w) own _ later.fed refl (read_side w stream) (read_shard runner stream) (at + events)
            (pending_own p w runner stream shard (read_side w stream) (read_shard runner stream) at at_most events rows runner.fed written_elsewhere level.1),
      )

  level_by : (b : Bool) (n m : ℕ) → read_side w stream ≡ side_by w b → n ≡ at → m ≡ at + events → LevelAt p w runner b n → LevelAt q w later b m
  level_by b n m reads_it from to level =
      let here : Level p w runner (read_side w stream) (read_shard runner stream) at =
      subst (λ k. Level p w runner k (read_shard runner stream) at) (sym reads_it) (subst (λ h. Level p w runner (side_by w b) h at) (shard_is b reads_it) (subst (LevelAt p w runner b) from level)) in
      let there : Level q w later (side_by w b) (shard_by runner b) m =
      subst (λ k. Level q w later k (shard_by runner b) m) reads_it (subst (λ h. Level q w later (read_side w stream) h m) (sym (shard_is b reads_it)) (subst (Level q w later (read_side w stream) (read_shard runner stream)) (sym to) (level_read here))) in
      subst (λ h. Level q w later (side_by w b) h m) (sym (shards b)) there
    where
      shards : (c : Bool) → shard_by later c ≡ shard_by runner c
      shards true = own
      shards false = refl

  -- the lane with the stream's position, by whether the stream is the one that the way has made
  abbrev after_it : StreamName → Bool → Lane
  after_it s t = record (with_position runner s t (at + events)) { fed = later.fed; copied = later.copied }

  rest_moves : (b : Bool) → read_side w stream ≡ side_by w b → is_fresh w.way stream ≡ false → (at_by runner b ≡ at) × (at_by later b ≡ at + events)
  rest_moves b reads_it old = by stream b reads_it (is_fresh w.way stream) old position
    where
      by : (s : StreamName) (b : Bool) → read_side w s ≡ side_by w b → (t : Bool) → t ≡ false → cond t runner.fresh_at (rest_at runner s) ≡ at → (at_by runner b ≡ at) × (at_by (after_it s t) b ≡ at + events)
      by s b e true f g = absurd (true≢false f)
      by forward false e false f g = (g, refl)
      by forward true e false f g = absurd (apart e)
      by back false e false f g = absurd (apart (sym e))
      by back true e false f g = (g, refl)

  fresh_moves : is_fresh w.way stream ≡ true → (runner.fresh_at ≡ at) × (later.fresh_at ≡ at + events)
  fresh_moves new = by stream (is_fresh w.way stream) new position
    where
      by : (s : StreamName) (t : Bool) → t ≡ true → cond t runner.fresh_at (rest_at runner s) ≡ at → (runner.fresh_at ≡ at) × ((after_it s t).fresh_at ≡ at + events)
      by s true f g = (g, refl)
      by s false f g = absurd (true≢false (sym f))

  pub own_fed : IsFed p w runner → IsFed q w later
  own_fed is = record {
    rests = λ r.
        let b = w.switched.primary in
        let m = rest_moves b reads (ap (λ o. is_fresh o stream) r) in
        level_by b (at_by runner b) (at_by later b) reads m.0 m.1 (is.rests r);
    before = λ way opens guard.
        let b = way.before.primary in
        let m = rest_moves b (reads_before way opens guard) (not_fresh way opens guard) in
        level_by b (at_by runner b) (at_by later b) (reads_before way opens guard) m.0 m.1 (is.before way opens guard);
    fresh = λ way opens changes created.
        let m = fresh_moves (is_made way opens changes created) in
        level_by (not way.before.primary) runner.fresh_at later.fresh_at (reads_behind way opens changes created) m.0 m.1 (is.fresh way opens changes created);
    window = λ way opens changes caught waits.
        let a = is.window way opens changes caught (ap (stands_done_at way refresh_target) (sym own) ∙ waits) in
        let c : length (lane_writes q w later) ≡ length (lane_writes p w runner) = ap length (lane_writes_same p w w runner later (sides_same w) own) in
        omega arith;
  }

-- ---- any event

-- the other lanes of a workflow don't matter; nor does what of a state is neither numbers, writes nor logs
same_lane : (p : Plain) (w : Live) (lanes : List Lane) (lane : Lane) → IsFed p w lane → IsFed p (record w { lanes = lanes }) lane
same_lane p w lanes lane is = record { rests = is.rests; before = is.before; fresh = is.fresh; window = is.window }

same_rows : (p q : Plain) (w : Live) (lane : Lane) → q.numbers ≡ p.numbers → q.made ≡ p.made → q.writes ≡ p.writes → q.log ≡ p.log → IsFed p w lane → IsFed q w lane
same_rows p q w lane numbers made_too writes logs is =
    let a : IsFed (record p { numbers = p.numbers; made = p.made; writes = p.writes; log = p.log }) w lane = record { rests = is.rests; before = is.before; fresh = is.fresh; window = is.window } in
    let b = subst (λ l. IsFed (record p { numbers = p.numbers; made = p.made; writes = p.writes; log = l }) w lane) (sym logs) a in
    let c = subst (λ x. IsFed (record p { numbers = p.numbers; made = p.made; writes = x; log = q.log }) w lane) (sym writes) b in
    let d = subst (λ m. IsFed (record p { numbers = p.numbers; made = m; writes = q.writes; log = q.log }) w lane) (sym made_too) c in
    let e = subst (λ n. IsFed (record p { numbers = n; made = q.made; writes = q.writes; log = q.log }) w lane) (sym numbers) d in
    record { rests = e.rests; before = e.before; fresh = e.fresh; window = e.window }

module _ (p : Plain) (reached : IsReached p) (w : Live) (in_it : IsIn w p.lives) (event : Event) (answer : Answer) (given : Answers p event answer) (lives : ends_workflow w.name event answer ≡ false) where
  abbrev next_state : Plain
  next_state = next p event answer

  named : (name : List ℕ) → same_text w.name name ≡ true → live_at p name ≡ Some w
  named = live_by_name p (reached_has_parts p reached).apart w in_it

  numbered : IsNumbered w
  numbered = reached_numbered p reached w in_it

  -- an event that changes neither numbers, writes nor logs
  quiet : (x : Live) (lane : Lane) → ¬ (ChangesNumbers event) → ¬ (ChangesWrites event) → ¬ (ChangesLogs event) → IsFed p x lane → IsFed next_state x lane
  quiet x lane a b c is = same_rows p next_state x lane (same_numbers p event answer a) (same_made p event answer a) (same_writes p event answer b) (same_logs p event answer c) is

  -- an advance of another workflow reads none of its tables
  other_tables : (workflow : List ℕ) → same_text w.name workflow ≡ false → (u : Live) → live_at p workflow ≡ Some u → (table : List ℕ) → moves u table ≡ true → moves w table ≡ false
  other_tables workflow other u found table moved = by (moves w table) refl
    where
      by : (t : Bool) → moves w table ≡ t → moves w table ≡ false
      by false t = t
      by true t =
          let in_u = find_some (λ x. same_text x.name workflow) p.lives u found in
          let one = unique p.lives u w (reached_has_parts p reached).apart in_u.0 in_it (λ apart. apart.tables table moved t) in
          absurd (true≢false (sym (ap (λ x. same_text x.name workflow) (sym one) ∙ in_u.1) ∙ other))

-- the workflow as it is, in the state behind whatever event
module _ (p : Plain) (reached : IsReached p) (w : Live) (in_it : IsIn w p.lives) (lane : Lane) (of_it : IsIn lane w.lanes) (is : IsFed p w lane) where
  stays_other : (event : Event) (answer : Answer) → Answers p event answer → ends_workflow w.name event answer ≡ false → ¬ (IsAdvance event) → IsFed (next p event answer) w lane
  stays_other event answer given lives other =
      fed_other p reached w in_it lane of_it event answer given lives (λ workflow name shard to most e. absurd (other (subst IsAdvance (sym e) tt))) is

  stays_advance : (workflow : List ℕ) (stream : StreamName) (shard at at_most events rows : ℕ) → Answers p (advance workflow stream shard at at_most) (advanced events rows)
      → IsFed (next p (advance workflow stream shard at at_most) (advanced events rows)) w lane
  stays_advance workflow stream shard at at_most events rows given = by (same_text w.name workflow) refl
    where
      event : Event
      event = advance workflow stream shard at at_most

      here : same_text w.name workflow ≡ true → live_at p workflow ≡ Some w
      here t = live_by_name p (reached_has_parts p reached).apart w in_it workflow t

      runner : (o : Option Lane) → in_lane_at o (λ x. advance_at p w x stream at at_most (running_at (slot_of w x stream))) ≡ None → (x : Lane) × (advance_at p w x stream at at_most (running_at (slot_of w x stream)) ≡ None)
      runner None e = absurd cc
      runner (Some x) e = (x, e)

      by : (t : Bool) → same_text w.name workflow ≡ t → IsFed (with_advance p stream shard at at_most events rows (live_at p workflow)) w lane
      by true t =
          let r = runner (lane_at w shard) (at_it p workflow w (advance_refusal p stream shard at at_most) (here t) given.0) in
          subst (λ o. IsFed (with_advance p stream shard at at_most events rows o) w lane) (sym (here t))
          (beside_fed p reached w in_it workflow (here t) stream shard at at_most events rows r.0 (advance_runs p w r.0 stream at at_most (running_at (slot_of w r.0 stream)) r.1) lane is)
      by false t =
          fed_other p reached w in_it lane of_it event (advanced events rows) given refl
          (λ other_one name own to most e u found. other_tables p reached w in_it event (advanced events rows) given refl workflow t u (ap (live_at p) (is_it other_one e) ∙ found)) is
        where
          is_it : (other_one : List ℕ) {name : StreamName} {own to most : ℕ} → advance workflow stream shard at at_most ≡ advance other_one name own to most → workflow ≡ other_one
          is_it other_one e = cc

  stays : (event : Event) (answer : Answer) → Answers p event answer → ends_workflow w.name event answer ≡ false → IsFed (next p event answer) w lane
  stays (advance workflow stream shard at at_most) (advanced events rows) given lives = stays_advance workflow stream shard at at_most events rows given
  stays (advance workflow stream shard at at_most) done given lives = is
  stays (advance workflow stream shard at at_most) (row r) given lives = is
  stays (advance workflow stream shard at at_most) (shown s) given lives = is
  stays (advance workflow stream shard at at_most) (refused refusal) given lives = is
  stays event answer given lives = stays_other event answer given lives (λ h. h)

module _ (p : Plain) (reached : IsReached p) (w : Live) (in_it : IsIn w p.lives) (event : Event) (answer : Answer) (given : Answers p event answer) (lives : ends_workflow w.name event answer ≡ false) where
  begins_quiet : BeginsWay event → (¬ (ChangesNumbers event)) × (¬ (ChangesWrites event)) × (¬ (ChangesLogs event))
  begins_quiet = by event
    where
      by : (e : Event) → BeginsWay e → (¬ (ChangesNumbers e)) × (¬ (ChangesWrites e)) × (¬ (ChangesLogs e))
      by (begin_switch workflow types) b = (λ h. h, λ h. h, λ h. h)
      by (begin_reverse workflow types) b = (λ h. h, λ h. h, λ h. h)
      by e b = absurd b

  steps_quiet : IsStep event → (¬ (ChangesNumbers event)) × (¬ (ChangesWrites event)) × (¬ (ChangesLogs event))
  steps_quiet = by event
    where
      by : (e : Event) → IsStep e → (¬ (ChangesNumbers e)) × (¬ (ChangesWrites e)) × (¬ (ChangesLogs e))
      by (step workflow at) b = (λ h. h, λ h. h, λ h. h)
      by e b = absurd b

  undoes_quiet : Undoes event → (¬ (ChangesNumbers event)) × (¬ (ChangesWrites event)) × (¬ (ChangesLogs event))
  undoes_quiet = by event
    where
      by : (e : Event) → Undoes e → (¬ (ChangesNumbers e)) × (¬ (ChangesWrites e)) × (¬ (ChangesLogs e))
      by (undo workflow at) b = (λ h. h, λ h. h, λ h. h)
      by e b = absurd b

  quiet_by : (x : Live) (lane : Lane) → (¬ (ChangesNumbers event)) × (¬ (ChangesWrites event)) × (¬ (ChangesLogs event)) → IsFed p x lane → IsFed (next p event answer) x lane
  quiet_by x lane none is = quiet p reached w in_it event answer given lives x lane none.0 none.1 none.2 is

  -- a step that tests the level finds nothing left in the lane
  tested : (at : ℕ) (way : Way) → w.way ≡ Some way → step_refusal p at w ≡ None → (lane : Lane) → IsIn lane w.lanes → eqb (next_step way) catch_up ≡ true → length (lane_writes p w lane) ≤ lane.fed
  tested at way opens none lane of_it e =
      let here : live_at p w.name ≡ Some w = named p reached w in_it event answer given lives w.name ((same_text_decides w.name w.name).1 refl) in
      lane_level p w
      (level_if_taken p w.name w way here opens at (ap (λ b. b || (eqb (next_step way) 0 && will_read_other_side w way)) e) (ap (λ o. in_workflow o (step_refusal p at)) here ∙ none, refl)) lane of_it

  fed_kept : ¬ (IsAdvance event) → (lane : Lane) → IsIn lane w.lanes → IsFed p w lane → KeepsLane (IsFed (next p event answer)) p event w lane
  fed_kept other lane of_it is = record {
    same = stays p reached w in_it lane of_it is event answer given lives;
    switch = λ types begins none. quiet_by (with_way_to false (λ switched. types_and switched types) w) lane (begins_quiet begins) (begun_fed p w lane is (switch-none p types w none).0 false (λ switched. types_and switched types));
    reverse = λ types begins none. quiet_by (with_way_to true (λ switched. types_without switched types) w) lane (begins_quiet begins) (begun_fed p w lane is (reverse-none p types w none).0 true (λ switched. types_without switched types));
    steps = λ at way steps opens none. quiet_by (live_stepped p w way) (lane_stepped p w way lane) (steps_quiet steps)
        (stepped_fed p w way opens lane is (reached_turned p reached w in_it) (tested at way opens none lane of_it));
    undoes = λ at way undoes opens none. quiet_by (live_undone w way) lane (undoes_quiet undoes)
        (undone_fed p w way opens lane is ((reached_has_parts p reached).settled w in_it) (undo_before_journal at w way opens none));
    advances = λ adv workflow stream shard at at_most events rows live own none taken. absurd (other adv);
    beside = λ adv workflow stream shard at at_most events rows live x none. absurd (other adv);
  }

  other_fed : ¬ (IsAdvance event) → EachLane (IsFed p) w → EachLane (IsFed (next p event answer)) (live_next p event answer w)
  other_fed other is =
      next_has (EachLane (IsFed (next p event answer))) p w (named p reached w in_it event answer given lives) event answer
      (lanes_kept (IsFed (next p event answer)) p event w (numbered p reached w in_it event answer given lives) (λ lane i. fed_kept other lane i (is lane i))) given

module _ (p : Plain) (reached : IsReached p) (w : Live) (in_it : IsIn w p.lives) (is : EachLane (IsFed p) w) where
  advance_fed : (workflow : List ℕ) (stream : StreamName) (shard at at_most events rows : ℕ) → Answers p (advance workflow stream shard at at_most) (advanced events rows)
      → EachLane (IsFed (next p (advance workflow stream shard at at_most) (advanced events rows))) (live_next p (advance workflow stream shard at at_most) (advanced events rows) w)
  advance_fed workflow stream shard at at_most events rows given = by (same_text w.name workflow) refl
    where
      q : Plain
      q = next p (advance workflow stream shard at at_most) (advanced events rows)

      other_lanes : same_text w.name workflow ≡ false → EachLane (IsFed q) w
      other_lanes t lane i = stays p reached w in_it lane i (is lane i) (advance workflow stream shard at at_most) (advanced events rows) given refl

      own_lanes : live_at p workflow ≡ Some w → EachLane (IsFed (with_advance p stream shard at at_most events rows (Some w))) (live_advanced p w stream shard at at_most events rows)
      own_lanes live lane i =
          let r = in_map (λ x. cond (eqb x.shard shard) (lane_advanced p w x stream at at_most events rows) x) w.lanes lane i in
          let x = r.0 in
          subst (IsFed qs (live_advanced p w stream shard at at_most events rows)) r.2 (same_lane qs w (live_advanced p w stream shard at at_most events rows).lanes _ (by_shard r.0 r.1 (eqb x.shard shard) refl))
        where
          qs : Plain
          qs = with_advance p stream shard at at_most events rows (Some w)

          runner : (o : Option Lane) → lane_at w shard ≡ o → in_lane_at o (λ x. advance_at p w x stream at at_most (running_at (slot_of w x stream))) ≡ None → (x : Lane) × (lane_at w shard ≡ Some x) × (running_at (slot_of w x stream) ≡ Some at)
          runner None e none = absurd cc
          runner (Some x) e none = (x, e, advance_runs p w x stream at at_most (running_at (slot_of w x stream)) none)

          run : (x : Lane) × (lane_at w shard ≡ Some x) × (running_at (slot_of w x stream) ≡ Some at)
          run = runner (lane_at w shard) refl (at_it p workflow w (advance_refusal p stream shard at at_most) live given.0)

          by_shard : (x : Lane) → IsIn x w.lanes → (t : Bool) → eqb x.shard shard ≡ t → IsFed qs w (cond (eqb x.shard shard) (lane_advanced p w x stream at at_most events rows) x)
          by_shard x j true t =
              let found : lane_at w shard ≡ Some x = ap (lane_at w) (sym (eqb-true x.shard shard t)) ∙ lane_at_it w (reached_numbered p reached w in_it) x j in
              let one : Some run.0 ≡ Some x = sym run.1 ∙ found in
              let same : run.0 ≡ x = cc in
              let runs = subst (λ y. running_at (slot_of w y stream) ≡ Some at) same run.2 in
              subst (λ b. IsFed qs w (cond b (lane_advanced p w x stream at at_most events rows) x)) (sym t)
              (own_fed p reached w in_it workflow live stream shard at at_most events rows x runs (is x j))
          by_shard x j false t =
              subst (λ b. IsFed qs w (cond b (lane_advanced p w x stream at at_most events rows) x)) (sym t)
              (beside_fed p reached w in_it workflow live stream shard at at_most events rows run.0 run.2 x (is x j))

      by : (t : Bool) → same_text w.name workflow ≡ t → EachLane (IsFed (with_advance p stream shard at at_most events rows (live_at p workflow))) (cond t (live_advanced p w stream shard at at_most events rows) w)
      by true t =
          let live = live_by_name p (reached_has_parts p reached).apart w in_it workflow t in
          subst (λ o. EachLane (IsFed (with_advance p stream shard at at_most events rows o)) (live_advanced p w stream shard at at_most events rows)) (sym live) (own_lanes live)
      by false t = other_lanes t

  next_fed : (event : Event) (answer : Answer) → Answers p event answer → ends_workflow w.name event answer ≡ false → EachLane (IsFed (next p event answer)) (live_next p event answer w)
  next_fed (advance workflow stream shard at at_most) (advanced events rows) given lives = advance_fed workflow stream shard at at_most events rows given
  next_fed (advance workflow stream shard at at_most) done given lives = is
  next_fed (advance workflow stream shard at at_most) (row r) given lives = is
  next_fed (advance workflow stream shard at at_most) (shown s) given lives = is
  next_fed (advance workflow stream shard at at_most) (refused refusal) given lives = is
  next_fed event answer given lives = other_fed p reached w in_it event answer given lives (λ h. h) is

-- ---- the workflow that Create makes

new_fed : (p : Plain) (event : Event) (answer : Answer) (name source target : List ℕ) (named tables : List (List ℕ)) → event ≡ create name source target named → EachLane (IsFed (next p event answer)) (made_live p name source target tables)
new_fed p event answer name source target named tables e lane i =
    same_rows p (next p event answer) w lane (same_numbers p event answer (λ h. subst ChangesNumbers e h)) (same_made p event answer (λ h. subst ChangesNumbers e h)) (same_writes p event answer (λ h. subst ChangesWrites e h)) (same_logs p event answer (λ h. subst ChangesLogs e h))
    (subst (IsFed p w) r.2 (subst (λ x. IsFed p w (lane_fed p old x)) s.2 (first s.0)))
  where
    cuts : Cuts
    cuts = cuts_of p target

    old : Live
    old = created name source target tables cuts (log_length p source 0)

    w : Live
    w = made_live p name source target tables

    r : (x : Lane) × IsIn x old.lanes × (lane_fed p old x ≡ lane)
    r = in_map (lane_fed p old) old.lanes lane i

    s : (n : ℕ) × IsIn n (range_with_len 0 (shard_count cuts)) × (new_lane (log_length p source 0) n ≡ r.0)
    s = in_map (new_lane (log_length p source 0)) (range_with_len 0 (shard_count cuts)) r.0 r.1

    first : (n : ℕ) → IsFed p w (lane_fed p old (new_lane (log_length p source 0) n))
    first n = record {
      rests = λ t. (omega arith, pending_end p w (lane_fed p old (new_lane (log_length p source 0) n)) (length (lane_writes p old (new_lane (log_length p source 0) n))) source 0 (omega arith));
      before = λ way opens. absurd cc;
      fresh = λ way opens. absurd cc;
      window = λ way opens. absurd cc;
    }

-- ---- each state that a run reaches

all_next : (p : Plain) (event : Event) (answer : Answer) → IsReached p → Answers p event answer → ((w : Live) → IsIn w p.lives → EachLane (IsFed p) w) → (w : Live) → IsIn w (next p event answer).lives → EachLane (IsFed (next p event answer)) w
all_next p event answer reached given all w in_it =
    each_next Stays p event answer
    (λ x i lives. next_fed p reached x i (all x i) event answer given (subst (λ n. ends_workflow n event answer ≡ false) (sym (sides-next p event answer x).name) lives))
    (λ name source target tables e lives. new_fed p event answer name source target tables (each_once tables) e) w in_it (not_ended p event answer w in_it)
  where
    Stays : Live → Type 0
    Stays x = ends_workflow x.name event answer ≡ false → EachLane (IsFed (next p event answer)) x

abbrev AllFed : Plain → Type 0
AllFed p = IsReached p × ((w : Live) → IsIn w p.lives → EachLane (IsFed p) w)

pub reached_fed : (p : Plain) → IsReached p → (w : Live) → IsIn w p.lives → EachLane (IsFed p) w
reached_fed p reached =
    (reached_keeps AllFed
    (λ scopes. (record { scopes = scopes; events = []; answers = []; run = tt; is = refl }, λ w is. absurd is))
    (λ p event answer has given all. (reached_next p event answer all.0 given, all_next p event answer all.0 given all.1)) p reached).1
