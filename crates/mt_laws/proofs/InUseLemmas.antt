-- A stream that isn't frozen goes on from where it stood, or begins at the end of its log.
use Rattle.std.specs.List.{range_with_len}
use Rattle.std.proofs.Common.{◌≡◌, ◌≢◌, ℕ, ◌≤◌, Bool, true, false, not, cond, eqb, List, Option, None, Some, map, option_map, refl, sym, ap, ◌∙◌, subst, arith, eqb-true}
use Rattle.std.proofs.lemmas.Bool.{true≢false}
use Rattle.std.specs.Option.{option_map_or}
use Rattle.mt_names.specs.Shards.{shard_count}
use Rattle.mt_names.specs.declared.types.TypeSet.{TypeSet}
use Rattle.mt_names.specs.Names.{same_text}
use Rattle.mt_names.proofs.SameLemmas.{same_text_decides}
use Rattle.mt_plain.specs.Answers.{Answers}
use Rattle.mt_plain.specs.Events.{Event, begin_switch, begin_reverse, StreamName, forward, back, StreamState, running, stopped, frozen, Slot, Answer, Way, advance}
use Rattle.mt_plain.specs.Next.{live_stepped, live_undone, next, types_and, types_without, with_way_to, lane_stepped, created, lane_fed, new_lane}
use Rattle.mt_plain.specs.Plain.{Live, Plain, before_way, behind_last, changes_primary, create_back, each_once, freeze_old, live_at, next_step, stands_done, start_back, stop_feeding, write_journal, last_step, Lane, lane_at, cuts_of}
use Rattle.mt_plain.specs.Refuse.{new_owner}
use Rattle.mt_plain.specs.Slots.{is_feeding, live_advanced, log_length, read_side, slot_at_rest, slot_before_way, slot_by_way, slot_of, read_shard, lane_advanced}
use Rattle.mt_laws.specs.Copies.{Undoes}
use Rattle.mt_laws.specs.Changes.{HasSides}
use Rattle.mt_laws.specs.Effects.{feeding_stepped, in_state, other_stepped}
use Rattle.mt_laws.specs.InUse.{StreamGoesOn, from_before, from_the_end}
use Rattle.mt_laws.specs.Reached.{IsOnCourse}
use Rattle.mt_laws.specs.WayBack.{IsReached}
use Rattle.mt_laws.proofs.LaneLemmas.{EachLane, IsNumbered, KeepsLane, lane_at_it, lane_found, lanes_kept, reached_numbered, shard-advanced, shard-stepped, in_map}
use Rattle.mt_laws.proofs.ChangeLemmas.{live_next, made_live, sides-next}
use Rattle.mt_laws.proofs.CourseLemmas.{on_course, will}
use Rattle.mt_laws.proofs.InPlaceLemmas.{listed_live}
use Rattle.mt_laws.proofs.KeepLemmas.{Keeps, next_has}
use Rattle.mt_laws.proofs.LiveLemmas.{IsIn, find_some}
use Rattle.mt_laws.proofs.PlainWords.{side_by}
use Rattle.mt_laws.proofs.PositionLemmas.{IsFurther, further_kept, reached_within, read_side-same, slot_position, position_in}
use Rattle.mt_laws.proofs.ReachLemmas.{each_next, live_by_name, reached_has_parts}
use Rattle.mt_laws.proofs.RefusalLemmas.{reverse-none, switch-none}
use Rattle.mt_laws.proofs.StepUndoneLemmas.{nothing_done, state_before, state_by, state_first, state_of_open, state_of_slot}
use Rattle.mt_laws.proofs.StreamEffectLemmas.{slot-stepped, slot-undone}
use Rattle.mt_laws.proofs.StreamLemmas.{read_by_other, reached_turned}
use Rattle.mt_laws.proofs.WayLemmas.{undo_before_journal}
use Rattle.mt_laws.proofs.WayStepLemmas.{done_by, last-le}

-- where a stream comes from, by the workflow before the event
data ComesOf (p : Plain) (w : Live) (lane : Lane) (stream : StreamName) (b : Slot) : Type 0 where
  stood : (a : Slot) → slot_of w lane stream ≡ Some a → a.state ≢ frozen → a.position ≤ b.position → ComesOf p w lane stream b
  made_anew : log_length p (read_side w stream) (read_shard lane stream) ≤ b.position → ComesOf p w lane stream b

-- a lane of the workflow behind it, whose number is that of the lane before
abbrev UseGoesOn : Plain → Live → Lane → Live → Lane → Type 0
UseGoesOn p w lane v later = (stream : StreamName) (b : Slot) → slot_of v later stream ≡ Some b → b.state ≢ frozen → ComesOf p w lane stream b

-- ---- where the states stay, and no position falls

module _ (p : Plain) (w : Live) (lane : Lane) (v : Live) (later : Lane) where
  goes_on_alike : ((stream : StreamName) → state_of_slot (slot_of v later stream) ≡ state_of_slot (slot_of w lane stream)) → ((stream : StreamName) → position_in w lane stream ≤ position_in v later stream) → UseGoesOn p w lane v later
  goes_on_alike states further stream b is used = by (slot_of w lane stream) refl
    where
      by : (o : Option Slot) → slot_of w lane stream ≡ o → ComesOf p w lane stream b
      by None none = let h : Some b.state ≡ None = sym (ap state_of_slot is) ∙ states stream ∙ ap state_of_slot none in absurd cc
      by (Some a) here =
          let h : Some b.state ≡ Some a.state = sym (ap state_of_slot is) ∙ states stream ∙ ap state_of_slot here in
          let same : b.state ≡ a.state = cc in
          let f = further stream in
          let g = slot_position w lane stream a here in
          let k = slot_position v later stream b is in
          stood a here (λ x. used (same ∙ x)) (omega arith)

  same_states : v.way ≡ w.way → v.switched ≡ w.switched → (stream : StreamName) → state_of_slot (slot_of v later stream) ≡ state_of_slot (slot_of w lane stream)
  same_states same_way same_switched stream = by w.way refl
    where
      same : before_way v ≡ before_way w
      same = ap (λ o. option_map_or (λ way. way.before) o v.switched) same_way ∙ ap (λ t. option_map_or (λ way. way.before) w.way t) same_switched

      by : (o : Option Way) → w.way ≡ o → state_of_slot (slot_of v later stream) ≡ state_of_slot (slot_of w lane stream)
      by None rests =
          ap (λ o. state_of_slot (slot_by_way v later o stream)) (same_way ∙ rests) ∙ state_before v w later lane stream same
          ∙ sym (ap (λ o. state_of_slot (slot_by_way w lane o stream)) rests)
      by (Some way) opens =
          state_of_open v way later stream (same_way ∙ opens)
          ∙ ap (state_by (changes_primary way) (is_feeding way stream) (stands_done way stop_feeding) (stands_done way create_back) (stands_done way start_back)) (state_before v w later lane stream same)
          ∙ sym (state_of_open w way lane stream opens)

-- a way that begins
begun_states : (w : Live) (backward : Bool) (change : TypeSet → TypeSet) → w.way ≡ None → (lane : Lane) (stream : StreamName)
    → state_of_slot (slot_of (with_way_to backward change w) lane stream) ≡ state_of_slot (slot_of w lane stream)
begun_states w backward change rests lane stream =
    state_of_open v way lane stream refl
    ∙ state_first way stream (state_of_slot (slot_before_way v lane stream)) (λ n. nothing_done way n refl)
    ∙ state_before v w lane lane stream (sym (ap (λ o. option_map_or (λ x. x.before) o w.switched) rests))
    ∙ sym (ap (λ o. state_of_slot (slot_by_way w lane o stream)) rests)
  where
    way : Way
    way = record { back = backward; shards = shard_count w.cuts; before = w.switched; after = change w.switched; done = 0; undoing = false }

    v : Live
    v = with_way_to backward change w

-- ---- which streams are in use on a way that changes writes

-- the feeding one runs before the way, the other one is frozen then, or there is none
feeding_rests : (lane : Lane) (way : Way) (b : Bool) (name : StreamName) → is_feeding (record way { back = b }) name ≡ true → state_of_slot (slot_at_rest lane b name) ≡ Some running
feeding_rests lane way true forward e = absurd (true≢false (sym e))
feeding_rests lane way false forward e = refl
feeding_rests lane way true back e = refl
feeding_rests lane way false back e = absurd (true≢false (sym e))

other_rests : (lane : Lane) (way : Way) (b : Bool) (name : StreamName) → is_feeding (record way { back = b }) name ≡ false → (s : Slot) → slot_at_rest lane b name ≡ Some s → s.state ≡ frozen
other_rests lane way true forward e s is = cc
other_rests lane way false forward e s is = absurd (true≢false e)
other_rests lane way true back e s is = absurd (true≢false e)
other_rests lane way false back e s is = absurd cc

runs_or_stops : (s : StreamState) (t : Bool) → Some s ≡ Some (cond t running stopped) → s ≢ frozen
runs_or_stops s true e = λ f. absurd cc
runs_or_stops s false e = λ f. absurd cc

stops_or_runs : (s : StreamState) (t : Bool) → Some s ≡ Some (cond t stopped running) → s ≢ frozen
stops_or_runs s true e = λ f. absurd cc
stops_or_runs s false e = λ f. absurd cc

module _ (w : Live) (way : Way) (lane : Lane) (opens : w.way ≡ Some way) (turned : way.before.primary ≡ way.back) (changes : changes_primary way ≡ true) (name : StreamName) where
  rested : slot_before_way w lane name ≡ slot_at_rest lane way.back name
  rested = ap (λ b. slot_at_rest lane b name) (ap (λ o. (option_map_or (λ x. x.before) o w.switched).primary) opens ∙ turned)

  state_is : (feeds : Bool) → is_feeding way name ≡ feeds
      → state_of_slot (slot_of w lane name) ≡ state_by true feeds (stands_done way stop_feeding) (stands_done way create_back) (stands_done way start_back) (state_of_slot (slot_at_rest lane way.back name))
  state_is feeds f =
      state_of_open w way lane name opens
      ∙ ap (λ c. state_by c (is_feeding way name) (stands_done way stop_feeding) (stands_done way create_back) (stands_done way start_back) (state_of_slot (slot_before_way w lane name))) changes
      ∙ ap (λ t. state_by true t (stands_done way stop_feeding) (stands_done way create_back) (stands_done way start_back) (state_of_slot (slot_before_way w lane name))) f
      ∙ ap (λ o. state_by true feeds (stands_done way stop_feeding) (stands_done way create_back) (stands_done way start_back) (state_of_slot o)) rested

  feeding_used : is_feeding way name ≡ true → (s : Slot) → slot_of w lane name ≡ Some s → s.state ≢ frozen
  feeding_used f s is =
      stops_or_runs s.state (stands_done way stop_feeding)
      (sym (ap state_of_slot is) ∙ state_is true f ∙ ap (option_map (λ x. cond (stands_done way stop_feeding) stopped x)) (feeding_rests lane way way.back name f))

  made_used : is_feeding way name ≡ false → stands_done way create_back ≡ true → (s : Slot) → slot_of w lane name ≡ Some s → s.state ≢ frozen
  made_used f made s is =
      runs_or_stops s.state (stands_done way start_back)
      (sym (ap state_of_slot is) ∙ state_is false f
      ∙ ap (λ t. cond t (Some (cond (stands_done way start_back) running stopped)) (state_of_slot (slot_at_rest lane way.back name))) made)

  unused_before : is_feeding way name ≡ false → (s : Slot) → slot_before_way w lane name ≡ Some s → s.state ≡ frozen
  unused_before f s is = other_rests lane way way.back name f s (sym rested ∙ is)

-- ---- a stream in another state

frozen_in : (o : Option Slot) (b : Slot) → in_state frozen o ≡ Some b → b.state ≡ frozen
frozen_in None b e = absurd cc
frozen_in (Some a) b e = let f : Some (record { state = frozen; position = a.position }) ≡ Some b = e in cc

module _ (p : Plain) (w : Live) (lane : Lane) (stream : StreamName) (b : Slot) where
  in_another : (state : StreamState) (o : Option Slot) → slot_of w lane stream ≡ o → in_state state o ≡ Some b → ((s : Slot) → slot_of w lane stream ≡ Some s → s.state ≢ frozen) → ComesOf p w lane stream b
  in_another state None is e each = absurd cc
  in_another state (Some a) is e each =
      let f : Some (record { state = state; position = a.position }) ≡ Some b = e in
      let same : a.position ≡ b.position = cc in
      stood a is (each a is) (omega arith)

  as_it_was : slot_of w lane stream ≡ Some b → b.state ≢ frozen → ComesOf p w lane stream b
  as_it_was is used = stood b is used (omega arith)

-- ---- a step, and an undo

module _ (p : Plain) (reached : IsReached p) (w : Live) (in_it : IsIn w p.lives) (way : Way) (opens : w.way ≡ Some way) where
  live : live_at p w.name ≡ Some w
  live = listed_live p reached w in_it

  course : IsOnCourse w way
  course = on_course p reached w.name w live way opens

  turned_if : changes_primary way ≡ true → way.before.primary ≡ way.back
  turned_if = reached_turned p reached w in_it way opens

  -- a way with more than one step changes writes
  changes_by : 1 ≤ next_step way → changes_primary way ≡ true
  changes_by le = by (changes_primary way) refl
    where
      by : (t : Bool) → changes_primary way ≡ t → changes_primary way ≡ true
      by true t = t
      by false t =
          let last : behind_last way ≡ 1 = ap (λ c. cond c 12 1) t in
          let lt = course.within in
          absurd (omega arith)

  module _ (lane : Lane) (stream : StreamName) (b : Slot) (used : b.state ≢ frozen) where
    abbrev slot : Option Slot
    slot = slot_of w lane stream

    abbrev log_end : ℕ
    log_end = log_length p (new_owner w) (cond (before_way w).primary 0 lane.shard)

    feeding_in_use : 1 ≤ next_step way → is_feeding way stream ≡ true → (s : Slot) → slot_of w lane stream ≡ Some s → s.state ≢ frozen
    feeding_in_use le = let changes = changes_by le in feeding_used w way lane opens (turned_if changes) changes stream

    feeding_on_step : is_feeding way stream ≡ true → (stops freezes backward : Bool) → eqb (next_step way) stop_feeding ≡ stops
        → cond stops (in_state stopped slot) (cond freezes (cond backward None (in_state frozen slot)) slot) ≡ Some b → ComesOf p w lane stream b
    feeding_on_step f true freezes backward n e =
        let is : next_step way ≡ 4 = eqb-true (next_step way) 4 n in
        in_another p w lane stream b stopped (slot_of w lane stream) refl e (feeding_in_use (omega arith) f)
    feeding_on_step f false true true n e = absurd cc
    feeding_on_step f false true false n e = absurd (used (frozen_in (slot_of w lane stream) b e))
    feeding_on_step f false false backward n e = as_it_was p w lane stream b e used

    -- a stream that the way makes reads the shard of its lane at the target, and the only one at the source
    shard_of_new : is_feeding way stream ≡ false → changes_primary way ≡ true → read_shard lane stream ≡ cond (before_way w).primary 0 lane.shard
    shard_of_new f changes =
        by stream way.back f ∙ ap (λ t. cond t 0 lane.shard) (sym (ap (λ o. (option_map_or (λ x. x.before) o w.switched).primary) opens ∙ turned_if changes))
      where
        by : (name : StreamName) (t : Bool) → is_feeding (record way { back = t }) name ≡ false → read_shard lane name ≡ cond t 0 lane.shard
        by forward true e = refl
        by forward false e = absurd (true≢false e)
        by back true e = absurd (true≢false e)
        by back false e = refl

    other_on_step : is_feeding way stream ≡ false → (creates starts : Bool) → eqb (next_step way) create_back ≡ creates → eqb (next_step way) start_back ≡ starts
        → cond creates (Some (record { state = stopped; position = log_end })) (cond starts (in_state running slot) slot) ≡ Some b → ComesOf p w lane stream b
    other_on_step f true starts n m e =
        let is : next_step way ≡ 5 = eqb-true (next_step way) 5 n in
        let changes = changes_by (omega arith) in
        let reads : read_side w stream ≡ new_owner w =
        read_by_other w way stream f ∙ ap (λ t. side_by w (not t)) (sym (turned_if changes)) ∙ sym (will p reached w.name w live way opens changes) in
        let here : read_shard lane stream ≡ cond (before_way w).primary 0 lane.shard = shard_of_new f changes in
        let length_is : log_length p (read_side w stream) (read_shard lane stream) ≡ log_end = ap (λ k. log_length p k (read_shard lane stream)) reads ∙ ap (log_length p (new_owner w)) here in
        let at : log_end ≡ b.position = cc in
        made_anew (omega arith)
    other_on_step f false true n m e =
        let is : next_step way ≡ 10 = eqb-true (next_step way) 10 m in
        let changes = changes_by (omega arith) in
        in_another p w lane stream b running (slot_of w lane stream) refl e
        (made_used w way lane opens (turned_if changes) changes stream f (done_by way create_back 10 is (omega arith) (omega arith)))
    other_on_step f false false n m e = as_it_was p w lane stream b e used

    on_step : slot_of (live_stepped p w way) (lane_stepped p w way lane) stream ≡ Some b → ComesOf p w lane stream b
    on_step is = by (is_feeding way stream) refl (sym (slot-stepped p w way lane stream opens turned_if course.within) ∙ is)
      where
        by : (t : Bool) → is_feeding way stream ≡ t
            → cond t (feeding_stepped way.back (next_step way) (slot_of w lane stream)) (other_stepped (next_step way) log_end (slot_of w lane stream)) ≡ Some b → ComesOf p w lane stream b
        by true f e = feeding_on_step f (eqb (next_step way) stop_feeding) (eqb (next_step way) freeze_old) way.back refl e
        by false f e = other_on_step f (eqb (next_step way) create_back) (eqb (next_step way) start_back) refl refl e

    feeding_on_undo : is_feeding way stream ≡ true → (stops : Bool) → eqb (last_step way) stop_feeding ≡ stops → cond stops (in_state running slot) slot ≡ Some b → ComesOf p w lane stream b
    feeding_on_undo f true n e =
        let is : last_step way ≡ 4 = eqb-true (last_step way) 4 n in
        let le = last-le way in
        in_another p w lane stream b running (slot_of w lane stream) refl e (feeding_in_use (omega arith) f)
    feeding_on_undo f false n e = as_it_was p w lane stream b e used

    other_on_undo : is_feeding way stream ≡ false → (creates : Bool) → eqb (last_step way) create_back ≡ creates → cond creates (slot_before_way w lane stream) slot ≡ Some b → ComesOf p w lane stream b
    other_on_undo f true n e =
        let is : last_step way ≡ 5 = eqb-true (last_step way) 5 n in
        let le = last-le way in
        let changes = changes_by (omega arith) in
        absurd (used (unused_before w way lane opens (turned_if changes) changes stream f b e))
    other_on_undo f false n e = as_it_was p w lane stream b e used

    on_undo : stands_done way write_journal ≡ false → slot_of (live_undone w way) lane stream ≡ Some b → ComesOf p w lane stream b
    on_undo before is = by (is_feeding way stream) refl (sym (slot-undone w way lane stream opens (course.before before) turned_if course.within before) ∙ is)
      where
        by : (t : Bool) → is_feeding way stream ≡ t
            → cond t (cond (eqb (last_step way) stop_feeding) (in_state running (slot_of w lane stream)) (slot_of w lane stream)) (cond (eqb (last_step way) create_back) (slot_before_way w lane stream) (slot_of w lane stream)) ≡ Some b → ComesOf p w lane stream b
        by true f e = feeding_on_undo f (eqb (last_step way) stop_feeding) refl e
        by false f e = other_on_undo f (eqb (last_step way) create_back) refl e

-- ---- each event

-- the lane of the same number before the event goes on as this one
abbrev LaneGoesOn : Plain → Live → Live → Lane → Type 0
LaneGoesOn p w v later = (lane : Lane) × (lane_at w later.shard ≡ Some lane) × UseGoesOn p w lane v later

in_use_kept : (p : Plain) → IsReached p → (event : Event) (w : Live) → IsIn w p.lives → Keeps (EachLane (LaneGoesOn p w)) p event w
in_use_kept p reached event w in_it = lanes_kept (LaneGoesOn p w) p event w numbered each
  where
    numbered : IsNumbered w
    numbered = reached_numbered p reached w in_it

    same_lane : (lane : Lane) → IsIn lane w.lanes → (later : Lane) → later.shard ≡ lane.shard → lane_at w later.shard ≡ Some lane
    same_lane lane is later own = ap (lane_at w) own ∙ lane_at_it w numbered lane is

    each : (lane : Lane) → IsIn lane w.lanes → KeepsLane (LaneGoesOn p w) p event w lane
    each lane is = record {
      same = (lane, here, λ stream b e used. as_it_was p w lane stream b e used);
      switch = λ types begins none.
          let v = with_way_to false (λ switched. types_and switched types) w in (
            lane,
            here,
            goes_on_alike p w lane v lane (begun_states w false (λ switched. types_and switched types) (switch-none p types w none).0 lane)
                ((further (begin_switch w.name types) (λ h. h)).switch types tt none lane here),
          );
      reverse = λ types begins none.
          let v = with_way_to true (λ switched. types_without switched types) w in (
            lane,
            here,
            goes_on_alike p w lane v lane (begun_states w true (λ switched. types_without switched types) (reverse-none p types w none).0 lane)
                ((further (begin_reverse w.name types) (λ h. h)).reverse types tt none lane here),
          );
      steps = λ at way steps opens none.
          (lane, same_lane lane is (lane_stepped p w way lane) (shard-stepped p w way lane), λ stream b e used. on_step p reached w in_it way opens lane stream b used e);
      undoes = λ at way undoes opens none.
          (lane, here, λ stream b e used. on_undo p reached w in_it way opens lane stream b used (undo_before_journal at w way opens none) e);
      advances = λ adv workflow stream shard at at_most events rows live own none given.
          let later = lane_advanced p w lane stream at at_most events rows in
          let v = live_advanced p w stream shard at at_most events rows in (
            lane,
            same_lane lane is later (shard-advanced p w lane stream at at_most events rows),
            goes_on_alike p w lane v later (same_states p w lane v later refl refl)
                ((further (advance w.name stream shard at at_most) (λ h. h)).advances tt workflow stream shard at at_most events rows live own none given lane (same_lane lane is later (shard-advanced p w lane stream at at_most events rows))),
          );
      beside = λ adv workflow stream shard at at_most events rows live other none. (lane, here, λ name b e used. as_it_was p w lane name b e used);
    }
      where
        here : lane_at w lane.shard ≡ Some lane
        here = lane_at_it w numbered lane is

        further : (other : Event) → ¬ (Undoes other) → KeepsLane (IsFurther w) p other w lane
        further other none = further_kept p other w none (reached_turned p reached w in_it) numbered lane is (reached_within p reached w in_it lane is)

-- ---- each live workflow of the next state

module _ (p : Plain) (reached : IsReached p) (event : Event) (answer : Answer) (given : Answers p event answer) where
  abbrev AllGoOn : Live → Type 0
  AllGoOn v = (shard : ℕ) (lane : Lane) → lane_at v shard ≡ Some lane → (stream : StreamName) (b : Slot) → slot_of v lane stream ≡ Some b → b.state ≢ frozen → StreamGoesOn p v.name shard v lane stream b

  old_goes_on : (w : Live) → IsIn w p.lives → AllGoOn (live_next p event answer w)
  old_goes_on w in_it shard lane at_it stream b is used = by (was.2 stream b is used)
    where
      v : Live
      v = live_next p event answer w

      sides : HasSides w v
      sides = sides-next p event answer w

      by_name : (name : List ℕ) → same_text w.name name ≡ true → live_at p name ≡ Some w
      by_name = live_by_name p (reached_has_parts p reached).apart w in_it

      found : IsIn lane v.lanes × (lane.shard ≡ shard)
      found = lane_found v shard lane at_it

      was : LaneGoesOn p w v lane
      was = next_has (EachLane (LaneGoesOn p w)) p w by_name event answer (in_use_kept p reached event w in_it) given lane found.0

      reads : read_side w stream ≡ read_side v stream
      reads = read_side-same w v sides stream

      own : was.0.shard ≡ lane.shard
      own = (lane_found w lane.shard was.0 was.1).1

      shards : read_shard was.0 stream ≡ read_shard lane stream
      shards = by stream
        where
          by : (name : StreamName) → read_shard was.0 name ≡ read_shard lane name
          by forward = refl
          by back = own

      by : ComesOf p w was.0 stream b → StreamGoesOn p v.name shard v lane stream b
      by (stood a here used_before le) =
          from_before w was.0 a (by_name v.name ((same_text_decides w.name v.name).1 sides.name)) (ap (lane_at w) (sym found.1) ∙ was.1) here used_before reads le
      by (made_anew le) =
          from_the_end (subst (λ k. log_length p k (read_shard lane stream) ≤ b.position) reads (subst (λ k. log_length p (read_side w stream) k ≤ b.position) shards le))

  made_at_end : (name source target : List ℕ) (tables : List (List ℕ)) (lane : Lane) → IsIn lane (made_live p name source target tables).lanes → lane.forward_at ≡ log_length p source 0
  made_at_end name source target tables lane is =
      let cuts = cuts_of p target in
      let r = in_map (lane_fed p (created name source target tables cuts (log_length p source 0))) (map (new_lane (log_length p source 0)) (range_with_len 0 (shard_count cuts))) lane is in
      let s = in_map (new_lane (log_length p source 0)) (range_with_len 0 (shard_count cuts)) r.0 r.1 in
      sym (ap (λ (l : Lane). l.forward_at) r.2) ∙ sym (ap (λ (l : Lane). l.forward_at) s.2)

  made_goes_on : (name source target : List ℕ) (tables : List (List ℕ)) → AllGoOn (made_live p name source target tables)
  made_goes_on name source target tables shard lane at_it forward b is used =
      let first = made_at_end name source target tables lane (lane_found (made_live p name source target tables) shard lane at_it).0 in
      let at : lane.forward_at ≡ b.position = cc in
      from_the_end (omega arith)
  made_goes_on name source target tables shard lane at_it back b is used = absurd cc

  pub in_use_goes_on : (name : List ℕ) (v : Live) → live_at (next p event answer) name ≡ Some v → (shard : ℕ) (lane : Lane) → lane_at v shard ≡ Some lane → (stream : StreamName) (b : Slot) → slot_of v lane stream ≡ Some b → b.state ≢ frozen → StreamGoesOn p name shard v lane stream b
  in_use_goes_on name v now shard lane at_it stream b is used =
      let found = find_some (λ x. same_text x.name name) (next p event answer).lives v now in
      subst (λ n. StreamGoesOn p n shard v lane stream b) ((same_text_decides v.name name).0 found.1)
      (each_next AllGoOn p event answer old_goes_on (λ made source target tables e. made_goes_on made source target (each_once tables)) v found.0 shard lane at_it stream b is used)
