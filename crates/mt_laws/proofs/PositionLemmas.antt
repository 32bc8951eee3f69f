-- The positions of streams, and the logs that they read.
use Rattle.std.proofs.Common.{◌≡◌, ◌⊎◌, inl, inr, ℕ, suc, ◌+◌, ◌-◌, ◌≤◌, Bool, true, false, not, cond, eqb, ltb, List, [], ◌∷◌, map, take, length, Option, None, Some, option_map, refl, sym, ap, ◌∙◌, subst, arith, eqb-true, ltb-true}
use Rattle.std.proofs.lemmas.Bool.{true≢false, and_from, or_cases, and_parts, not-false, not-true}
use Rattle.std.proofs.lemmas.List.{length-drop, length-take}
use Rattle.std.proofs.lemmas.List.Sums.{length-filter}
use Rattle.std.proofs.Math.Nat.{min-le_right}
use Rattle.std.proofs.Math.Bool.{and-true}
use Rattle.std.specs.List.{list_any, range_with_len}
use Rattle.std.specs.Option.{option_map_or}
use Rattle.std.specs.Prelude.{◌&&◌, ◌||◌, slice_get}
use Rattle.mt_names.specs.Shards.{Cuts, shard_count}
use Rattle.mt_names.specs.declared.types.TypeSet.{TypeSet}
use Rattle.mt_names.specs.Names.{same_text}
use Rattle.mt_plain.specs.Answers.{Answers, IsCut, advanced_of, lane_advanced_of}
use Rattle.mt_plain.specs.Events.{Event, advance, StreamName, forward, back, Slot, StreamState, running, stopped, frozen, Answer, advanced, Way}
use Rattle.mt_plain.specs.Next.{closes, created, lane_closed, lane_fed, lane_made, lane_stepped, live_stepped, live_undone, new_lane, next, types_and, types_without, with_way_to}
use Rattle.mt_plain.specs.Plain.{Lane, Live, Plain, before_way, behind_last, cuts_of, each_once, lane_at, changes_primary, create_back, live_at, next_step, stands_done}
use Rattle.mt_plain.specs.Refuse.{advance_at, new_owner}
use Rattle.mt_plain.specs.Slots.{applies, is_entry_at, lane_advanced, live_advanced, running_by, is_feeding, is_fresh, log_length, log_of, may_be_cut, most_events, most_rows, past, read_shard, read_side, readable, room_in_log, running_at, slot_at_rest, slot_by_way, slot_of, with_position, written_shard, written_side}
use Rattle.mt_laws.specs.Changes.{HasSides}
use Rattle.mt_laws.specs.WayBack.{IsReached}
use Rattle.mt_laws.specs.Copies.{Undoes}
use Rattle.mt_laws.proofs.AllWritesLemmas.{reached_next}
use Rattle.mt_laws.proofs.RefusalLemmas.{reverse-none, switch-none}
use Rattle.mt_laws.proofs.ChangeLemmas.{live_after, live_next, lives_after, made_live, sides-next}
use Rattle.mt_laws.proofs.LaneLemmas.{EachLane, IsNumbered, KeepsLane, in_map, lane_at_it, lanes_kept, reached_numbered, shard-advanced, shard-stepped, lane_found}
use Rattle.mt_laws.proofs.CopyLemmas.{advance_runs}
use Rattle.mt_laws.proofs.KeepLemmas.{next_has}
use Rattle.mt_laws.proofs.LiveLemmas.{IsIn, find_some}
use Rattle.mt_laws.proofs.ReachLemmas.{live_by_name, reached_has_parts, each_next, reached_keeps}
use Rattle.mt_laws.proofs.StreamLemmas.{IsTurned, reached_turned}
use Rattle.mt_laws.proofs.LogLemmas.{logs_grow}
use Rattle.mt_laws.proofs.WayStepLemmas.{done_by, fewer, more, none_done, same_done, undone_by, was_done}

-- ---- the position of a slot

abbrev pub rest_at : Lane → StreamName → ℕ
rest_at lane forward = lane.forward_at
rest_at lane back = lane.back_at

abbrev pub position_in : Live → Lane → StreamName → ℕ
position_in w lane name = cond (is_fresh w.way name) lane.fresh_at (rest_at lane name)

rest_position : (lane : Lane) (t : Bool) (name : StreamName) (s : Slot) → slot_at_rest lane t name ≡ Some s → s.position ≡ rest_at lane name
rest_position lane t forward s e = cc
rest_position lane true back s e = cc
rest_position lane false back s e = absurd cc

feeding_position : (t : Bool) (o : Option Slot) (s : Slot) (n : ℕ) → option_map (λ (x : Slot). cond t (record x { state = stopped }) x) o ≡ Some s → ((x : Slot) → o ≡ Some x → x.position ≡ n) → s.position ≡ n
feeding_position t None s n e each = absurd cc
feeding_position true (Some x) s n e each = let f : Some (record x { state = stopped }) ≡ Some s = e in let one : record x { state = stopped } ≡ s = cc in ap (λ y. y.position) (sym one) ∙ each x refl
feeding_position false (Some x) s n e each = let f : Some x ≡ Some s = e in let one : x ≡ s = cc in ap (λ y. y.position) (sym one) ∙ each x refl

other_position : (made started : Bool) (fresh rest : ℕ) (o : Option Slot) (s : Slot) → cond made (Some (record { state = cond started running stopped; position = fresh })) o ≡ Some s → ((x : Slot) → o ≡ Some x → x.position ≡ rest) → s.position ≡ cond made fresh rest
other_position true started fresh rest o s e each = cc
other_position false started fresh rest o s e each = each s e

way_position : (lane : Lane) (name : StreamName) (s : Slot) (owned changes feeds made started halted : Bool)
    → cond (not changes) (slot_at_rest lane owned name) (cond feeds (option_map (λ (x : Slot). cond halted (record x { state = stopped }) x) (slot_at_rest lane owned name)) (cond made (Some (record { state = cond started running stopped; position = lane.fresh_at })) (slot_at_rest lane owned name))) ≡ Some s
    → s.position ≡ cond (changes && not feeds && made) lane.fresh_at (rest_at lane name)
way_position lane name s owned false feeds made started halted e = rest_position lane owned name s e
way_position lane name s owned true true made started halted e =
    feeding_position halted (slot_at_rest lane owned name) s (rest_at lane name) e (λ x f. rest_position lane owned name x f)
way_position lane name s owned true false made started halted e =
    other_position made started lane.fresh_at (rest_at lane name) (slot_at_rest lane owned name) s e (λ x f. rest_position lane owned name x f)

pub slot_position : (w : Live) (lane : Lane) (name : StreamName) (s : Slot) → slot_of w lane name ≡ Some s → s.position ≡ position_in w lane name
slot_position w lane name s e = by w.way refl
  where
    by : (o : Option Way) → w.way ≡ o → s.position ≡ position_in w lane name
    by None rests =
        rest_position lane (option_map_or (λ way. way.before) w.way w.switched).primary name s (sym (ap (λ o. slot_by_way w lane o name) rests) ∙ e)
        ∙ sym (ap (λ o. cond (is_fresh o name) lane.fresh_at (rest_at lane name)) rests)
    by (Some way) opens =
        way_position lane name s (option_map_or (λ v. v.before) w.way w.switched).primary (changes_primary way) (is_feeding way name) (stands_done way create_back) _ _ (sym (ap (λ o. slot_by_way w lane o name) opens) ∙ e)
        ∙ sym (ap (λ o. cond (is_fresh o name) lane.fresh_at (rest_at lane name)) opens)

-- ---- a step

-- the shard whose primary's log a stream reads, by the lane's own
abbrev pub shard_read : (own : ℕ) → StreamName → ℕ
shard_read own forward = 0
shard_read own back = own

pub shard_read-lane : (lane : Lane) (name : StreamName) → shard_read lane.shard name ≡ read_shard lane name
shard_read-lane lane forward = refl
shard_read-lane lane back = refl

data Moves (p : Plain) (w : Live) (lane : Lane) (v : Live) (later : Lane) (name : StreamName) : Type 0 where
  stays : position_in v later name ≡ position_in w lane name → (rest_at later name ≡ rest_at lane name) ⊎ (rest_at later name ≡ position_in w lane name) → Moves p w lane v later name
  renewed : position_in v later name ≡ log_length p (read_side w name) (shard_read lane.shard name) → rest_at later name ≡ rest_at lane name → Moves p w lane v later name

position_if : (v : Live) (lane : Lane) (name : StreamName) (t : Bool) → is_fresh v.way name ≡ t → position_in v lane name ≡ cond t lane.fresh_at (rest_at lane name)
position_if v lane name t e = ap (λ b. cond b lane.fresh_at (rest_at lane name)) e

rest_same : (a b : Lane) → b.forward_at ≡ a.forward_at → b.back_at ≡ a.back_at → (name : StreamName) → rest_at b name ≡ rest_at a name
rest_same a b e f forward = e
rest_same a b e f back = f

-- whether a way in a direction feeds by a stream
abbrev feeds_by : Bool → StreamName → Bool
feeds_by backward forward = not backward
feeds_by backward back = backward

feeds_by-way : (way : Way) (name : StreamName) → feeds_by way.back name ≡ is_feeding way name
feeds_by-way way forward = refl
feeds_by-way way back = refl

and-last : (a b c : Bool) → c ≡ false → (a && b && c) ≡ false
and-last true true c e = e
and-last true false c e = refl
and-last false b c e = refl

pub not_last : (b : Bool) (n : ℕ) → n ≡ 5 → eqb (suc n) (cond b 12 1) ≡ true → ⊥
not_last true n e f = let g = eqb-true (suc n) 12 f in omega arith
not_last false n e f = let g = eqb-true (suc n) 1 f in omega arith

module _ (p : Plain) (w : Live) (way : Way) (opens : w.way ≡ Some way) (turned : IsTurned w) (lane : Lane) (name : StreamName) where
  abbrev stepped : Bool → Bool → Lane
  stepped makes ends = cond makes (lane_made p w lane) (cond ends (lane_closed way lane) lane)

  was : position_in w lane name ≡ cond (is_fresh (Some way) name) lane.fresh_at (rest_at lane name)
  was = ap (λ o. cond (is_fresh o name) lane.fresh_at (rest_at lane name)) opens

  -- the stream that the way makes reads the new owner
  abbrev fresh_log : ℕ
  fresh_log = log_length p (new_owner w) (cond (before_way w).primary 0 lane.shard)

  reads_new_owner : is_fresh (Some (more way)) name ≡ true → log_length p (read_side w name) (shard_read lane.shard name) ≡ fresh_log
  reads_new_owner e = by name refl
    where
      all : ((changes_primary way && not (is_feeding way name)) ≡ true) × (stands_done (more way) create_back ≡ true)
      all = and_parts (changes_primary way && not (is_feeding way name)) (stands_done (more way) create_back) e

      changes : changes_primary way ≡ true
      changes = (and_parts (changes_primary way) (not (is_feeding way name)) all.0).0

      other : not (is_feeding way name) ≡ true
      other = (and_parts (changes_primary way) (not (is_feeding way name)) all.0).1

      fresh_is : fresh_log ≡ log_length p (cond way.back w.source w.target) (cond way.back 0 lane.shard)
      fresh_is =
          ap (λ o. log_length p (cond (option_map_or (λ v. v.before) o w.switched).primary w.source w.target) (cond (option_map_or (λ v. v.before) o w.switched).primary 0 lane.shard)) opens
          ∙ ap (λ b. log_length p (cond b w.source w.target) (cond b 0 lane.shard)) (turned way opens changes)

      by : (n : StreamName) → name ≡ n → log_length p (read_side w name) (shard_read lane.shard name) ≡ fresh_log
      by forward is =
          ap (λ m. log_length p (read_side w m) (shard_read lane.shard m)) is
          ∙ sym (ap (λ b. log_length p (cond b w.source w.target) (cond b 0 lane.shard)) (not-false way.back (not-true (not way.back) (sym (ap (λ m. not (is_feeding way m)) is) ∙ other)))) ∙ sym fresh_is
      by back is =
          ap (λ m. log_length p (read_side w m) (shard_read lane.shard m)) is
          ∙ sym (ap (λ b. log_length p (cond b w.source w.target) (cond b 0 lane.shard)) (not-true way.back (sym (ap (λ m. not (is_feeding way m)) is) ∙ other))) ∙ sym fresh_is

  -- a workflow behind a step, of which the way alone counts here
  abbrev behind : Bool → Live
  behind ends = record w { way = cond ends None (Some (more way)) }

  -- the step that makes it
  made_moves : next_step way ≡ 5 → (c : Bool) → closes way ≡ c → Moves p w lane (behind c) (lane_made p w lane) name
  made_moves here true c = absurd (not_last (changes_primary way) (next_step way) here c)
  made_moves here false c = by (is_fresh (Some (more way)) name) refl
    where
      v : Live
      v = behind false

      not_yet : is_fresh (Some way) name ≡ false
      not_yet = and-last (changes_primary way) (not (is_feeding way name)) (stands_done way create_back) (undone_by way create_back 5 here (omega arith))

      by : (t : Bool) → is_fresh (Some (more way)) name ≡ t → Moves p w lane v (lane_made p w lane) name
      by true t = renewed (position_if v (lane_made p w lane) name true t ∙ sym (reads_new_owner t)) (rest_same lane (lane_made p w lane) refl refl name)
      by false t =
          stays (position_if v (lane_made p w lane) name false t ∙ rest_same lane (lane_made p w lane) refl refl name ∙ sym (was ∙ ap (λ b. cond b lane.fresh_at (rest_at lane name)) not_yet)) (inl (rest_same lane (lane_made p w lane) refl refl name))

  -- each other step
  goes_on_moves : eqb (next_step way) create_back ≡ false → Moves p w lane (behind false) lane name
  goes_on_moves other =
      stays (ap (λ m. cond (changes_primary way && not (is_feeding way name) && m) lane.fresh_at (rest_at lane name)) (same_done way create_back other) ∙ sym was) (inl refl)

  made : closes way ≡ true → changes_primary way ≡ true → stands_done way create_back ≡ true
  made c changes =
      let e : suc (next_step way) ≡ 12 = eqb-true (suc (next_step way)) (behind_last way) c ∙ ap (λ b. cond b 12 1) changes in
      let is : next_step way ≡ 11 = omega arith in
      done_by way create_back 11 is (omega arith) (omega arith)

  closed_moves : closes way ≡ true → (t : Bool) → changes_primary way ≡ t → Moves p w lane (behind true) (cond t (lane_closed way lane) lane) name
  closed_moves c false t = stays (sym (was ∙ ap (λ b. cond (b && not (is_feeding way name) && stands_done way create_back) lane.fresh_at (rest_at lane name)) t)) (inl refl)
  closed_moves c true t = stays rest_closed (inr rest_closed)
    where
      by : (backward : Bool) (n : StreamName) → rest_at (cond backward (record lane { forward_at = lane.fresh_at }) (record lane { back_at = lane.fresh_at })) n ≡ cond (not (feeds_by backward n)) lane.fresh_at (rest_at lane n)
      by true forward = refl
      by true back = refl
      by false forward = refl
      by false back = refl

      rest_closed : rest_at (lane_closed way lane) name ≡ position_in w lane name
      rest_closed =
          by way.back name ∙ ap (λ f. cond (not f) lane.fresh_at (rest_at lane name)) (feeds_by-way way name)
          ∙ sym (was ∙ ap (λ b. cond (b && not (is_feeding way name) && stands_done way create_back) lane.fresh_at (rest_at lane name)) t
          ∙ ap (λ m. cond (not (is_feeding way name) && m) lane.fresh_at (rest_at lane name)) (made c t) ∙ ap (λ b. cond b lane.fresh_at (rest_at lane name)) (and-true (not (is_feeding way name))))

  other_moves : eqb (next_step way) create_back ≡ false → (c : Bool) → closes way ≡ c → (t : Bool) → changes_primary way ≡ t → Moves p w lane (behind c) (cond (c && t) (lane_closed way lane) lane) name
  other_moves other false c t e = goes_on_moves other
  other_moves other true c t e = closed_moves c t e

  step_moves : Moves p w lane (live_stepped p w way) (lane_stepped p w way lane) name
  step_moves = by (eqb (next_step way) create_back) refl
    where
      moved : (later : Lane) → Moves p w lane (behind (closes way)) later name → Moves p w lane (live_stepped p w way) later name
      moved later (stays e f) = stays e f
      moved later (renewed e f) = renewed e f

      by : (t : Bool) → eqb (next_step way) create_back ≡ t → Moves p w lane (live_stepped p w way) (cond t (lane_made p w lane) (cond (closes way && changes_primary way) (lane_closed way lane) lane)) name
      by true t = moved (lane_made p w lane) (made_moves (eqb-true (next_step way) 5 t) (closes way) refl)
      by false t = moved (cond (closes way && changes_primary way) (lane_closed way lane) lane) (other_moves t (closes way) refl (changes_primary way) refl)

-- ---- an undo

-- the position is that of the stream at rest, or as it was
undo_position : (w : Live) (way : Way) → w.way ≡ Some way → (lane : Lane) (name : StreamName) → (position_in (live_undone w way) lane name ≡ rest_at lane name) ⊎ (position_in (live_undone w way) lane name ≡ position_in w lane name)
undo_position w way opens lane name = by (eqb (way.done - 1) 0) refl
  where
    was_fresh : is_fresh (Some (fewer way)) name ≡ true → is_fresh (Some way) name ≡ true
    was_fresh f =
        let r = and_parts (changes_primary way && not (is_feeding way name)) (stands_done (fewer way) create_back) f in
        and_from (changes_primary way && not (is_feeding way name)) (stands_done way create_back) r.0 (was_done way create_back r.1)

    fresh_if : (c : Bool) → eqb (way.done - 1) 0 ≡ c → is_fresh (live_undone w way).way name ≡ is_fresh (cond c None (Some (fewer way))) name
    fresh_if c e = ap (λ b. is_fresh (cond b None (Some (fewer way))) name) e

    later : eqb (way.done - 1) 0 ≡ false → (t : Bool) → is_fresh (Some (fewer way)) name ≡ t → (position_in (live_undone w way) lane name ≡ rest_at lane name) ⊎ (position_in (live_undone w way) lane name ≡ position_in w lane name)
    later c true t = inr (position_if (live_undone w way) lane name true (fresh_if false c ∙ t) ∙ sym (ap (λ o. cond (is_fresh o name) lane.fresh_at (rest_at lane name)) opens ∙ ap (λ b. cond b lane.fresh_at (rest_at lane name)) (was_fresh t)))
    later c false t = inl (position_if (live_undone w way) lane name false (fresh_if false c ∙ t))

    by : (c : Bool) → eqb (way.done - 1) 0 ≡ c → (position_in (live_undone w way) lane name ≡ rest_at lane name) ⊎ (position_in (live_undone w way) lane name ≡ position_in w lane name)
    by true c = inl (position_if (live_undone w way) lane name false (fresh_if true c))
    by false c = later c (is_fresh (Some (fewer way)) name) refl

-- ---- a begin

begin_position : (w : Live) (backward : Bool) (change : TypeSet → TypeSet) (lane : Lane) (name : StreamName) → position_in (with_way_to backward change w) lane name ≡ rest_at lane name
begin_position w backward change lane name =
    position_if (with_way_to backward change w) lane name false
    (and-last (changes_primary way) (not (is_feeding way name)) (stands_done way create_back) (none_done way 4 refl))
  where
    way : Way
    way = record { back = backward; shards = shard_count w.cuts; before = w.switched; after = change w.switched; done = 0; undoing = false }

-- ---- an advance

data Read (w : Live) (lane later : Lane) (name : StreamName) (to : ℕ) : Type 0 where
  untouched : position_in w later name ≡ position_in w lane name → rest_at later name ≡ rest_at lane name → Read w lane later name to
  moved_to : position_in w later name ≡ to → (rest_at later name ≡ rest_at lane name) ⊎ (rest_at later name ≡ to) → Read w lane later name to

-- two streams are not both new
only_one : (o : Option Way) → is_fresh o forward ≡ true → is_fresh o back ≡ false
only_one None e = refl
only_one (Some way) e = by (changes_primary way) way.back (stands_done way create_back) e
  where
    by : (a b c : Bool) → (a && not (not b) && c) ≡ true → (a && not b && c) ≡ false
    by true true c f = refl
    by true false c f = absurd (true≢false (sym f))
    by false b c f = refl

only_other : (o : Option Way) → is_fresh o back ≡ true → is_fresh o forward ≡ false
only_other o e = by (is_fresh o forward) refl
  where
    by : (t : Bool) → is_fresh o forward ≡ t → is_fresh o forward ≡ false
    by true t = absurd (true≢false (sym e ∙ only_one o t))
    by false t = t

advance_reads : (p : Plain) (w : Live) (lane : Lane) (stream : StreamName) (at at_most events rows : ℕ) (name : StreamName)
    → ((name ≡ stream) × Read w lane (lane_advanced p w lane stream at at_most events rows) name (at + events)) ⊎ (position_in w (lane_advanced p w lane stream at at_most events rows) name ≡ position_in w lane name) × (rest_at (lane_advanced p w lane stream at at_most events rows) name ≡ rest_at lane name)
advance_reads p w lane stream at at_most events rows name = by stream (is_fresh w.way stream) refl name
  where
    to : ℕ
    to = at + events

    after_it : StreamName → Bool → Lane
    after_it s t = record (with_position lane s t to) { fed = (lane_advanced p w lane s at at_most events rows).fed; copied = (lane_advanced p w lane s at at_most events rows).copied }

    by : (s : StreamName) (t : Bool) → is_fresh w.way s ≡ t → (n : StreamName)
        → ((n ≡ s) × Read w lane (after_it s t) n to) ⊎ (position_in w (after_it s t) n ≡ position_in w lane n) × (rest_at (after_it s t) n ≡ rest_at lane n)
    by forward true t forward = inl (refl, moved_to (ap (λ b. cond b to lane.forward_at) t) (inl refl))
    by forward true t back = inr (ap (λ b. cond b to lane.back_at) (only_one w.way t) ∙ sym (ap (λ b. cond b lane.fresh_at lane.back_at) (only_one w.way t)), refl)
    by forward false t forward = inl (refl, moved_to (ap (λ b. cond b lane.fresh_at to) t) (inr refl))
    by forward false t back = inr (refl, refl)
    by back true t back = inl (refl, moved_to (ap (λ b. cond b to lane.back_at) t) (inl refl))
    by back true t forward = inr (ap (λ b. cond b to lane.forward_at) (only_other w.way t) ∙ sym (ap (λ b. cond b lane.fresh_at lane.forward_at) (only_other w.way t)), refl)
    by back false t back = inl (refl, moved_to (ap (λ b. cond b lane.fresh_at to) t) (inr refl))
    by back false t forward = inr (refl, refl)

readable-le : {E : Type 0} (test : E → Bool) (room : ℕ) (entries : List E) → readable test room entries ≤ length entries
readable-le test room [] = omega arith
readable-le test room (e ∷ es) = by (test e && eqb room 0) (readable-le test (cond (test e) (room - 1) room) es)
  where
    by : (t : Bool) → readable test (cond (test e) (room - 1) room) es ≤ length es → cond t 0 (suc (readable test (cond (test e) (room - 1) room) es)) ≤ length (e ∷ es)
    by true again = omega arith
    by false again = omega arith

-- an advance reads no more than is there
most_events-le : (p : Plain) (w : Live) (lane : Lane) (stream : StreamName) (at at_most : ℕ) → most_events p w lane stream at at_most ≤ log_length p (read_side w stream) (read_shard lane stream) - at
most_events-le p w lane stream at at_most =
    let entries = past p w lane stream at in
    let a = readable-le (applies w lane) (room_in_log p (written_side w stream) (written_shard lane stream)) (take at_most entries) in
    let b = length-take at_most entries in
    let c = min-le_right at_most (length entries) in
    let d : length entries ≡ length (log_of p (read_side w stream) (read_shard lane stream)) - at = length-drop at (log_of p (read_side w stream) (read_shard lane stream)) in
    let f : length (log_of p (read_side w stream) (read_shard lane stream)) ≡ log_length p (read_side w stream) (read_shard lane stream) = length-filter (is_entry_at (read_side w stream) (read_shard lane stream)) p.log in
    omega arith

cut-le : (events most : ℕ) (a b c d e : Bool) → (a && ltb events most && b && c || eqb events 0 && d && e) ≡ true → events ≤ most
cut-le events most a b c d e cut = by (or_cases (a && ltb events most && b && c) (eqb events 0 && d && e) cut)
  where
    by : ((a && ltb events most && b && c) ≡ true) ⊎ ((eqb events 0 && d && e) ≡ true) → events ≤ most
    by (inl f) = let lt = ltb-true events most (and_parts a (ltb events most) (and_parts (a && ltb events most) b (and_parts (a && ltb events most && b) c f).0).0).1 in omega arith
    by (inr f) = let is = eqb-true events 0 (and_parts (eqb events 0) d (and_parts (eqb events 0 && d) e f).0).0 in omega arith

advanced-le : (p : Plain) (workflow : List ℕ) (w : Live) (lane : Lane) (stream : StreamName) (shard at at_most events rows : ℕ) → live_at p workflow ≡ Some w → lane_at w shard ≡ Some lane → Answers p (advance workflow stream shard at at_most) (advanced events rows) → events ≤ most_events p w lane stream at at_most
advanced-le p workflow w lane stream shard at at_most events rows live found given = by given.1
  where
    by : (advanced events rows ≡ advanced_of p stream shard at at_most (live_at p workflow)) ⊎ IsCut p (advance workflow stream shard at at_most) events rows → events ≤ most_events p w lane stream at at_most
    by (inl is) =
        let e : advanced events rows ≡ advanced (most_events p w lane stream at at_most) (most_rows p w lane stream at at_most) = is ∙ ap (advanced_of p stream shard at at_most) live ∙ ap (lane_advanced_of p stream at at_most w) found in
        let same : events ≡ most_events p w lane stream at at_most = cc in
        omega arith
    by (inr cut) =
        let entries = past p w lane stream at in
        cut-le events (most_events p w lane stream at at_most) (eqb rows 0) (list_any (applies w lane) (take events entries)) (option_map_or (applies w lane) (slice_get entries events) false)
        (ltb 0 rows) (ltb rows (most_rows p w lane stream at at_most))
        (sym (ap (λ o. option_map_or (λ v. option_map_or (λ l. may_be_cut p v l stream at at_most events rows) (lane_at v shard) false) o false) live
        ∙ ap (λ o. option_map_or (λ l. may_be_cut p w l stream at at_most events rows) o false) found) ∙ cut)

pub running_slot : (o : Option Slot) (at : ℕ) → running_at o ≡ Some at → (s : Slot) × (o ≡ Some s) × (s.position ≡ at)
running_slot None at e = absurd cc
running_slot (Some s) at e = (s, refl, by s.state e)
  where
    by : (state : StreamState) → running_by state s.position ≡ Some at → s.position ≡ at
    by running f = cc
    by stopped f = absurd cc
    by frozen f = absurd cc

pub advance_at_position : (p : Plain) (w : Live) (lane : Lane) (stream : StreamName) (at at_most : ℕ) → advance_at p w lane stream at at_most (running_at (slot_of w lane stream)) ≡ None → position_in w lane stream ≡ at
advance_at_position p w lane stream at at_most none =
    let r = running_slot (slot_of w lane stream) at (advance_runs p w lane stream at at_most (running_at (slot_of w lane stream)) none) in
    sym (slot_position w lane stream r.0 r.1) ∙ r.2

-- ---- each position lies in its log

abbrev pub Within : (ℕ → StreamName → ℕ) → Live → Lane → Type 0
Within bound v lane = (name : StreamName) → (rest_at lane name ≤ bound lane.shard name) × (position_in v lane name ≤ bound lane.shard name)

abbrev pub logs_read : Plain → Live → ℕ → StreamName → ℕ
logs_read p w own name = log_length p (read_side w name) (shard_read own name)

within_kept : (p : Plain) (event : Event) (w : Live) (bound : ℕ → StreamName → ℕ) → ((own : ℕ) (name : StreamName) → logs_read p w own name ≤ bound own name) → IsTurned w → IsNumbered w
    → (lane : Lane) → IsIn lane w.lanes → Within (logs_read p w) w lane → KeepsLane (Within bound) p event w lane
within_kept p event w bound longer turned numbered lane is within = record {
  same = now;
  switch = λ types begins none name. begun false (λ switched. types_and switched types) name;
  reverse = λ types begins none name. begun true (λ switched. types_without switched types) name;
  steps = λ at way steps opens none. subst (λ h. (name : StreamName) → (rest_at (lane_stepped p w way lane) name ≤ bound h name) × (position_in (live_stepped p w way) (lane_stepped p w way lane) name ≤ bound h name)) (sym (shard-stepped p w way lane))
      (λ name. stepped_within way name (step_moves p w way opens turned lane name));
  undoes = λ at way undoes opens none name. let b0 = (now name).0 in (omega arith, undone way name (undo_position w way opens lane name));
  advances = λ adv workflow stream shard at at_most events rows live here none given.
      subst (λ h. (name : StreamName) → (rest_at (lane_advanced p w lane stream at at_most events rows) name ≤ bound h name) × (position_in w (lane_advanced p w lane stream at at_most events rows) name ≤ bound h name)) (sym (shard-advanced p w lane stream at at_most events rows))
      (λ name. read workflow stream shard at at_most events rows live here none given name (advance_reads p w lane stream at at_most events rows name));
  beside = λ adv workflow stream shard at at_most events rows live other none. now;
}
  where
    now : Within bound w lane
    now name = let l = longer lane.shard name in let b0 = (within name).0 in let b1 = (within name).1 in (omega arith, omega arith)

    begun : (backward : Bool) (change : TypeSet → TypeSet) (name : StreamName) → (rest_at lane name ≤ bound lane.shard name) × (position_in (with_way_to backward change w) lane name ≤ bound lane.shard name)
    begun backward change name =
        let e = begin_position w backward change lane name in
        let b0 = (now name).0 in
        (omega arith, omega arith)

    stepped_within : (way : Way) (name : StreamName) → Moves p w lane (live_stepped p w way) (lane_stepped p w way lane) name → (rest_at (lane_stepped p w way lane) name ≤ bound lane.shard name) × (position_in (live_stepped p w way) (lane_stepped p w way lane) name ≤ bound lane.shard name)
    stepped_within way name (stays e (inl f)) = let b0 = (now name).0 in let b1 = (now name).1 in (omega arith, omega arith)
    stepped_within way name (stays e (inr f)) = let b1 = (now name).1 in (omega arith, omega arith)
    stepped_within way name (renewed e f) = let b0 = (now name).0 in let l = longer lane.shard name in (omega arith, omega arith)

    undone : (way : Way) (name : StreamName) → (position_in (live_undone w way) lane name ≡ rest_at lane name) ⊎ (position_in (live_undone w way) lane name ≡ position_in w lane name) → position_in (live_undone w way) lane name ≤ bound lane.shard name
    undone way name (inl e) = let b0 = (now name).0 in omega arith
    undone way name (inr e) = let b1 = (now name).1 in omega arith

    read : (workflow : List ℕ) (stream : StreamName) (shard at at_most events rows : ℕ) → live_at p workflow ≡ Some w → lane.shard ≡ shard → advance_at p w lane stream at at_most (running_at (slot_of w lane stream)) ≡ None
        → Answers p (advance workflow stream shard at at_most) (advanced events rows) → (name : StreamName)
        → ((name ≡ stream) × Read w lane (lane_advanced p w lane stream at at_most events rows) name (at + events)) ⊎ (position_in w (lane_advanced p w lane stream at at_most events rows) name ≡ position_in w lane name) × (rest_at (lane_advanced p w lane stream at at_most events rows) name ≡ rest_at lane name)
        → (rest_at (lane_advanced p w lane stream at at_most events rows) name ≤ bound lane.shard name) × (position_in w (lane_advanced p w lane stream at at_most events rows) name ≤ bound lane.shard name)
    read workflow stream shard at at_most events rows live own none given name (inr same) =
        let e = same.0 in
        let f = same.1 in
        let b0 = (now name).0 in
        let b1 = (now name).1 in
        (omega arith, omega arith)
    read workflow stream shard at at_most events rows live own none given name (inl it) = here it.1
      where
        inside : at + events ≤ bound lane.shard name
        inside =
            let a = advanced-le p workflow w lane stream shard at at_most events rows live (ap (lane_at w) (sym own) ∙ lane_at_it w numbered lane is) given in
            let b = most_events-le p w lane stream at at_most in
            let c = advance_at_position p w lane stream at at_most none in
            let d = (within stream).1 in
            let l = longer lane.shard stream in
            let s = ap (log_length p (read_side w stream)) (shard_read-lane lane stream) in
            let at_it : at + events ≤ bound lane.shard stream = omega arith in
            subst (λ n. at + events ≤ bound lane.shard n) (sym it.0) at_it

        here : Read w lane (lane_advanced p w lane stream at at_most events rows) name (at + events) → (rest_at (lane_advanced p w lane stream at at_most events rows) name ≤ bound lane.shard name) × (position_in w (lane_advanced p w lane stream at at_most events rows) name ≤ bound lane.shard name)
        here (untouched e f) = let b0 = (now name).0 in let b1 = (now name).1 in (omega arith, omega arith)
        here (moved_to e (inl f)) = let b0 = (now name).0 in let i = inside in (omega arith, omega arith)
        here (moved_to e (inr f)) = let i = inside in (omega arith, omega arith)

-- ---- in each state that a run reaches

pub read_side-same : (w v : Live) → HasSides w v → (name : StreamName) → read_side w name ≡ read_side v name
read_side-same w v same forward = same.source
read_side-same w v same back = same.target

abbrev pub IsWithin : Plain → Live → Type 0
IsWithin p w = EachLane (Within (logs_read p w)) w

within_new : (p q : Plain) (name source target : List ℕ) (tables : List (List ℕ)) → log_length p source 0 ≤ log_length q source 0 → IsWithin q (made_live p name source target tables)
within_new p q name source target tables longer lane is =
    let r = in_map (lane_fed p (created name source target tables cuts (log_length p source 0))) (map (new_lane (log_length p source 0)) (range_with_len 0 (shard_count cuts))) lane is in
    let s = in_map (new_lane (log_length p source 0)) (range_with_len 0 (shard_count cuts)) r.0 r.1 in
    subst (Within bound w) r.2 (subst (λ x. Within bound w (lane_fed p (created name source target tables cuts (log_length p source 0)) x)) s.2 (by s.0))
  where
    cuts : Cuts
    cuts = cuts_of p target

    w : Live
    w = made_live p name source target tables

    bound : ℕ → StreamName → ℕ
    bound = logs_read q w

    by : (n : ℕ) → Within bound w (lane_fed p (created name source target tables cuts (log_length p source 0)) (new_lane (log_length p source 0) n))
    by n forward = (longer, longer)
    by n back = (omega arith, omega arith)

within_next : (p : Plain) → IsReached p → (event : Event) (answer : Answer) (w : Live) → IsIn w p.lives → Answers p event answer → IsWithin p w → IsWithin (next p event answer) (live_next p event answer w)
within_next p reached event answer w in_it given is lane i name =
    subst (λ k. (rest_at lane name ≤ log_length q k (shard_read lane.shard name)) × (position_in v lane name ≤ log_length q k (shard_read lane.shard name))) (read_side-same w v (sides-next p event answer w) name)
    (next_has (EachLane (Within bound)) p w (live_by_name p (reached_has_parts p reached).apart w in_it) event answer
    (lanes_kept (Within bound) p event w numbered (λ x j. within_kept p event w bound (λ own n. logs_grow p event answer (read_side w n) (shard_read own n)) (reached_turned p reached w in_it) numbered x j (is x j))) given lane i name)
  where
    q : Plain
    q = next p event answer

    v : Live
    v = live_next p event answer w

    numbered : IsNumbered w
    numbered = reached_numbered p reached w in_it

    bound : ℕ → StreamName → ℕ
    bound own name = log_length (next p event answer) (read_side w name) (shard_read own name)

abbrev AllWithin : Plain → Type 0
AllWithin p = IsReached p × ((w : Live) → IsIn w p.lives → IsWithin p w)

pub reached_within : (p : Plain) → IsReached p → (w : Live) → IsIn w p.lives → IsWithin p w
reached_within p reached =
    (reached_keeps AllWithin (λ scopes. (record { scopes = scopes; events = []; answers = []; run = tt; is = refl }, λ w is. absurd is))
    (λ p event answer has given all. (
      reached_next p event answer all.0 given,
      each_next (IsWithin (next p event answer)) p event answer
          (λ w is. within_next p all.0 event answer w is given (all.1 w is))
          (λ name source target tables e. within_new p (next p event answer) name source target (each_once tables) (logs_grow p event answer source 0)),
    )) p reached).1

pub position_within : (p : Plain) → IsReached p → (name : List ℕ) (w : Live) → live_at p name ≡ Some w → (shard : ℕ) (lane : Lane) → lane_at w shard ≡ Some lane → (stream : StreamName) (s : Slot) → slot_of w lane stream ≡ Some s → s.position ≤ log_length p (read_side w stream) (read_shard lane stream)
position_within p reached name w live shard lane found stream s e =
    let is = (find_some (λ v. same_text v.name name) p.lives w live).0 in
    let b = (reached_within p reached w is lane (lane_found w shard lane found).0 stream).1 in
    let f = slot_position w lane stream s e in
    let g = ap (log_length p (read_side w stream)) (shard_read-lane lane stream) in
    omega arith

-- ---- and none falls

abbrev pub IsFurther : Live → Live → Lane → Type 0
IsFurther w v later = (lane : Lane) → lane_at w later.shard ≡ Some lane → (name : StreamName) → position_in w lane name ≤ position_in v later name

pub further_kept : (p : Plain) (event : Event) (w : Live) → ¬ (Undoes event) → IsTurned w → IsNumbered w → (lane : Lane) → IsIn lane w.lanes → Within (logs_read p w) w lane → KeepsLane (IsFurther w) p event w lane
further_kept p event w other turned numbered lane is within = record {
  same = by w lane refl (λ name. omega arith);
  switch = λ types begins none. by (with_way_to false (λ switched. types_and switched types) w) lane refl (begun false (λ switched. types_and switched types) (switch-none p types w none).0);
  reverse = λ types begins none. by (with_way_to true (λ switched. types_without switched types) w) lane refl (begun true (λ switched. types_without switched types) (reverse-none p types w none).0);
  steps = λ at way steps opens none. by (live_stepped p w way) (lane_stepped p w way lane) (shard-stepped p w way lane) (λ name. stepped way name (step_moves p w way opens turned lane name));
  undoes = λ at way undoes opens none. absurd (other undoes);
  advances = λ adv workflow stream shard at at_most events rows live here none given.
      by (live_advanced p w stream shard at at_most events rows) (lane_advanced p w lane stream at at_most events rows) (shard-advanced p w lane stream at at_most events rows)
      (λ name. read stream at at_most events rows none name (advance_reads p w lane stream at at_most events rows name));
  beside = λ adv workflow stream shard at at_most events rows live other_lane none. by (live_advanced p w stream shard at at_most events rows) lane refl (λ name. omega arith);
}
  where
    by : (v : Live) (later : Lane) → later.shard ≡ lane.shard → ((name : StreamName) → position_in w lane name ≤ position_in v later name) → IsFurther w v later
    by v later own le x found name =
        let e : Some x ≡ Some lane = sym found ∙ ap (lane_at w) own ∙ lane_at_it w numbered lane is in
        let one : x ≡ lane = cc in
        subst (λ l. position_in w l name ≤ position_in v later name) (sym one) (le name)

    begun : (backward : Bool) (change : TypeSet → TypeSet) → w.way ≡ None → (name : StreamName) → position_in w lane name ≤ position_in (with_way_to backward change w) lane name
    begun backward change rests name =
        let e = begin_position w backward change lane name in
        let f : position_in w lane name ≡ rest_at lane name = ap (λ o. cond (is_fresh o name) lane.fresh_at (rest_at lane name)) rests in
        omega arith

    stepped : (way : Way) (name : StreamName) → Moves p w lane (live_stepped p w way) (lane_stepped p w way lane) name → position_in w lane name ≤ position_in (live_stepped p w way) (lane_stepped p w way lane) name
    stepped way name (stays e f) = omega arith
    stepped way name (renewed e f) = let b = (within name).1 in omega arith

    read : (stream : StreamName) (at at_most events rows : ℕ) → advance_at p w lane stream at at_most (running_at (slot_of w lane stream)) ≡ None → (name : StreamName)
        → ((name ≡ stream) × Read w lane (lane_advanced p w lane stream at at_most events rows) name (at + events)) ⊎ (position_in w (lane_advanced p w lane stream at at_most events rows) name ≡ position_in w lane name) × (rest_at (lane_advanced p w lane stream at at_most events rows) name ≡ rest_at lane name)
        → position_in w lane name ≤ position_in w (lane_advanced p w lane stream at at_most events rows) name
    read stream at at_most events rows none name (inr same) = let e = same.0 in omega arith
    read stream at at_most events rows none name (inl it) = here it.1
      where
        was : position_in w lane name ≡ at
        was = ap (position_in w lane) it.0 ∙ advance_at_position p w lane stream at at_most none

        here : Read w lane (lane_advanced p w lane stream at at_most events rows) name (at + events) → position_in w lane name ≤ position_in w (lane_advanced p w lane stream at at_most events rows) name
        here (untouched e f) = omega arith
        here (moved_to e f) = let g = was in omega arith

pub position_never_falls : (p : Plain) → IsReached p → (event : Event) (answer : Answer) → Answers p event answer → ¬ (Undoes event) → (name : List ℕ) (w v : Live)
    → live_at p name ≡ Some w → live_at (next p event answer) name ≡ Some v → (shard : ℕ) (lane later : Lane) → lane_at w shard ≡ Some lane → lane_at v shard ≡ Some later
    → (stream : StreamName) (a b : Slot) → slot_of w lane stream ≡ Some a → slot_of v later stream ≡ Some b → a.position ≤ b.position
position_never_falls p reached event answer given other name w v before now shard lane later found there stream a b e f =
    let is = live_after p (next p event answer) event answer (lives_after p event answer) name w v before now in
    let in_it = (find_some (λ x. same_text x.name name) p.lives w before).0 in
    let numbered = reached_numbered p reached w in_it in
    let each = next_has (EachLane (IsFurther w)) p w (live_by_name p (reached_has_parts p reached).apart w in_it) event answer
    (lanes_kept (IsFurther w) p event w numbered (λ x i. further_kept p event w other (reached_turned p reached w in_it) numbered x i (reached_within p reached w in_it x i))) given in
    let r = lane_found v shard later there in
    let l = subst (λ x. EachLane (IsFurther w) x) (sym is) each later r.0 lane (ap (lane_at w) r.1 ∙ found) stream in
    let g = slot_position w lane stream a e in
    let h = slot_position v later stream b f in
    omega arith
