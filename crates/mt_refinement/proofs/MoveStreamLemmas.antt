-- The streams of a workflow behind an advance of one: the other one of its lane stays, with its copied range, and so do all other lanes.
use Rattle.std.proofs.Common.{◌≡◌, ◌≢◌, inl, inr, ℕ, zero, suc, ◌+◌, ◌<◌, Bool, true, false, not, cond, eqb, List, [], ◌∷◌, map, Option, None, Some, option_map, is_some, refl, sym, ap, ◌∙◌, subst, arith}
use Rattle.std.proofs.lemmas.Bool.{eq-eqb, eqb-true, false_from_ne_true}
use Rattle.std.specs.List.{range_with_len}
use Rattle.std.specs.Prelude.{◌&&◌, ◌||◌, if◌then◌else◌, option_and_then, slice_get}
use Rattle.std.specs.Option.{option_map_or}
use Rattle.mt_names.specs.Shards.{KeyRange, shard_count}
use Rattle.mt_plain.specs.Answers.{range_at}
use Rattle.mt_plain.specs.Events.{StreamName, forward, back, running, stopped, Slot, Way}
use Rattle.mt_plain.specs.Plain.{Copied, Lane, Live, Plain, changes_primary, create_back, lane_at, live_at, stands_done, start_back}
use Rattle.mt_plain.specs.Slots.{feeding_slot, is_fresh, lane_advanced, live_advanced, slot_before_way, slot_by_way, slot_of, with_position}
use Rattle.mt_laws.specs.WayBack.{IsReached}
use Rattle.mt_laws.proofs.CopyLemmas.{reached_ended}
use Rattle.mt_laws.proofs.InPlaceLemmas.{live_in}
use Rattle.mt_laws.proofs.LaneLemmas.{IsNumbered, lane_at_it, lane_found, reached_numbered, shard-advanced}
use Rattle.mt_laws.proofs.LiveLemmas.{IsIn}
use Rattle.mt_stands.specs.Rows.{stream_of}
use Rattle.mt_stands.specs.Stands.{lane_state}
use Rattle.mt_stream.specs.Streams.{StreamValue}
use Rattle.mt_workflow.specs.Workflows.{LaneState, change_lane, lane_slot, ranges_in, with_lane_slot}

-- the other stream of a workflow
abbrev pub other_of : StreamName → StreamName
other_of forward = back
other_of back = forward

-- ---- the slot of the other stream stays

-- a slot by the tests of its way
abbrev slot_when : Live → Lane → Way → StreamName → (c f d : Bool) → Option Slot
slot_when w lane way name c f d =
    if not c then slot_before_way w lane name else if f then feeding_slot lane way (slot_before_way w lane name)
    else if d then Some (record { state = if stands_done way start_back then running else stopped; position = lane.fresh_at }) else slot_before_way w lane name

-- whether a way feeds by a stream, by its direction
abbrev feeds : Bool → StreamName → Bool
feeds t forward = not t
feeds t back = t

module _ (w : Live) (lane : Lane) (position fed : ℕ) (copied : Copied) where
  -- a lane whose stream of a name has another position
  abbrev gone : StreamName → Bool → Lane
  gone name b = record (with_position lane name b position) { fed = fed; copied = copied }

  rests : (name : StreamName) → slot_by_way w (gone name false) None (other_of name) ≡ slot_by_way w lane None (other_of name)
  rests forward = refl
  rests back = refl

  on_way : (way : Way) (name : StreamName) (c t d : Bool)
      → slot_when w (gone name (c && not (feeds t name) && d)) way (other_of name) c (feeds t (other_of name)) d ≡ slot_when w lane way (other_of name) c (feeds t (other_of name)) d
  on_way way forward false t d = refl
  on_way way forward true true true = refl
  on_way way forward true true false = refl
  on_way way forward true false true = refl
  on_way way forward true false false = refl
  on_way way back false t d = refl
  on_way way back true true true = refl
  on_way way back true true false = refl
  on_way way back true false true = refl
  on_way way back true false false = refl

  slot_stays : (name : StreamName) → slot_of w (gone name (is_fresh w.way name)) (other_of name) ≡ slot_of w lane (other_of name)
  slot_stays name = by name w.way
    where
      by : (n : StreamName) (o : Option Way) → slot_by_way w (gone n (is_fresh o n)) o (other_of n) ≡ slot_by_way w lane o (other_of n)
      by n None = rests n
      by forward (Some way) = on_way way forward (changes_primary way) way.back (stands_done way create_back)
      by back (Some way) = on_way way back (changes_primary way) way.back (stands_done way create_back)

-- ---- the copied range stays where there is a back stream

-- there is one only where a way is open, or primary is switched
back_there : (w : Live) (lane : Lane) (s : Slot) → slot_of w lane back ≡ Some s → (is_some w.way || (w.switched.primary || (w.switched.replica || w.switched.rdonly))) ≡ true
back_there w lane s found = by w.way refl
  where
    at_rest : (o : Option Way) → w.way ≡ o → (b : Bool) → cond b (Some (record { state = running; position = lane.back_at })) None ≡ Some s → (b || (w.switched.replica || w.switched.rdonly)) ≡ true
    at_rest o e true f = refl
    at_rest o e false f = absurd cc

    by : (o : Option Way) → w.way ≡ o → (is_some w.way || (w.switched.primary || (w.switched.replica || w.switched.rdonly))) ≡ true
    by (Some way) e = ap (λ o. is_some o || (w.switched.primary || (w.switched.replica || w.switched.rdonly))) e
    by None e =
        ap (λ o. is_some o || (w.switched.primary || (w.switched.replica || w.switched.rdonly))) e
        ∙ at_rest None e w.switched.primary
        (sym (ap (λ o. slot_by_way w lane o back) e
        ∙ ap (λ o. cond (option_map_or (λ (way : Way). way.before) o w.switched).primary (Some (record { state = running; position = lane.back_at })) None) e) ∙ found)

in_mapped : {X Y : Type 0} (f : X → Y) (xs : List X) (x : X) → IsIn x xs → IsIn (f x) (map f xs)
in_mapped f [] x is = absurd is
in_mapped f (y ∷ xs) x (inl same) = inl (ap f same)
in_mapped f (y ∷ xs) x (inr is) = inr (in_mapped f xs x is)

module _ (p q : Plain) (reached : IsReached p) (reached_q : IsReached q) (name : List ℕ) (live : Live) (is_live : live_at p name ≡ Some live) (n : ℕ) (lane : Lane) (laned : lane_at live n ≡ Some lane)
    (stream : StreamName) (at at_most events rows : ℕ) (now : live_at q name ≡ Some (live_advanced p live stream n at at_most events rows)) where
  abbrev adv : Live
  adv = live_advanced p live stream n at at_most events rows

  abbrev further : Lane → Lane
  further l = lane_advanced p live l stream at at_most events rows

  abbrev on : Lane
  on = further lane

  abbrev now_lane : Lane → Lane
  now_lane l = if eqb l.shard n then further l else l

  same_shard : on.shard ≡ lane.shard
  same_shard = shard-advanced p live lane stream at at_most events rows

  pub on_in : IsIn on adv.lanes
  on_in =
      let (is, number) = lane_found live n lane laned in
      subst (λ l. IsIn l adv.lanes) (ap (λ b. cond b on lane) (eq-eqb lane.shard n number)) (in_mapped now_lane live.lanes lane is)

  pub on_laned : lane_at adv n ≡ Some on
  on_laned =
      subst (λ m. lane_at adv m ≡ Some on) (same_shard ∙ (lane_found live n lane laned).1)
      (lane_at_it adv (reached_numbered q reached_q adv (live_in q name adv now)) on on_in)

  copied_same : (s : Slot) → slot_of live lane back ≡ Some s → on.copied ≡ lane.copied
  copied_same s found =
      let any = back_there live lane s found in
      reached_ended q reached_q adv (live_in q name adv now) on on_in any ∙ sym (reached_ended p reached live (live_in p name live is_live) lane (lane_found live n lane laned).0 any)

  same_stream : on.copied ≡ lane.copied → (s : Slot) → stream_of adv on s ≡ stream_of live lane s
  same_stream e s =
      ap (λ m. record { tables = live.tables; range = range_at live.cuts m; copied = on.copied; position = s.position; state = s.state }) same_shard
      ∙ ap (λ c. record { tables = live.tables; range = range_at live.cuts lane.shard; copied = c; position = s.position; state = s.state }) e

  -- the value of the other stream stays, where the one that advances is there
  pub other_stays : (slot : Slot) → slot_of live lane stream ≡ Some slot
      → option_map (stream_of adv on) (slot_of adv on (other_of stream)) ≡ option_map (stream_of live lane) (slot_of live lane (other_of stream))
  other_stays slot there =
      ap (option_map (stream_of adv on)) (slot_stays live lane (at + events) on.fed on.copied stream) ∙ by stream there (slot_of live lane (other_of stream)) refl
    where
      by : (m : StreamName) → slot_of live lane m ≡ Some slot → (o : Option Slot) → slot_of live lane (other_of m) ≡ o → option_map (stream_of adv on) o ≡ option_map (stream_of live lane) o
      by m is None e = refl
      by forward is (Some s) e = ap Some (same_stream (copied_same s e) s)
      by back is (Some s) e = ap Some (same_stream (copied_same slot is) s)

  -- ---- the lanes of a workflow, of which that of the shard has another stream

  -- lanes with the same range and the same streams
  alike : (r s : KeyRange) → r ≡ s → (f g : Option StreamValue) → f ≡ g → (b c : Option StreamValue) → b ≡ c
      → (let x : LaneState = record { range = r; forward = f; back = b } in x) ≡ (let x : LaneState = record { range = s; forward = g; back = c } in x)
  alike r s e0 f g e1 b c e2 = cc

  module _ (slot : Slot) (there : slot_of live lane stream ≡ Some slot) (after : StreamValue) (this : Some after ≡ option_map (stream_of adv on) (slot_of adv on stream)) where
    abbrev change : LaneState → LaneState
    change = with_lane_slot stream (Some after)

    here : change (lane_state live lane) ≡ lane_state adv on
    here = by stream this (other_stays slot there)
      where
        by : (m : StreamName) → Some after ≡ option_map (stream_of adv on) (slot_of adv on m)
            → option_map (stream_of adv on) (slot_of adv on (other_of m)) ≡ option_map (stream_of live lane) (slot_of live lane (other_of m)) → with_lane_slot m (Some after) (lane_state live lane) ≡ lane_state adv on
        by forward a b = alike _ _ (ap (range_at live.cuts) (sym same_shard)) _ _ a _ _ (sym b)
        by back a b = alike _ _ (ap (range_at live.cuts) (sym same_shard)) _ _ (sym b) _ _ a

    -- one of another number stays
    beside : (l : Lane) → l.shard ≢ n → lane_state adv (now_lane l) ≡ lane_state live l
    beside l other = ap (λ b. lane_state adv (cond b (further l) l)) (false_from_ne_true (eqb l.shard n) (λ t. other (eqb-true l.shard n t)))

    -- and one of this number has that stream
    that : (l : Lane) → l ≡ lane → change (lane_state live l) ≡ lane_state adv (now_lane l)
    that l same =
        subst (λ x. change (lane_state live x) ≡ lane_state adv (now_lane x)) (sym same)
        (here ∙ ap (λ b. lane_state adv (cond b on lane)) (sym (eq-eqb lane.shard n (lane_found live n lane laned).1)))

    stay : (a m : ℕ) (ls : List Lane) → map (λ l. l.shard) ls ≡ range_with_len a m → n < a → map (lane_state live) ls ≡ map (lane_state adv) (map now_lane ls)
    stay a m [] numbers past = refl
    stay a zero (x ∷ ls) numbers past = absurd cc
    stay a (suc m) (x ∷ ls) numbers past =
        let head : x.shard ≡ a = cc in
        let rest : map (λ l. l.shard) ls ≡ range_with_len (a + 1) m = cc in
        ap (λ s. s ∷ map (lane_state live) ls) (sym (beside x (λ e. omega (arith, e, head, past))))
        ∙ ap (λ ss. lane_state adv (now_lane x) ∷ ss) (stay (a + 1) m ls rest (omega (arith, past)))

    changed : (a m : ℕ) (ls : List Lane) → map (λ l. l.shard) ls ≡ range_with_len a m → ((l : Lane) → IsIn l ls → l.shard ≡ n → l ≡ lane) → (i : ℕ) → n ≡ a + i
        → change_lane i change (map (lane_state live) ls) ≡ map (lane_state adv) (map now_lane ls)
    changed a m [] numbers one i from = refl
    changed a zero (x ∷ ls) numbers one i from = absurd cc
    changed a (suc m) (x ∷ ls) numbers one zero from =
        let head : x.shard ≡ a = cc in
        let rest : map (λ l. l.shard) ls ≡ range_with_len (a + 1) m = cc in
        ap (λ s. s ∷ map (lane_state live) ls) (that x (one x (inl refl) (omega (arith, head, from))))
        ∙ ap (λ ss. lane_state adv (now_lane x) ∷ ss) (stay (a + 1) m ls rest (omega (arith, from)))
    changed a (suc m) (x ∷ ls) numbers one (suc i) from =
        let head : x.shard ≡ a = cc in
        let rest : map (λ l. l.shard) ls ≡ range_with_len (a + 1) m = cc in
        ap (λ s. s ∷ change_lane i change (map (lane_state live) ls)) (sym (beside x (λ e. omega (arith, e, head, from))))
        ∙ ap (λ ss. lane_state adv (now_lane x) ∷ ss) (changed (a + 1) m ls rest (λ l is. one l (inr is)) i (omega (arith, from)))

    numbered : IsNumbered live
    numbered = reached_numbered p reached live (live_in p name live is_live)

    only_one : (l : Lane) → IsIn l live.lanes → l.shard ≡ n → l ≡ lane
    only_one l is number = let e : Some l ≡ Some lane = sym (lane_at_it live numbered l is) ∙ ap (lane_at live) number ∙ laned in cc

    pub lanes_changed : change_lane n change (map (lane_state live) live.lanes) ≡ map (lane_state adv) adv.lanes
    lanes_changed = changed 0 (shard_count live.cuts) live.lanes numbered only_one n (omega arith)

-- ---- lanes in which a stream is set

pub ranges_stay : (name : StreamName) (stream : Option StreamValue) (n : ℕ) (lanes : List LaneState) → ranges_in (change_lane n (with_lane_slot name stream) lanes) ≡ ranges_in lanes
ranges_stay name stream n [] = refl
ranges_stay forward stream zero (lane ∷ lanes) = refl
ranges_stay back stream zero (lane ∷ lanes) = refl
ranges_stay name stream (suc n) (lane ∷ lanes) = ap (λ ranges. lane.range ∷ ranges) (ranges_stay name stream n lanes)

-- one that is there, set again, leaves all as it is
pub slot_again : (name : StreamName) (stream : StreamValue) (n : ℕ) (lanes : List LaneState) → option_and_then (lane_slot name) (slice_get lanes n) ≡ Some stream
    → change_lane n (with_lane_slot name (Some stream)) lanes ≡ lanes
slot_again name stream n [] e = refl
slot_again forward stream zero (lane ∷ lanes) e = ap (λ o. record lane { forward = o } ∷ lanes) (sym e)
slot_again back stream zero (lane ∷ lanes) e = ap (λ o. record lane { back = o } ∷ lanes) (sym e)
slot_again name stream (suc n) (lane ∷ lanes) e = ap (λ rest. lane ∷ rest) (slot_again name stream n lanes e)
