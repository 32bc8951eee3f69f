-- Lanes made one after another, and one of them changed.
use Rattle.std.proofs.Common.{◌≡◌, ℕ, zero, suc, ◌+◌, ◌<◌, ◌≤◌, List, [], ◌∷◌, ◌++◌, length, map, take, drop, get_or, set, Option, Some, slice_get, option_and_then, option_map, refl, sym, ap, arith, add-one, subst, ◌∙◌}
use Rattle.std.proofs.lemmas.List.{length-map, map-append, take_all, take_more}
use Rattle.std.proofs.lemmas.Option.{slice_get-get_or}
use Rattle.mt_names.specs.Shards.{AreCuts, Cuts, KeyRange, cuts_between, ranges_of, shard_count}
use Rattle.mt_names.proofs.RangeLemmas.{ranges-long}
use Rattle.mt_names.proofs.ShardLemmas.{count_ranges, cuts_between-ranges_from, few_ranges}
use Rattle.mt_plain.specs.Events.{StreamName, StreamState, forward, back}
use Rattle.mt_stream.specs.Streams.{StreamValue}
use Rattle.mt_workflow.specs.Workflows.{LaneState, WorkflowState, change_lane, cuts_in, in_state, lane_in_state, lane_slot, new_lane, ranges_in, with_lane_slot}

-- ---- how many there are

module _ (lanes : List LaneState) (covers : ranges_of (cuts_in lanes) ≡ ranges_in lanes) (are : AreCuts (cuts_in lanes)) where
  long : length (ranges_of (cuts_in lanes)) ≡ length lanes
  long = ap length covers ∙ length-map lanes (λ (lane : LaneState). lane.range)

  pub few_lanes : length lanes ≤ 8
  few_lanes = subst (λ n. n ≤ 8) long (few_ranges (cuts_in lanes) are)

  pub count_lanes : length lanes ≡ shard_count (cuts_in lanes)
  count_lanes = sym long ∙ count_ranges (cuts_in lanes) are

  pub some_lanes : 1 ≤ length lanes
  some_lanes = let some = sym (ranges-long [] (cuts_in lanes)) ∙ long in omega (arith, some)

-- ---- the lane of one shard

pub slot-at : (lanes : List LaneState) (n shard : ℕ) (lane : LaneState) (name : StreamName) → n ≡ shard → n < length lanes → lane ≡ get_or lanes n lane
    → option_and_then (lane_slot name) (slice_get lanes shard) ≡ lane_slot name lane
slot-at lanes n shard lane name at within is =
    ap (λ m. option_and_then (lane_slot name) (slice_get lanes m)) (sym at) ∙ ap (option_and_then (lane_slot name)) (slice_get-get_or lanes n lane within) ∙ ap (lane_slot name) (sym is)

set-at : (lanes : List LaneState) (n : ℕ) (new : LaneState) → n < length lanes → slice_get (set lanes n new) n ≡ Some new
set-at [] n new within = absurd (omega (arith, within))
set-at (lane ∷ lanes) zero new within = refl
set-at (lane ∷ lanes) (suc n) new within = set-at lanes n new (omega (arith, within))

pub slot-set : (lanes : List LaneState) (n shard : ℕ) (new : LaneState) (name : StreamName) → n ≡ shard → n < length lanes → option_and_then (lane_slot name) (slice_get (set lanes n new) shard) ≡ lane_slot name new
slot-set lanes n shard new name at within = ap (λ m. option_and_then (lane_slot name) (slice_get (set lanes n new) m)) (sym at) ∙ ap (option_and_then (lane_slot name)) (set-at lanes n new within)

module _ (change : LaneState → LaneState) where
  changed : (lanes : List LaneState) (n : ℕ) (new d : LaneState) → n < length lanes → new ≡ change (get_or lanes n d) → set lanes n new ≡ change_lane n change lanes
  changed [] n new d within is = absurd (omega (arith, within))
  changed (lane ∷ lanes) zero new d within is = ap (λ l. l ∷ lanes) is
  changed (lane ∷ lanes) (suc n) new d within is = ap (λ ls. lane ∷ ls) (changed lanes n new d (omega (arith, within)) is)

  unchanged : (lanes : List LaneState) (n : ℕ) → length lanes ≤ n → lanes ≡ change_lane n change lanes
  unchanged [] n past = refl
  unchanged (lane ∷ lanes) zero past = absurd (omega (arith, past))
  unchanged (lane ∷ lanes) (suc n) past = ap (λ ls. lane ∷ ls) (unchanged lanes n (omega (arith, past)))

  pub lane-changed : (v w : WorkflowState) (n shard : ℕ) (new lane : LaneState) → v ≡ w → n ≡ shard → n < length v.lanes → lane ≡ get_or v.lanes n lane → new ≡ change lane
      → record v { lanes = set v.lanes n new } ≡ record w { lanes = change_lane shard change w.lanes }
  lane-changed v w n shard new lane same at within is changes =
      ap {A = List LaneState} {B = WorkflowState} (λ lanes. record v { lanes = lanes }) (changed v.lanes n new lane within (changes ∙ ap change is) ∙ ap (λ m. change_lane m change v.lanes) at)
      ∙ ap {A = WorkflowState} {B = WorkflowState} (λ u. record u { lanes = change_lane shard change u.lanes }) same

  pub none-changed : (v w : WorkflowState) (n shard : ℕ) → v ≡ w → n ≡ shard → length v.lanes ≤ n → v ≡ record w { lanes = change_lane shard change w.lanes }
  none-changed v w n shard same at past =
      ap {A = List LaneState} {B = WorkflowState} (λ lanes. record v { lanes = lanes }) (unchanged v.lanes n past ∙ ap (λ m. change_lane m change v.lanes) at)
      ∙ ap {A = WorkflowState} {B = WorkflowState} (λ u. record u { lanes = change_lane shard change u.lanes }) same

-- another stream leaves the range
pub range-kept : (name : StreamName) (stream : Option StreamValue) (lane : LaneState) → (with_lane_slot name stream lane).range ≡ lane.range
range-kept forward stream lane = refl
range-kept back stream lane = refl

pub range-in_state : (name : StreamName) (state : StreamState) (lane : LaneState) → (lane_in_state name state lane).range ≡ lane.range
range-in_state name state lane = range-kept name (option_map (in_state state) (lane_slot name lane)) lane

-- ---- each lane in turn

module _ (change : LaneState → LaneState) where
  -- those before a place are changed
  abbrev pub so_far : (i : ℕ) → List LaneState → List LaneState
  so_far i lanes = map change (take i lanes) ++ drop i lanes

  step : (lanes : List LaneState) (i : ℕ) (d : LaneState) → i < length lanes → set (so_far i lanes) i (change (get_or (so_far i lanes) i d)) ≡ so_far (suc i) lanes
  step [] i d within = absurd (omega (arith, within))
  step (lane ∷ lanes) zero d within = refl
  step (lane ∷ lanes) (suc i) d within = ap (λ ls. change lane ∷ ls) (step lanes i d (omega (arith, within)))

  pub next-changed : (old now : List LaneState) (i : ℕ) (new d : LaneState) → i < length old → now ≡ so_far i old → new ≡ change (get_or now i d) → set now i new ≡ so_far (i + 1) old
  next-changed old now i new d within before is =
      ap (set now i) is ∙ ap (λ ls. set ls i (change (get_or ls i d))) before ∙ step old i d within ∙ ap (λ n. so_far n old) (sym (add-one i))

  pub all-changed : (lanes : List LaneState) (i : ℕ) → length lanes ≤ i → so_far i lanes ≡ map change lanes
  all-changed [] zero past = refl
  all-changed [] (suc i) past = refl
  all-changed (lane ∷ lanes) zero past = absurd (omega (arith, past))
  all-changed (lane ∷ lanes) (suc i) past = ap (λ ls. change lane ∷ ls) (all-changed lanes i (omega (arith, past)))

  pub lanes-changed : (v w : WorkflowState) (lanes : List LaneState) → v ≡ w → lanes ≡ map change v.lanes → record v { lanes = lanes } ≡ record w { lanes = map change w.lanes }
  lanes-changed v w lanes same are =
      ap {A = List LaneState} {B = WorkflowState} (λ ls. record v { lanes = ls }) are
      ∙ ap {A = WorkflowState} {B = WorkflowState} (λ u. record u { lanes = map change u.lanes }) same

  pub ranges-so_far : ((lane : LaneState) → (change lane).range ≡ lane.range) → (lanes : List LaneState) (i : ℕ) → ranges_in (so_far i lanes) ≡ ranges_in lanes
  ranges-so_far kept [] zero = refl
  ranges-so_far kept [] (suc i) = refl
  ranges-so_far kept (lane ∷ lanes) zero = refl
  ranges-so_far kept (lane ∷ lanes) (suc i) = λ j. kept lane j ∷ ranges-so_far kept lanes i j

-- ---- the lanes of a new workflow

module _ (tables : List (List ℕ)) (position : ℕ) (shards : List KeyRange) (i : ℕ) where
  pub next_lanes : (range : KeyRange) (lane : LaneState) (lanes : List LaneState) → i < length shards → range ≡ get_or shards i range → lane ≡ new_lane tables position range
      → lanes ≡ map (new_lane tables position) (take i shards) → lanes ++ lane ∷ [] ≡ map (new_lane tables position) (take (i + 1) shards)
  next_lanes range lane lanes within at is so_far =
      (λ j. so_far j ++ (is ∙ ap (new_lane tables position) at) j ∷ [])
      ∙ sym (map-append (new_lane tables position) (take i shards) (get_or shards i range ∷ []))
      ∙ ap (map (new_lane tables position)) (sym (take_more shards i range within))

  pub all_lanes : (lanes : List LaneState) → length shards ≤ i → lanes ≡ map (new_lane tables position) (take i shards) → lanes ≡ map (new_lane tables position) shards
  all_lanes lanes past so_far = so_far ∙ ap (map (new_lane tables position)) (take_all i shards past)

-- their ranges are those of the target's shards
module _ (tables : List (List ℕ)) (position : ℕ) (cuts : Cuts) (lanes : List LaneState) (are : lanes ≡ map (new_lane tables position) (ranges_of cuts)) where
  each : (ranges : List KeyRange) → ranges_in (map (new_lane tables position) ranges) ≡ ranges
  each [] = refl
  each (range ∷ ranges) = ap (λ rs. range ∷ rs) (each ranges)

  new-ranges : ranges_in lanes ≡ ranges_of cuts
  new-ranges = ap ranges_in are ∙ each (ranges_of cuts)

  new-between : cuts_in lanes ≡ cuts
  new-between = ap cuts_between new-ranges ∙ cuts_between-ranges_from [] cuts

  pub new-covers : ranges_of (cuts_in lanes) ≡ ranges_in lanes
  new-covers = ap ranges_of new-between ∙ sym new-ranges

  pub new-cuts : AreCuts cuts → AreCuts (cuts_in lanes)
  new-cuts ascend = subst AreCuts (sym new-between) ascend
