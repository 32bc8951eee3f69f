-- What a step and an undo make of the streams of a lane, where they are those of some slots, and of the lanes of a workflow; and what a begin
-- makes of the slots.
use Rattle.std.proofs.Common.{◌≡◌, ℕ, zero, suc, ◌<◌, Bool, true, false, not, cond, eqb, List, [], ◌∷◌, map, inl, inr, Option, None, Some, option_map, refl, sym, ap, ◌∙◌, arith}
use Rattle.std.specs.Option.{option_map_or}
use Rattle.mt_names.specs.declared.types.TypeSet.{TypeSet}
use Rattle.mt_names.specs.Shards.{shard_count}
use Rattle.mt_plain.specs.Answers.{range_at}
use Rattle.mt_plain.specs.Events.{StreamName, forward, back, StreamState, running, stopped, frozen, Slot, Way}
use Rattle.mt_plain.specs.Plain.{Lane, Live, changes_primary, create_back, ended, stands_done, start_back, stop_feeding}
use Rattle.mt_plain.specs.Slots.{is_feeding, slot_at_rest, slot_by_way}
use Rattle.mt_plain.specs.Slots as plain
use Rattle.mt_laws.specs.Effects.{feeding_stepped, other_stepped}
use Rattle.mt_laws.specs.Effects as effects
use Rattle.mt_laws.proofs.LiveLemmas.{IsIn}
use Rattle.mt_laws.proofs.WayStepLemmas.{none_done}
use Rattle.mt_stands.specs.Rows.{stream_of}
use Rattle.mt_stands.specs.Stands.{lane_state}
use Rattle.mt_stream.specs.Streams.{StreamValue}
use Rattle.mt_workflow.specs.Workflows as workflow
use Rattle.mt_workflow.specs.Workflows.{LaneState, WorkflowState, lane_in_state, lane_slot, with_lane_slot}
use Rattle.mt_steps.specs.declared.step.Step.{Step}
use Rattle.mt_steps.specs.declared.step.Step.TheVariants.{SwitchReads, DenySource, RefreshSource, CatchUp, StopFeeding, CreateBack, Journal, AllowTarget, RefreshTarget, SwitchWriteRules, StartBack, FreezeOld}
use Rattle.mt_steps.specs.Plans.{step_at}
use Rattle.mt_steps.specs.Shards.{with_each}
use Rattle.mt_steps.specs.Streams.{feeding_name, lane_made, other_name, stopped_stream, streams_undone, with_streams}
use Rattle.mt_laws.proofs.StreamEffectLemmas.{either-same}
use Rattle.mt_workflow.proofs.LaneLemmas.{range-kept}

-- ---- lists of lanes

pub map-map : {A B C : Type 0} (g : B → C) (f : A → B) (xs : List A) → map g (map f xs) ≡ map (λ x. g (f x)) xs
map-map g f [] = refl
map-map g f (x ∷ xs) = ap (λ l. g (f x) ∷ l) (map-map g f xs)

with_each-map : {A B : Type 0} (change : B → LaneState → LaneState) (e : A → B) (f : A → LaneState) (xs : List A) → with_each change (map e xs) (map f xs) ≡ map (λ x. change (e x) (f x)) xs
with_each-map change e f [] = refl
with_each-map change e f (x ∷ xs) = ap (λ l. change (e x) (f x) ∷ l) (with_each-map change e f xs)

pub map-in : {A B : Type 0} (f g : A → B) (xs : List A) → ((x : A) → IsIn x xs → f x ≡ g x) → map f xs ≡ map g xs
map-in f g [] same = refl
map-in f g (x ∷ xs) same = ap (λ y. y ∷ map f xs) (same x (inl refl)) ∙ ap (λ l. g x ∷ l) (map-in f g xs (λ y is. same y (inr is)))

-- ---- what a step makes of a lane, and an undo

abbrev pub lane_with_streams : List (List ℕ) → Way → Step → (position : ℕ) → LaneState → LaneState
lane_with_streams tables way StopFeeding position lane = lane_in_state (feeding_name way) stopped lane
lane_with_streams tables way CreateBack position lane = lane_made (other_name way) tables position lane
lane_with_streams tables way StartBack position lane = lane_in_state (other_name way) running lane
lane_with_streams tables way FreezeOld position lane =
    with_lane_slot (feeding_name way) (cond way.back None (option_map (workflow.in_state frozen) (lane_slot (feeding_name way) lane))) lane
lane_with_streams tables way other position lane = lane

abbrev pub lane_undone : Way → Step → Option StreamValue → LaneState → LaneState
lane_undone way StopFeeding kept lane = lane_in_state (feeding_name way) running lane
lane_undone way CreateBack kept lane = with_lane_slot (other_name way) kept lane
lane_undone way other kept lane = lane

module _ {A : Type 0} (w : WorkflowState) (way : Way) (f : A → LaneState) (xs : List A) (are : w.lanes ≡ map f xs) where
  each-in : (name : StreamName) (state : StreamState) → map (lane_in_state name state) w.lanes ≡ map (λ x. lane_in_state name state (f x)) xs
  each-in name state = ap (map (lane_in_state name state)) are ∙ map-map (lane_in_state name state) f xs

  module _ (e : A → ℕ) where
    abbrev LanesStepped : ℕ → Type 0
    LanesStepped n = with_streams w way (step_at n) (map e xs) ≡ record w { lanes = map (λ x. lane_with_streams w.tables way (step_at n) (e x) (f x)) xs }

    as_they_are : w ≡ record w { lanes = map f xs }
    as_they_are = ap (λ l. record w { lanes = l }) are

    lanes-frozen : (b : Bool)
        → cond b (record w { lanes = map (with_lane_slot (feeding_name way) None) w.lanes }) (record w { lanes = map (lane_in_state (feeding_name way) frozen) w.lanes })
        ≡ record w { lanes = map (λ x. with_lane_slot (feeding_name way) (cond b None (option_map (workflow.in_state frozen) (lane_slot (feeding_name way) (f x)))) (f x)) xs }
    lanes-frozen true = ap (λ l. record w { lanes = l }) (ap (map (with_lane_slot (feeding_name way) None)) are ∙ map-map (with_lane_slot (feeding_name way) None) f xs)
    lanes-frozen false = ap (λ l. record w { lanes = l }) (each-in (feeding_name way) frozen)

    pub lanes-stepped : (n : ℕ) → n < 12 → LanesStepped n
    lanes-stepped zero below = as_they_are
    lanes-stepped (suc zero) below = as_they_are
    lanes-stepped (suc (suc zero)) below = as_they_are
    lanes-stepped (suc (suc (suc zero))) below = as_they_are
    lanes-stepped (suc (suc (suc (suc zero)))) below = ap (λ l. record w { lanes = l }) (each-in (feeding_name way) stopped)
    lanes-stepped (suc (suc (suc (suc (suc zero))))) below =
        ap (λ l. record w { lanes = l }) (ap (with_each (lane_made (other_name way) w.tables) (map e xs)) are ∙ with_each-map (lane_made (other_name way) w.tables) e f xs)
    lanes-stepped (suc (suc (suc (suc (suc (suc zero)))))) below = as_they_are
    lanes-stepped (suc (suc (suc (suc (suc (suc (suc zero))))))) below = as_they_are
    lanes-stepped (suc (suc (suc (suc (suc (suc (suc (suc zero)))))))) below = as_they_are
    lanes-stepped (suc (suc (suc (suc (suc (suc (suc (suc (suc zero))))))))) below = as_they_are
    lanes-stepped (suc (suc (suc (suc (suc (suc (suc (suc (suc (suc zero)))))))))) below = ap (λ l. record w { lanes = l }) (each-in (other_name way) running)
    lanes-stepped (suc (suc (suc (suc (suc (suc (suc (suc (suc (suc (suc zero))))))))))) below = lanes-frozen way.back
    lanes-stepped (suc (suc (suc (suc (suc (suc (suc (suc (suc (suc (suc (suc n)))))))))))) below = absurd (omega (arith, below))

  module _ (k : A → Option StreamValue) (kept : List (Option StreamValue)) where
    pub lanes-undone : (n : ℕ) → n < 6 → (n ≡ create_back → kept ≡ map k xs)
        → streams_undone w way (step_at n) kept ≡ record w { lanes = map (λ x. lane_undone way (step_at n) (k x) (f x)) xs }
    lanes-undone zero below is = ap (λ l. record w { lanes = l }) are
    lanes-undone (suc zero) below is = ap (λ l. record w { lanes = l }) are
    lanes-undone (suc (suc zero)) below is = ap (λ l. record w { lanes = l }) are
    lanes-undone (suc (suc (suc zero))) below is = ap (λ l. record w { lanes = l }) are
    lanes-undone (suc (suc (suc (suc zero)))) below is = ap (λ l. record w { lanes = l }) (each-in (feeding_name way) running)
    lanes-undone (suc (suc (suc (suc (suc zero))))) below is =
        ap (λ l. record w { lanes = l })
        (ap (λ ks. with_each (with_lane_slot (other_name way)) ks w.lanes) (is refl) ∙ ap (with_each (with_lane_slot (other_name way)) (map k xs)) are
        ∙ with_each-map (with_lane_slot (other_name way)) k f xs)
    lanes-undone (suc (suc (suc (suc (suc (suc n)))))) below is = absurd (omega (arith, below))

-- ---- the slots of a lane

-- two lanes are one if they have the same range and the same streams
pub lane-same : (a b : LaneState) → a.range ≡ b.range → ((name : StreamName) → lane_slot name a ≡ lane_slot name b) → a ≡ b
lane-same a b range slots = λ i. record { range = range i; forward = slots forward i; back = slots back i }

-- a lane keeps its range
pub range-stepped : (tables : List (List ℕ)) (way : Way) (step : Step) (position : ℕ) (lane : LaneState) → (lane_with_streams tables way step position lane).range ≡ lane.range
range-stepped tables way SwitchReads position lane = refl
range-stepped tables way DenySource position lane = refl
range-stepped tables way RefreshSource position lane = refl
range-stepped tables way CatchUp position lane = refl
range-stepped tables way StopFeeding position lane = range-kept (feeding_name way) _ lane
range-stepped tables way CreateBack position lane = range-kept (other_name way) _ lane
range-stepped tables way Journal position lane = refl
range-stepped tables way AllowTarget position lane = refl
range-stepped tables way RefreshTarget position lane = refl
range-stepped tables way SwitchWriteRules position lane = refl
range-stepped tables way StartBack position lane = range-kept (other_name way) _ lane
range-stepped tables way FreezeOld position lane = range-kept (feeding_name way) _ lane

pub range-undone : (way : Way) (step : Step) (kept : Option StreamValue) (lane : LaneState) → (lane_undone way step kept lane).range ≡ lane.range
range-undone way SwitchReads kept lane = refl
range-undone way DenySource kept lane = refl
range-undone way RefreshSource kept lane = refl
range-undone way CatchUp kept lane = refl
range-undone way StopFeeding kept lane = range-kept (feeding_name way) _ lane
range-undone way CreateBack kept lane = range-kept (other_name way) kept lane
range-undone way Journal kept lane = refl
range-undone way AllowTarget kept lane = refl
range-undone way RefreshTarget kept lane = refl
range-undone way SwitchWriteRules kept lane = refl
range-undone way StartBack kept lane = refl
range-undone way FreezeOld kept lane = refl

-- whether a way feeds by a stream, by its direction
abbrev feeds : Bool → StreamName → Bool
feeds b forward = not b
feeds b back = b

-- a stream in another state is that of the slot in that state
in_state-of : (live : Live) (lane : Lane) (state : StreamState) (o : Option Slot) → option_map (workflow.in_state state) (option_map (stream_of live lane) o) ≡ option_map (stream_of live lane) (effects.in_state state o)
in_state-of live lane state None = refl
in_state-of live lane state (Some s) = refl

none-either : (live : Live) (lane : Lane) (t : Bool) (v : Option StreamValue) (s : Option Slot) → v ≡ option_map (stream_of live lane) s → cond t None v ≡ option_map (stream_of live lane) (cond t None s)
none-either live lane true v s is = refl
none-either live lane false v s is = is

module _ (live : Live) (lane : Lane) where
  abbrev l : LaneState
  l = lane_state live lane

  abbrev slots : StreamName → Option Slot
  slots = plain.slot_of live lane

  pub slot-state : (name : StreamName) → lane_slot name l ≡ option_map (stream_of live lane) (slots name)
  slot-state forward = refl
  slot-state back = refl

  -- another feeding stream, where it is that of another slot; and another one the other way
  feeding-with : (b : Bool) (to : StreamName → Option Slot) (v : Option StreamValue) → v ≡ option_map (stream_of live lane) (to (cond b back forward)) → (name : StreamName)
      → lane_slot name (with_lane_slot (cond b back forward) v l) ≡ option_map (stream_of live lane) (cond (feeds b name) (to name) (slots name))
  feeding-with true to v is forward = slot-state forward
  feeding-with true to v is back = is
  feeding-with false to v is forward = is
  feeding-with false to v is back = slot-state back

  other-with : (b : Bool) (to : StreamName → Option Slot) (v : Option StreamValue) → v ≡ option_map (stream_of live lane) (to (cond b forward back)) → (name : StreamName)
      → lane_slot name (with_lane_slot (cond b forward back) v l) ≡ option_map (stream_of live lane) (cond (feeds b name) (slots name) (to name))
  other-with true to v is forward = is
  other-with true to v is back = slot-state back
  other-with false to v is forward = slot-state forward
  other-with false to v is back = is

  -- and the same ones
  same-streams : (b : Bool) (name : StreamName) → lane_slot name l ≡ option_map (stream_of live lane) (cond (feeds b name) (slots name) (slots name))
  same-streams b name = slot-state name ∙ ap (option_map (stream_of live lane)) (sym (either-same (feeds b name) (slots name)))

  module _ (way : Way) where
    -- a stream that goes on in another state
    in-state : (state : StreamState) (name : StreamName) → option_map (workflow.in_state state) (lane_slot name l) ≡ option_map (stream_of live lane) (effects.in_state state (slots name))
    in-state state name = ap (option_map (workflow.in_state state)) (slot-state name) ∙ in_state-of live lane state (slots name)

    feeding-in : (state : StreamState) (name : StreamName)
        → lane_slot name (lane_in_state (feeding_name way) state l)
        ≡ option_map (stream_of live lane) (cond (feeds way.back name) (effects.in_state state (slots name)) (slots name))
    feeding-in state = feeding-with way.back (λ n. effects.in_state state (slots n)) (option_map (workflow.in_state state) (lane_slot (feeding_name way) l)) (in-state state (feeding_name way))

    other-in : (state : StreamState) (name : StreamName)
        → lane_slot name (lane_in_state (other_name way) state l)
        ≡ option_map (stream_of live lane) (cond (feeds way.back name) (slots name) (effects.in_state state (slots name)))
    other-in state = other-with way.back (λ n. effects.in_state state (slots n)) (option_map (workflow.in_state state) (lane_slot (other_name way) l)) (in-state state (other_name way))

    -- ---- a step

    module _ (position : ℕ) (copied : lane.copied ≡ ended) where
      -- the streams of the lane behind the step of a number are those of the slots behind it
      abbrev Stepped : ℕ → Type 0
      Stepped n = (name : StreamName) → lane_slot name (lane_with_streams live.tables way (step_at n) position l)
          ≡ option_map (stream_of live lane) (cond (feeds way.back name) (feeding_stepped way.back n (slots name)) (other_stepped n position (slots name)))

      made : Some (stopped_stream live.tables (range_at live.cuts lane.shard) position) ≡ option_map (stream_of live lane) (Some (record { state = stopped; position = position }))
      made = rw copied refl

      freezes : (name : StreamName) → lane_slot name (with_lane_slot (feeding_name way) (cond way.back None (option_map (workflow.in_state frozen) (lane_slot (feeding_name way) l))) l)
          ≡ option_map (stream_of live lane) (cond (feeds way.back name) (cond way.back None (effects.in_state frozen (slots name))) (slots name))
      freezes =
          feeding-with way.back (λ n. cond way.back None (effects.in_state frozen (slots n))) (cond way.back None (option_map (workflow.in_state frozen) (lane_slot (feeding_name way) l)))
          (none-either live lane way.back (option_map (workflow.in_state frozen) (lane_slot (feeding_name way) l)) (effects.in_state frozen (slots (feeding_name way))) (in-state frozen (feeding_name way)))

      stepped-at : (n : ℕ) → n < 12 → Stepped n
      stepped-at zero below = same-streams way.back
      stepped-at (suc zero) below = same-streams way.back
      stepped-at (suc (suc zero)) below = same-streams way.back
      stepped-at (suc (suc (suc zero))) below = same-streams way.back
      stepped-at (suc (suc (suc (suc zero)))) below = feeding-in stopped
      stepped-at (suc (suc (suc (suc (suc zero))))) below =
          other-with way.back (λ n. Some (record { state = stopped; position = position })) (Some (stopped_stream live.tables (range_at live.cuts lane.shard) position)) made
      stepped-at (suc (suc (suc (suc (suc (suc zero)))))) below = same-streams way.back
      stepped-at (suc (suc (suc (suc (suc (suc (suc zero))))))) below = same-streams way.back
      stepped-at (suc (suc (suc (suc (suc (suc (suc (suc zero)))))))) below = same-streams way.back
      stepped-at (suc (suc (suc (suc (suc (suc (suc (suc (suc zero))))))))) below = same-streams way.back
      stepped-at (suc (suc (suc (suc (suc (suc (suc (suc (suc (suc zero)))))))))) below = other-in running
      stepped-at (suc (suc (suc (suc (suc (suc (suc (suc (suc (suc (suc zero))))))))))) below = freezes
      stepped-at (suc (suc (suc (suc (suc (suc (suc (suc (suc (suc (suc (suc n)))))))))))) below = absurd (omega (arith, below))

      pub stepped-slots : (n : ℕ) → n < 12 → (name : StreamName) → lane_slot name (lane_with_streams live.tables way (step_at n) position l)
          ≡ option_map (stream_of live lane) (cond (is_feeding way name) (feeding_stepped way.back n (slots name)) (other_stepped n position (slots name)))
      stepped-slots n below forward = stepped-at n below forward
      stepped-slots n below back = stepped-at n below back

    -- ---- an undo

    module _ (kept : Option StreamValue) (saved : StreamName → Option Slot) where
      -- the streams of the lane behind the undo of a step before the journal are those of the slots behind it
      abbrev Undone : ℕ → Type 0
      Undone n = (name : StreamName) → lane_slot name (lane_undone way (step_at n) kept l)
          ≡ option_map (stream_of live lane) (cond (feeds way.back name) (cond (eqb n stop_feeding) (effects.in_state running (slots name)) (slots name)) (cond (eqb n create_back) (saved name) (slots name)))

      undone-at : (n : ℕ) → n < 6 → (n ≡ create_back → kept ≡ option_map (stream_of live lane) (saved (other_name way))) → Undone n
      undone-at zero below is = same-streams way.back
      undone-at (suc zero) below is = same-streams way.back
      undone-at (suc (suc zero)) below is = same-streams way.back
      undone-at (suc (suc (suc zero))) below is = same-streams way.back
      undone-at (suc (suc (suc (suc zero)))) below is = feeding-in running
      undone-at (suc (suc (suc (suc (suc zero))))) below is = other-with way.back saved kept (is refl)
      undone-at (suc (suc (suc (suc (suc (suc n)))))) below is = absurd (omega (arith, below))

      pub undone-slots : (n : ℕ) → n < 6 → (n ≡ create_back → kept ≡ option_map (stream_of live lane) (saved (other_name way))) → (name : StreamName)
          → lane_slot name (lane_undone way (step_at n) kept l)
          ≡ option_map (stream_of live lane) (cond (is_feeding way name) (cond (eqb n stop_feeding) (effects.in_state running (slots name)) (slots name)) (cond (eqb n create_back) (saved name) (slots name)))
      undone-slots n below is forward = undone-at n below is forward
      undone-slots n below is back = undone-at n below is back

-- ---- a begin

-- a way of which no step stands done leaves the slots as they were at rest
module _ (live : Live) (lane : Lane) (rests : live.way ≡ None) (backward : Bool) (after : TypeSet) (name : StreamName) where
  abbrev way : Way
  way = record { back = backward; shards = shard_count live.cuts; before = live.switched; after = after; done = 0; undoing = false }

  abbrev begun : Live
  begun = record live { way = Some way }

  stood : plain.slot_of live lane name ≡ slot_at_rest lane live.switched.primary name
  stood =
      ap (λ o. slot_by_way live lane o name) rests
      ∙ ap (λ o. slot_at_rest lane (option_map_or (λ (x : Way). x.before) o live.switched).primary name) rests

  same-slot : (slot : Option Slot) → option_map (λ (s : Slot). s) slot ≡ slot
  same-slot None = refl
  same-slot (Some s) = refl

  by_tests : (c f s k : Bool) (fresh slot : Option Slot) → s ≡ false → k ≡ false
      → cond (not c) slot (cond f (option_map (λ (x : Slot). cond s (record x { state = stopped }) x) slot) (cond k fresh slot)) ≡ slot
  by_tests c f s k fresh slot no_stop no_other =
      ap (λ t. cond (not c) slot (cond f (option_map (λ (x : Slot). cond t (record x { state = stopped }) x) slot) (cond k fresh slot))) no_stop
      ∙ ap (λ t. cond (not c) slot (cond f (option_map (λ (x : Slot). x) slot) (cond t fresh slot))) no_other ∙ by c f
    where
      by : (c f : Bool) → cond (not c) slot (cond f (option_map (λ (x : Slot). x) slot) slot) ≡ slot
      by false f = refl
      by true true = same-slot slot
      by true false = refl

  pub begun-slot : plain.slot_of begun lane name ≡ plain.slot_of live lane name
  begun-slot =
      by_tests (changes_primary way) (is_feeding way name) (stands_done way stop_feeding) (stands_done way create_back)
      (Some (record { state = cond (stands_done way start_back) running stopped; position = lane.fresh_at })) (slot_at_rest lane live.switched.primary name)
      (none_done way 3 refl) (none_done way 4 refl)
      ∙ sym stood
