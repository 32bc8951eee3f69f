-- Which stream runs, and whose log it reads.
use Rattle.std.proofs.Common.{◌≡◌, ℕ, ◌-◌, Bool, true, false, not, cond, eqb, List, Option, None, Some, option_map, refl, sym, ap, ◌∙◌, arith}
use Rattle.std.proofs.lemmas.Bool.{true≢false}
use Rattle.std.specs.Option.{option_map_or}
use Rattle.std.specs.Prelude.{◌&&◌, ◌||◌}
use Rattle.mt_names.specs.Names.{same_text}
use Rattle.mt_plain.specs.Events.{Event, StreamName, forward, back, Slot, running, stopped, Way}
use Rattle.mt_plain.specs.Next.{closes, live_stepped, live_undone, types_and, types_without, with_way_to}
use Rattle.mt_plain.specs.Plain.{Lane, Live, Plain, changes_primary, create_back, differ, live_at, owner, stands_done, start_back, stop_feeding, write_journal}
use Rattle.mt_plain.specs.Slots.{feeding_slot, is_feeding, live_advanced, other_slot, read_side, running_at, slot_at_rest, slot_by_way, slot_of}
use Rattle.mt_laws.specs.Copies.{frozen_at, runs_at}
use Rattle.mt_laws.specs.WayBack.{IsReached}
use Rattle.mt_laws.proofs.ChangeLemmas.{made_live}
use Rattle.mt_laws.proofs.KeepLemmas.{Keeps}
use Rattle.mt_laws.proofs.LiveLemmas.{IsIn, find_some}
use Rattle.mt_laws.proofs.OwnerLemmas.{IsJournaled, reached_journaled}
use Rattle.mt_laws.proofs.PartLemmas.{IsSettled}
use Rattle.mt_laws.proofs.ReachLemmas.{reached_has_parts, reached_have}
use Rattle.mt_laws.proofs.UntouchedLemmas.{traffic-advanced}
use Rattle.mt_laws.proofs.PlainWords.{side_by}
use Rattle.mt_laws.proofs.WayStepLemmas.{done_in_order, fewer, more, no_way_holds, way-stepped, way-undone, way_holds, way_holds-by}
use Rattle.mt_laws.proofs.WritableLemmas.{owner-if}

-- ---- a way that changes writes leads back where primary was switched before it, and only there

abbrev pub IsTurned : Live → Type 0
IsTurned w = (way : Way) → w.way ≡ Some way → changes_primary way ≡ true → way.before.primary ≡ way.back

-- of an open way
abbrev Turned : Way → Type 0
Turned way = changes_primary way ≡ true → way.before.primary ≡ way.back

pub turned_rests : (w : Live) → w.way ≡ None → IsTurned w
turned_rests = no_way_holds Turned

turned_same : (w v : Live) → v.way ≡ w.way → IsTurned w → IsTurned v
turned_same w v same holds way opens changes = holds way (sym same ∙ opens) changes

-- what a switch of primary changes it from
switch_from : (before types : Bool) → differ before (before || types) ≡ true → before ≡ false
switch_from true types e = absurd (true≢false (sym e))
switch_from false types e = refl

reverse_from : (before types : Bool) → differ before (before && not types) ≡ true → before ≡ true
reverse_from true types e = refl
reverse_from false types e = absurd (true≢false (sym e))

pub turned_kept : (p : Plain) (event : Event) (w : Live) → IsTurned w → Keeps IsTurned p event w
turned_kept p event w holds = record {
  same = holds;
  switch = λ types begins none. way_holds Turned (with_way_to false (λ switched. types_and switched types) w) _ refl (λ changes. switch_from w.switched.primary types.primary changes);
  reverse = λ types begins none. way_holds Turned (with_way_to true (λ switched. types_without switched types) w) _ refl (λ changes. reverse_from w.switched.primary types.primary changes);
  steps = λ at way steps opens none. way_holds-by Turned (live_stepped p w way) (closes way) (more way) (way-stepped p w way) (λ goes_on. holds way opens);
  undoes = λ at way undoes opens none. way_holds-by Turned (live_undone w way) (eqb (way.done - 1) 0) (fewer way) (way-undone w way) (λ goes_on. holds way opens);
  advances = λ adv workflow stream shard at at_most events rows live none given.
      turned_same w (live_advanced p w stream shard at at_most events rows) (ap (λ t. t.1) (traffic-advanced p w stream shard at at_most events rows)) holds;
}

pub reached_turned : (p : Plain) → IsReached p → (w : Live) → IsIn w p.lives → IsTurned w
reached_turned = reached_have IsTurned (λ p name source target tables. turned_rests (made_live p name source target tables) refl) turned_kept

-- ---- a stream that runs reads the owner's log

-- at rest
rest_runs : (w : Live) (lane : Lane) (t : Bool) (name : StreamName) (at : ℕ) → running_at (slot_at_rest lane t name) ≡ Some at → read_side w name ≡ side_by w t
rest_runs w lane true forward at e = absurd cc
rest_runs w lane false forward at e = refl
rest_runs w lane true back at e = refl
rest_runs w lane false back at e = absurd cc

-- a stream that feeds a way runs as it did before it, until it is stopped
pub feeding_runs : (t : Bool) (o : Option Slot) (at : ℕ) → running_at (option_map (λ (s : Slot). cond t (record s { state = stopped }) s) o) ≡ Some at → (t ≡ false) × (running_at o ≡ Some at)
feeding_runs true None at e = absurd cc
feeding_runs true (Some s) at e = absurd cc
feeding_runs false None at e = absurd cc
feeding_runs false (Some s) at e = (refl, e)

-- the other stream runs as before the way until it is made anew, and then once it is started
pub other_runs : (made started : Bool) (fresh : ℕ) (o : Option Slot) (at : ℕ) → running_at (cond made (Some (record { state = cond started running stopped; position = fresh })) o) ≡ Some at
    → (made ≡ true → started ≡ true) × (made ≡ false → running_at o ≡ Some at)
other_runs true true fresh o at e = (λ m. refl, λ m. absurd (true≢false m))
other_runs true false fresh o at e = absurd cc
other_runs false started fresh o at e = (λ m. absurd (true≢false (sym m)), λ m. e)

pub differ_to : (before after : Bool) → differ before after ≡ true → after ≡ not before
differ_to true true e = absurd (true≢false (sym e))
differ_to true false e = refl
differ_to false true e = refl
differ_to false false e = absurd (true≢false (sym e))

pub differ_not : (before after : Bool) → differ before after ≡ false → after ≡ before
differ_not true true e = refl
differ_not true false e = absurd (true≢false e)
differ_not false true e = absurd (true≢false e)
differ_not false false e = refl

-- whether a stream is not the feeding one, by the way's direction
pub read_by_other : (w : Live) (way : Way) (name : StreamName) → is_feeding way name ≡ false → read_side w name ≡ side_by w (not way.back)
read_by_other w way forward other = ap (λ b. cond b w.target w.source) (sym other)
read_by_other w way back other = ap (λ b. cond (not b) w.target w.source) (sym other)

module _ (w : Live) (settled : IsSettled w) (journaled : IsJournaled w) (turned : IsTurned w) (lane : Lane) where
  module _ (way : Way) (opens : w.way ≡ Some way) where
    abbrev owned : Bool
    owned = way.before.primary

    -- as long as the journal isn't done, the owner is that from before the way
    before_journal : stands_done way write_journal ≡ false → owner w ≡ side_by w owned
    before_journal f = owner-if w owned (ap (λ s. s.primary) (settled way opens f))

    behind_journal : stands_done way write_journal ≡ true → owner w ≡ side_by w way.after.primary
    behind_journal t = owner-if w way.after.primary (ap (λ s. s.primary) (journaled way opens t))

    not_yet : (step : ℕ) → (stands_done way write_journal ≡ true → stands_done way step ≡ true) → stands_done way step ≡ false → stands_done way write_journal ≡ false
    not_yet step order f = by (stands_done way write_journal) refl
      where
        by : (t : Bool) → stands_done way write_journal ≡ t → stands_done way write_journal ≡ false
        by true t = absurd (true≢false (sym (order t) ∙ f))
        by false t = t

    same_owner : differ owned way.after.primary ≡ false → owner w ≡ side_by w owned
    same_owner e = by (stands_done way write_journal) refl
      where
        by : (t : Bool) → stands_done way write_journal ≡ t → owner w ≡ side_by w owned
        by true t = behind_journal t ∙ ap (side_by w) (differ_not owned way.after.primary e)
        by false t = before_journal t

    abbrev before_slot : StreamName → Option Slot
    before_slot name = slot_at_rest lane owned name

    runs_on_way : (name : StreamName) (at : ℕ) (changes feeds : Bool) → changes_primary way ≡ changes → is_feeding way name ≡ feeds
        → running_at (cond (not changes) (before_slot name) (cond feeds (feeding_slot lane way (before_slot name)) (other_slot lane way (before_slot name)))) ≡ Some at
        → read_side w name ≡ owner w
    runs_on_way name at false feeds c f e = rest_runs w lane owned name at e ∙ sym (same_owner c)
    runs_on_way name at true true c f e =
        let r = feeding_runs (stands_done way stop_feeding) (before_slot name) at e in
        rest_runs w lane owned name at r.1 ∙ sym (before_journal (not_yet stop_feeding (done_in_order way 3 write_journal (omega arith)) r.0))
    runs_on_way name at true false c f e = by (stands_done way create_back) refl
      where
        r : (stands_done way create_back ≡ true → stands_done way start_back ≡ true) × (stands_done way create_back ≡ false → running_at (before_slot name) ≡ Some at)
        r = other_runs (stands_done way create_back) (stands_done way start_back) lane.fresh_at (before_slot name) at e

        by : (t : Bool) → stands_done way create_back ≡ t → read_side w name ≡ owner w
        by true t =
            read_by_other w way name f ∙ ap (λ b. side_by w (not b)) (sym (turned way opens c)) ∙ ap (side_by w) (sym (differ_to owned way.after.primary c))
            ∙ sym (behind_journal (done_in_order way 5 start_back (omega arith) (r.0 t)))
        by false t = rest_runs w lane owned name at (r.1 t) ∙ sym (before_journal (not_yet create_back (done_in_order way 4 write_journal (omega arith)) t))

  pub runs_by_owner : (name : StreamName) (at : ℕ) (o : Option Way) → w.way ≡ o → running_at (slot_by_way w lane o name) ≡ Some at → read_side w name ≡ owner w
  runs_by_owner name at None rests e =
      rest_runs w lane w.switched.primary name at (sym (ap (λ o. running_at (slot_at_rest lane (option_map_or (λ way. way.before) o w.switched).primary name)) rests) ∙ e)
      ∙ sym (owner-if w w.switched.primary refl)
  runs_by_owner name at (Some way) opens e =
      runs_on_way way opens name at (changes_primary way) (is_feeding way name) refl refl (sym (ap (λ o. running_at (by_before (option_map_or (λ v. v.before) o w.switched).primary)) opens) ∙ e)
    where
      by_before : Bool → Option Slot
      by_before owned =
          cond (not (changes_primary way)) (slot_at_rest lane owned name)
          (cond (is_feeding way name) (feeding_slot lane way (slot_at_rest lane owned name)) (other_slot lane way (slot_at_rest lane owned name)))

pub runs_at_the_owner : (p : Plain) → IsReached p → (workflow : List ℕ) (w : Live) → live_at p workflow ≡ Some w → (lane : Lane) (name : StreamName) (at : ℕ) → running_at (slot_of w lane name) ≡ Some at → read_side w name ≡ owner w
runs_at_the_owner p reached workflow w found lane name at e =
    let is = (find_some (λ v. same_text v.name workflow) p.lives w found).0 in
    runs_by_owner w ((reached_has_parts p reached).settled w is) (reached_journaled p reached w is) (reached_turned p reached w is) lane name at w.way refl e

-- ---- at rest

module _ (p : Plain) (reached : IsReached p) (workflow : List ℕ) (w : Live) (found : live_at p workflow ≡ Some w) where
  differ_sides : w.source ≡ w.target → ⊥
  differ_sides = ((reached_has_parts p reached).placed w (find_some (λ v. same_text v.name workflow) p.lives w found).0).sides

  pub never_both_run : (one other : Lane) (a b : ℕ) → running_at (slot_of w one forward) ≡ Some a → running_at (slot_of w other back) ≡ Some b → ⊥
  never_both_run one other a b e f = differ_sides (runs_at_the_owner p reached workflow w found one forward a e ∙ sym (runs_at_the_owner p reached workflow w found other back b f))

  rest-slot : (lane : Lane) → w.way ≡ None → (t : Bool) → w.switched.primary ≡ t → (name : StreamName) → slot_of w lane name ≡ slot_at_rest lane t name
  rest-slot lane rests t e name =
      ap (λ o. slot_by_way w lane o name) rests ∙ ap (λ o. slot_at_rest lane (option_map_or (λ way. way.before) o w.switched).primary name) rests ∙ ap (λ b. slot_at_rest lane b name) e

  owned_by_source : owner w ≡ w.source → w.switched.primary ≡ false
  owned_by_source is = by w.switched.primary refl
    where
      by : (t : Bool) → w.switched.primary ≡ t → w.switched.primary ≡ false
      by true t = absurd (differ_sides (sym is ∙ owner-if w true t))
      by false t = t

  owned_by_target : owner w ≡ w.target → w.switched.primary ≡ true
  owned_by_target is = by w.switched.primary refl
    where
      by : (t : Bool) → w.switched.primary ≡ t → w.switched.primary ≡ true
      by true t = t
      by false t = absurd (differ_sides (sym (owner-if w false t) ∙ is))

  pub rest_of_source : (lane : Lane) → w.way ≡ None → owner w ≡ w.source → (slot_of w lane forward ≡ runs_at lane.forward_at) × (slot_of w lane back ≡ None)
  rest_of_source lane rests is = let e = owned_by_source is in (rest-slot lane rests false e forward, rest-slot lane rests false e back)

  pub rest_of_target : (lane : Lane) → w.way ≡ None → owner w ≡ w.target → (slot_of w lane forward ≡ frozen_at lane.forward_at) × (slot_of w lane back ≡ runs_at lane.back_at)
  rest_of_target lane rests is = let e = owned_by_target is in (rest-slot lane rests true e forward, rest-slot lane rests true e back)
