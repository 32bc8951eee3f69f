-- What a step and an undo change of a workflow's streams.
use Rattle.std.proofs.Common.{◌≡◌, ◌≢◌, inl, inr, subst, leb, ltb, lt-ltb, ltb-true, ◌+◌, ℕ, suc, ◌-◌, ◌<◌, ◌≤◌, Bool, true, false, not, cond, eqb, Option, None, Some, option_map, refl, sym, ap, ◌∙◌, arith, eqb-true}
use Rattle.std.proofs.lemmas.Bool.{and_from, and_parts, leb-false, leb-true, true≢false, eq-eqb, false_from_ne_true}
use Rattle.std.specs.Cmp.{both_ways}
use Rattle.std.specs.Option.{option_map_or}
use Rattle.std.specs.Prelude.{◌&&◌, ◌||◌}
use Rattle.mt_names.specs.declared.types.TypeSet.{TypeSet}
use Rattle.mt_plain.specs.Events.{StreamName, forward, back, running, stopped, frozen, Slot, Way}
use Rattle.mt_plain.specs.Next.{closes, lane_stepped, live_stepped, live_undone}
use Rattle.mt_plain.specs.Plain.{Lane, first_step, next_place, repeated_step, step_at_place, Live, Plain, before_way, behind_last, changes_primary, create_back, differ, freeze_old, next_step, stands_done, start_back, stop_feeding, write_journal, last_step}
use Rattle.mt_plain.specs.Refuse.{new_owner}
use Rattle.mt_plain.specs.Slots.{is_feeding, log_length, slot_before_way, slot_by_way, slot_of}
use Rattle.mt_plain.proofs.PlaceLemmas.{step-behind, step-first}
use Rattle.mt_laws.specs.Effects.{feeding_stepped, in_state, other_stepped, slot_stepped, slot_undone}
use Rattle.mt_laws.proofs.EffectLemmas.{differ-false}
use Rattle.mt_laws.proofs.StepCountLemmas.{few_done}
use Rattle.mt_laws.proofs.ListLemmas.{cond-either}
use Rattle.mt_laws.proofs.WayStepLemmas.{OneOn, done_by, fewer, fewer-le, first_step-le, more, next_on, one_on, repeated-ge, same_done, undone_by, was_done}

-- ---- a slot, by what it hangs on

-- at rest: by the positions, and by whether the target owns the tables
abbrev rest_slot : (forward_at back_at : ℕ) → Bool → StreamName → Option Slot
rest_slot forward_at back_at target_owns forward = Some (record { state = cond target_owns frozen running; position = forward_at })
rest_slot forward_at back_at target_owns back = cond target_owns (Some (record { state = running; position = back_at })) None

-- on a way: by whether it changes writes, whether the stream feeds, which steps stand done, where the new stream stands, and the slot before it
abbrev way_slot : (changes feeds stops creates starts : Bool) → (fresh_at : ℕ) → Option Slot → Option Slot
way_slot changes feeds stops creates starts fresh_at slot =
    cond (not changes) slot
    (cond feeds (option_map (λ (s : Slot). cond stops (record s { state = stopped }) s) slot)
    (cond creates (Some (record { state = cond starts running stopped; position = fresh_at })) slot))

before-rest : (w : Live) (lane : Lane) (types_primary : Bool) (name : StreamName) → (before_way w).primary ≡ types_primary → slot_before_way w lane name ≡ rest_slot lane.forward_at lane.back_at types_primary name
before-rest w lane t forward e = ap (λ b. Some (record { state = cond b frozen running; position = lane.forward_at })) e
before-rest w lane t back e = ap (λ b. cond b (Some (record { state = running; position = lane.back_at })) None) e

closed-slot : (v : Live) (lane : Lane) (name : StreamName) → v.way ≡ None → slot_of v lane name ≡ rest_slot lane.forward_at lane.back_at v.switched.primary name
closed-slot v lane name none =
    ap (λ o. slot_by_way v lane o name) none
    ∙ before-rest v lane v.switched.primary name (ap (λ o. (option_map_or (λ (x : Way). x.before) o v.switched).primary) none)

open-slot : (v : Live) (way : Way) (lane : Lane) (name : StreamName) → v.way ≡ Some way
    → slot_of v lane name ≡ way_slot (changes_primary way) (is_feeding way name) (stands_done way stop_feeding) (stands_done way create_back) (stands_done way start_back) lane.fresh_at
    (rest_slot lane.forward_at lane.back_at way.before.primary name)
open-slot v way lane name opens =
    ap (λ o. slot_by_way v lane o name) opens
    ∙ ap (way_slot (changes_primary way) (is_feeding way name) (stands_done way stop_feeding) (stands_done way create_back) (stands_done way start_back) lane.fresh_at)
    (before-rest v lane way.before.primary name (ap (λ o. (option_map_or (λ (x : Way). x.before) o v.switched).primary) opens))

-- a slot that stays as it is
same-state : (slot : Option Slot) → option_map (λ (s : Slot). s) slot ≡ slot
same-state None = refl
same-state (Some s) = refl

pub either-same : {A : Type 0} (t : Bool) (x : A) → cond t x x ≡ x
either-same true x = refl
either-same false x = refl

-- ---- the lane behind a step, by the number of the step

abbrev lane_at_step : Plain → Live → Way → Lane → (creates closing : Bool) → Lane
lane_at_step p w way lane creates closing =
    cond creates (record lane { fresh_at = log_length p (new_owner w) (cond (before_way w).primary 0 lane.shard) })
    (cond (closing && changes_primary way) (cond way.back (record lane { forward_at = lane.fresh_at }) (record lane { back_at = lane.fresh_at })) lane)

-- a slot behind a step of this number
abbrev slot_at_step : Way → StreamName → (n log_end : ℕ) → Option Slot → Option Slot
slot_at_step way name n log_end slot = cond (is_feeding way name) (feeding_stepped way.back n slot) (other_stepped n log_end slot)

abbrev feeds : Way → Bool → StreamName → Bool
feeds way b name = is_feeding (record way { back = b }) name

differ-true : (a b : Bool) → differ a b ≡ true → b ≡ not a
differ-true true true e = absurd (true≢false (sym e))
differ-true true false e = refl
differ-true false true e = refl
differ-true false false e = absurd (true≢false (sym e))

module _ (p : Plain) (w : Live) (way : Way) (lane : Lane) (name : StreamName) (opens : w.way ≡ Some way) (turned : changes_primary way ≡ true → way.before.primary ≡ way.back) (left : next_step way < behind_last way) where
  abbrev stepped : Live
  stepped = live_stepped p w way

  abbrev log_end : ℕ
  log_end = log_length p (new_owner w) (cond (before_way w).primary 0 lane.shard)

  abbrev later : Lane
  later = lane_stepped p w way lane

  abbrev Stepped : Type 0
  Stepped = slot_of stepped later name ≡ slot_stepped way name log_end (slot_of w lane name)

  abbrev rests : Option Slot
  rests = rest_slot lane.forward_at lane.back_at way.before.primary name

  at_lane : (a b : Bool) → eqb (next_step way) create_back ≡ a → closes way ≡ b → later ≡ lane_at_step p w way lane a b
  at_lane a b e f = ap (λ t. lane_at_step p w way lane t (closes way)) e ∙ ap (lane_at_step p w way lane a) f

  by_number : (n : ℕ) → next_step way ≡ n → slot_of stepped later name ≡ slot_at_step way name n log_end (slot_of w lane name) → Stepped
  by_number n is e = e ∙ ap (λ m. slot_at_step way name m log_end (slot_of w lane name)) (sym is)

  -- behind the last step
  at_close : closes way ≡ true → slot_of stepped later name ≡ rest_slot later.forward_at later.back_at way.after.primary name
  at_close t =
      closed-slot stepped later name (ap (λ b. cond b None (Some (more way))) t)
      ∙ ap (λ b. rest_slot later.forward_at later.back_at (cond (b || eqb (next_step way) write_journal) way.after w.switched).primary name) t

  -- a way of reads
  of_reads : changes_primary way ≡ false → Stepped
  of_reads none = by_number 0 first (behind ∙ sym here)
    where
      last : behind_last way ≡ 1
      last = ap (λ b. cond {A = ℕ} b 12 1) none

      first : next_step way ≡ 0
      first = omega (arith, left, last)

      closing : closes way ≡ true
      closing = eq-eqb (suc (next_step way)) (behind_last way) (omega (arith, first, last))

      same : later ≡ lane
      same = at_lane false true (ap (λ n. eqb n create_back) first) closing ∙ ap (λ b. lane_by b) none
        where
          lane_by : Bool → Lane
          lane_by b = cond b (cond way.back (record lane { forward_at = lane.fresh_at }) (record lane { back_at = lane.fresh_at })) lane

      behind : slot_of stepped later name ≡ rests
      behind =
          at_close closing ∙ ap (λ (l : Lane). rest_slot l.forward_at l.back_at way.after.primary name) same
          ∙ ap (λ b. rest_slot lane.forward_at lane.back_at b name) (differ-false way.before.primary way.after.primary none)

      here : slot_at_step way name 0 log_end (slot_of w lane name) ≡ rests
      here =
          either-same (is_feeding way name) (slot_of w lane name) ∙ open-slot w way lane name opens
          ∙ ap (λ c. way_slot c (is_feeding way name) (stands_done way stop_feeding) (stands_done way create_back) (stands_done way start_back) lane.fresh_at rests) none

  module _ (changes : changes_primary way ≡ true) where
    last : behind_last way ≡ 12
    last = ap (λ b. cond {A = ℕ} b 12 1) changes

    -- the slot before the step, by the steps that stand done
    was : (stops creates starts : Bool) → stands_done way stop_feeding ≡ stops → stands_done way create_back ≡ creates → stands_done way start_back ≡ starts
        → slot_of w lane name ≡ way_slot true (is_feeding way name) stops creates starts lane.fresh_at rests
    was stops creates starts a b c =
        open-slot w way lane name opens
        ∙ ap (λ x. way_slot x (is_feeding way name) (stands_done way stop_feeding) (stands_done way create_back) (stands_done way start_back) lane.fresh_at rests) changes
        ∙ ap (λ x. way_slot true (is_feeding way name) x (stands_done way create_back) (stands_done way start_back) lane.fresh_at rests) a
        ∙ ap (λ x. way_slot true (is_feeding way name) stops x (stands_done way start_back) lane.fresh_at rests) b
        ∙ ap (λ x. way_slot true (is_feeding way name) stops creates x lane.fresh_at rests) c

    -- and behind it, while the way is open
    now : (made : Bool) → eqb (next_step way) create_back ≡ made → closes way ≡ false
        → (stops creates starts : Bool) → stands_done (more way) stop_feeding ≡ stops → stands_done (more way) create_back ≡ creates → stands_done (more way) start_back ≡ starts
        → slot_of stepped later name ≡ way_slot true (is_feeding way name) stops creates starts (cond made log_end lane.fresh_at) rests
    now made e f stops creates starts a b c =
        ap (λ l. slot_of stepped l name) (at_lane made false e f)
        ∙ open-slot stepped (more way) (lane_at_step p w way lane made false) name (ap (λ b. cond b None (Some (more way))) f)
        ∙ ap (λ x. way_slot x (is_feeding way name) (stands_done (more way) stop_feeding) (stands_done (more way) create_back) (stands_done (more way) start_back) (made_lane made).fresh_at
        (rest_slot (made_lane made).forward_at (made_lane made).back_at way.before.primary name)) changes
        ∙ by made
        ∙ ap (λ x. way_slot true (is_feeding way name) x (stands_done (more way) create_back) (stands_done (more way) start_back) (cond made log_end lane.fresh_at) rests) a
        ∙ ap (λ x. way_slot true (is_feeding way name) stops x (stands_done (more way) start_back) (cond made log_end lane.fresh_at) rests) b
        ∙ ap (λ x. way_slot true (is_feeding way name) stops creates x (cond made log_end lane.fresh_at) rests) c
      where
        made_lane : Bool → Lane
        made_lane m = lane_at_step p w way lane m false

        by : (m : Bool) → way_slot true (is_feeding way name) (stands_done (more way) stop_feeding) (stands_done (more way) create_back) (stands_done (more way) start_back) (made_lane m).fresh_at
            (rest_slot (made_lane m).forward_at (made_lane m).back_at way.before.primary name)
            ≡ way_slot true (is_feeding way name) (stands_done (more way) stop_feeding) (stands_done (more way) create_back) (stands_done (more way) start_back) (cond m log_end lane.fresh_at) rests
        by true = refl
        by false = refl

    -- a step that is not repeated leads to the next number
    further : (n : ℕ) → n ≢ repeated_step way → next_step way ≡ n → next_step (more way) ≡ suc n
    further n once is = by (next_on way)
      where
        by : OneOn (next_step (more way)) (next_step way) (repeated_step way) → next_step (more way) ≡ suc n
        by (inl e) = omega arith
        by (inr e) = absurd (once (sym is ∙ e.1))

    once : (n : ℕ) → n ≢ 2 → n ≢ 8 → n ≢ repeated_step way
    once n a b = cond-either (λ m. n ≢ m) way.back 2 8 a b

    open_at : (n : ℕ) → next_step way ≡ n → n ≢ 11 → closes way ≡ false
    open_at n is apart = false_from_ne_true (closes way) (λ t. let e = eqb-true (suc (next_step way)) (behind_last way) t in let f = last in absurd (apart (omega arith)))

    stops : next_step way ≡ 4 → Stepped
    stops is =
        let e = further 4 (once 4 (λ x. absurd (omega arith)) (λ x. absurd (omega arith))) is in
        by_number 4 is (now false (ap (λ n. eqb n create_back) is) (open_at 4 is (λ x. absurd (omega arith))) true false false
        (done_by (more way) stop_feeding 5 e (omega arith) (omega arith)) (undone_by (more way) create_back 5 e (omega arith)) (undone_by (more way) start_back 5 e (omega arith))
        ∙ by (is_feeding way name) rests
        ∙ ap (slot_at_step way name 4 log_end) (sym (was false false false (undone_by way stop_feeding 4 is (omega arith)) (undone_by way create_back 4 is (omega arith)) (undone_by way start_back 4 is (omega arith)))))
      where
        by : (f : Bool) (slot : Option Slot) → way_slot true f true false false lane.fresh_at slot ≡ cond f (feeding_stepped way.back 4 (way_slot true f false false false lane.fresh_at slot)) (other_stepped 4 log_end (way_slot true f false false false lane.fresh_at slot))
        by true None = refl
        by true (Some s) = refl
        by false slot = refl

    creates : next_step way ≡ 5 → Stepped
    creates is =
        let e = further 5 (once 5 (λ x. absurd (omega arith)) (λ x. absurd (omega arith))) is in
        by_number 5 is (now true (ap (λ n. eqb n create_back) is) (open_at 5 is (λ x. absurd (omega arith))) true true false
        (done_by (more way) stop_feeding 6 e (omega arith) (omega arith)) (done_by (more way) create_back 6 e (omega arith) (omega arith)) (undone_by (more way) start_back 6 e (omega arith))
        ∙ by (is_feeding way name) rests
        ∙ ap (slot_at_step way name 5 log_end) (sym (was true false false (done_by way stop_feeding 5 is (omega arith) (omega arith)) (undone_by way create_back 5 is (omega arith)) (undone_by way start_back 5 is (omega arith)))))
      where
        by : (f : Bool) (slot : Option Slot) → way_slot true f true true false log_end slot ≡ cond f (feeding_stepped way.back 5 (way_slot true f true false false lane.fresh_at slot)) (other_stepped 5 log_end (way_slot true f true false false lane.fresh_at slot))
        by true slot = refl
        by false slot = refl

    starts : next_step way ≡ 10 → Stepped
    starts is =
        let e = further 10 (once 10 (λ x. absurd (omega arith)) (λ x. absurd (omega arith))) is in
        by_number 10 is (now false (ap (λ n. eqb n create_back) is) (open_at 10 is (λ x. absurd (omega arith))) true true true
        (done_by (more way) stop_feeding 11 e (omega arith) (omega arith)) (done_by (more way) create_back 11 e (omega arith) (omega arith)) (done_by (more way) start_back 11 e (omega arith) (omega arith))
        ∙ by (is_feeding way name) rests
        ∙ ap (slot_at_step way name 10 log_end) (sym (was true true false (done_by way stop_feeding 10 is (omega arith) (omega arith)) (done_by way create_back 10 is (omega arith) (omega arith)) (undone_by way start_back 10 is (omega arith)))))
      where
        by : (f : Bool) (slot : Option Slot) → way_slot true f true true true lane.fresh_at slot ≡ cond f (feeding_stepped way.back 10 (way_slot true f true true false lane.fresh_at slot)) (other_stepped 10 log_end (way_slot true f true true false lane.fresh_at slot))
        by true slot = refl
        by false slot = refl

    freezes : next_step way ≡ 11 → Stepped
    freezes is = by_number 11 is (behind ∙ by way.back name ∙ ap (slot_at_step way name 11 log_end) (sym here))
      where
        closing : closes way ≡ true
        closing = let f = last in eq-eqb (suc (next_step way)) (behind_last way) (omega arith)

        -- the stream that the way has made takes its place
        taken : Bool → Lane
        taken b = cond b (record lane { forward_at = lane.fresh_at }) (record lane { back_at = lane.fresh_at })

        behind : slot_of stepped later name ≡ cond way.back (rest_slot lane.fresh_at lane.back_at false name) (rest_slot lane.forward_at lane.fresh_at true name)
        behind =
            at_close closing
            ∙ ap (λ (l : Lane). rest_slot l.forward_at l.back_at way.after.primary name) (at_lane false true (ap (λ n. eqb n create_back) is) closing ∙ ap (λ b. cond b (taken way.back) lane) changes)
            ∙ ap (λ b. rest_slot (taken way.back).forward_at (taken way.back).back_at b name) (differ-true way.before.primary way.after.primary changes ∙ ap not (turned changes))
            ∙ shape way.back
          where
            shape : (b : Bool) → rest_slot (taken b).forward_at (taken b).back_at (not b) name ≡ cond b (rest_slot lane.fresh_at lane.back_at false name) (rest_slot lane.forward_at lane.fresh_at true name)
            shape true = refl
            shape false = refl

        here : slot_of w lane name ≡ way_slot true (is_feeding way name) true true true lane.fresh_at (rest_slot lane.forward_at lane.back_at way.back name)
        here =
            was true true true (done_by way stop_feeding 11 is (omega arith) (omega arith)) (done_by way create_back 11 is (omega arith) (omega arith)) (done_by way start_back 11 is (omega arith) (omega arith))
            ∙ ap (λ t. way_slot true (is_feeding way name) true true true lane.fresh_at (rest_slot lane.forward_at lane.back_at t name)) (turned changes)

        by : (b : Bool) (n : StreamName) → cond b (rest_slot lane.fresh_at lane.back_at false n) (rest_slot lane.forward_at lane.fresh_at true n)
            ≡ cond (feeds way b n) (feeding_stepped b 11 (way_slot true (feeds way b n) true true true lane.fresh_at (rest_slot lane.forward_at lane.back_at b n)))
            (other_stepped 11 log_end (way_slot true (feeds way b n) true true true lane.fresh_at (rest_slot lane.forward_at lane.back_at b n)))
        by true forward = refl
        by true back = refl
        by false forward = refl
        by false back = refl

    -- any other step
    module _ (not_stop : eqb (next_step way) 4 ≡ false) (not_create : eqb (next_step way) 5 ≡ false) (not_start : eqb (next_step way) 10 ≡ false) (not_last : eqb (next_step way) 11 ≡ false) where
      stays : Stepped
      stays =
          now false not_create (open_at (next_step way) refl (λ at. true≢false (sym (eq-eqb (next_step way) 11 at) ∙ not_last)))
          (stands_done way stop_feeding) (stands_done way create_back) (stands_done way start_back)
          (same_done way stop_feeding not_stop) (same_done way create_back not_create) (same_done way start_back not_start)
          ∙ sym (was (stands_done way stop_feeding) (stands_done way create_back) (stands_done way start_back) refl refl refl)
          ∙ sym (ap (λ t. cond (is_feeding way name) (cond t (in_state stopped slot) (cond (eqb (next_step way) freeze_old) (cond way.back None (in_state frozen slot)) slot)) (other_stepped (next_step way) log_end slot)) not_stop
          ∙ ap (λ t. cond (is_feeding way name) (cond t (cond way.back None (in_state frozen slot)) slot) (other_stepped (next_step way) log_end slot)) not_last
          ∙ ap (λ t. cond (is_feeding way name) slot (cond t (Some (record { state = stopped; position = log_end })) (cond (eqb (next_step way) start_back) (in_state running slot) slot))) not_create
          ∙ ap (λ t. cond (is_feeding way name) slot (cond t (in_state running slot) slot)) not_start
          ∙ either-same (is_feeding way name) slot)
        where
          slot : Option Slot
          slot = slot_of w lane name

    of_writes : Stepped
    of_writes = at_4 (eqb (next_step way) 4) refl
      where
        at_11 : (t : Bool) → eqb (next_step way) 4 ≡ false → eqb (next_step way) 5 ≡ false → eqb (next_step way) 10 ≡ false → eqb (next_step way) 11 ≡ t → Stepped
        at_11 true a b c t = freezes (eqb-true (next_step way) 11 t)
        at_11 false a b c t = stays a b c t

        at_10 : (t : Bool) → eqb (next_step way) 4 ≡ false → eqb (next_step way) 5 ≡ false → eqb (next_step way) 10 ≡ t → Stepped
        at_10 true a b t = starts (eqb-true (next_step way) 10 t)
        at_10 false a b t = at_11 (eqb (next_step way) 11) a b t refl

        at_5 : (t : Bool) → eqb (next_step way) 4 ≡ false → eqb (next_step way) 5 ≡ t → Stepped
        at_5 true a t = creates (eqb-true (next_step way) 5 t)
        at_5 false a t = at_10 (eqb (next_step way) 10) a t refl

        at_4 : (t : Bool) → eqb (next_step way) 4 ≡ t → Stepped
        at_4 true t = stops (eqb-true (next_step way) 4 t)
        at_4 false t = at_5 (eqb (next_step way) 5) t refl

  pub slot-stepped : Stepped
  slot-stepped = by (changes_primary way) refl
    where
      by : (t : Bool) → changes_primary way ≡ t → Stepped
      by true t = of_writes t
      by false t = of_reads t

-- ---- an undo, before the journal

module _ (w : Live) (way : Way) (lane : Lane) (name : StreamName) (opens : w.way ≡ Some way) (settled : w.switched ≡ way.before) (turned : changes_primary way ≡ true → way.before.primary ≡ way.back) (left : next_step way < behind_last way) (before : stands_done way write_journal ≡ false) where
  abbrev undone : Live
  undone = live_undone w way

  abbrev saved : Option Slot
  saved = slot_before_way w lane name

  abbrev Undone : Type 0
  Undone = slot_of undone lane name ≡ slot_undone way name saved (slot_of w lane name)

  abbrev stood : Option Slot
  stood = rest_slot lane.forward_at lane.back_at way.before.primary name

  few : next_step way ≤ 6
  few = few_done way before

  saved_is : saved ≡ stood
  saved_is = before-rest w lane way.before.primary name (ap (λ o. (option_map_or (λ (x : Way). x.before) o w.switched).primary) opens)

  none_started : stands_done way start_back ≡ false
  none_started = undone_by way start_back (next_step way) refl (omega (arith, few))

  stood_done : (stops creates : Bool) → stands_done way stop_feeding ≡ stops → stands_done way create_back ≡ creates
      → slot_of w lane name ≡ way_slot (changes_primary way) (is_feeding way name) stops creates false lane.fresh_at stood
  stood_done stops creates a b =
      open-slot w way lane name opens
      ∙ ap (λ x. way_slot (changes_primary way) (is_feeding way name) x (stands_done way create_back) (stands_done way start_back) lane.fresh_at stood) a
      ∙ ap (λ x. way_slot (changes_primary way) (is_feeding way name) stops x (stands_done way start_back) lane.fresh_at stood) b
      ∙ ap (λ x. way_slot (changes_primary way) (is_feeding way name) stops creates x lane.fresh_at stood) none_started

  -- an undo of another step leaves the slot
  other_step : eqb (last_step way) stop_feeding ≡ false → eqb (last_step way) create_back ≡ false → slot_undone way name saved (slot_of w lane name) ≡ slot_of w lane name
  other_step a b =
      ap (λ t. cond (is_feeding way name) (cond t (in_state running (slot_of w lane name)) (slot_of w lane name)) (cond (eqb (last_step way) create_back) saved (slot_of w lane name))) a
      ∙ ap (λ t. cond (is_feeding way name) (slot_of w lane name) (cond t saved (slot_of w lane name))) b
      ∙ either-same (is_feeding way name) (slot_of w lane name)

  not_number : (n : ℕ) → last_step way ≢ n → eqb (last_step way) n ≡ false
  not_number n apart = false_from_ne_true (eqb (last_step way) n) (λ t. apart (eqb-true (last_step way) n t))

  untouched : (c f : Bool) (slot : Option Slot) → way_slot c f false false false lane.fresh_at slot ≡ slot
  untouched true true slot = same-state slot
  untouched true false slot = refl
  untouched false f slot = refl

  -- the way is closed: no step of streams stood done
  closed : eqb (way.done - 1) 0 ≡ true → Undone
  closed t = behind ∙ sym (other_step (not_number 4 (λ e. absurd (omega (arith, e, last_is)))) (not_number 5 (λ e. absurd (omega (arith, e, last_is)))) ∙ here)
    where
      none : next_step way ≤ 2
      none =
          let first = first_step-le way in let few_left = eqb-true (way.done - 1) 0 t in let high = repeated-ge way in
          let is = step-first way (next_place way) (omega arith) in omega arith

      last_is : last_step way ≤ 1
      last_is =
          let first = first_step-le way in let few_left = eqb-true (way.done - 1) 0 t in let high = repeated-ge way in
          let is = step-first way (next_place way - 1) (omega arith) in omega arith

      behind : slot_of undone lane name ≡ stood
      behind = closed-slot undone lane name (ap (λ b. cond b None (Some (fewer way))) t) ∙ ap (λ (x : TypeSet). rest_slot lane.forward_at lane.back_at x.primary name) settled

      here : slot_of w lane name ≡ stood
      here =
          stood_done false false (undone_by way stop_feeding (next_step way) refl (omega (arith, none))) (undone_by way create_back (next_step way) refl (omega (arith, none)))
          ∙ untouched (changes_primary way) (is_feeding way name) stood

  module _ (more_left : eqb (way.done - 1) 0 ≡ false) where
    some_done : 2 ≤ way.done
    some_done = let apart : way.done - 1 ≢ 0 = λ e. true≢false (sym (eq-eqb (way.done - 1) 0 e) ∙ more_left) in omega (arith, apart)

    changes : changes_primary way ≡ true
    changes = by (changes_primary way) refl
      where
        -- with two places done the next step is a later one
        two : (t : Bool) → leb (next_place way) (repeated_step way) ≡ t → behind_last way ≡ 1 → ⊥
        two true t last =
            let here = leb-true (next_place way) (repeated_step way) t in let is = step-first way (next_place way) here in let d = some_done in omega arith
        two false t last =
            let behind = leb-false (next_place way) (repeated_step way) t in let is = step-behind way (next_place way) (omega arith) in
            let high = repeated-ge way in omega arith

        by : (t : Bool) → changes_primary way ≡ t → changes_primary way ≡ true
        by true t = t
        by false t = let last : behind_last way ≡ 1 = ap (λ b. cond {A = ℕ} b 12 1) t in
            absurd (two (leb (next_place way) (repeated_step way)) refl last)

    fewer_started : stands_done (fewer way) start_back ≡ false
    fewer_started = let le = fewer-le way in undone_by (fewer way) start_back (next_step (fewer way)) refl (omega (arith, few, le))

    now_done : (stops creates : Bool) → stands_done (fewer way) stop_feeding ≡ stops → stands_done (fewer way) create_back ≡ creates
        → slot_of undone lane name ≡ way_slot true (is_feeding way name) stops creates false lane.fresh_at stood
    now_done stops creates a b =
        open-slot undone (fewer way) lane name (ap (λ b. cond b None (Some (fewer way))) more_left)
        ∙ ap (λ x. way_slot x (is_feeding way name) (stands_done (fewer way) stop_feeding) (stands_done (fewer way) create_back) (stands_done (fewer way) start_back) lane.fresh_at stood) changes
        ∙ ap (λ x. way_slot true (is_feeding way name) x (stands_done (fewer way) create_back) (stands_done (fewer way) start_back) lane.fresh_at stood) a
        ∙ ap (λ x. way_slot true (is_feeding way name) stops x (stands_done (fewer way) start_back) lane.fresh_at stood) b
        ∙ ap (λ x. way_slot true (is_feeding way name) stops creates x lane.fresh_at stood) fewer_started

    was_done_by : (stops creates : Bool) → stands_done way stop_feeding ≡ stops → stands_done way create_back ≡ creates
        → slot_of w lane name ≡ way_slot true (is_feeding way name) stops creates false lane.fresh_at stood
    was_done_by stops creates a b = stood_done stops creates a b ∙ ap (λ c. way_slot c (is_feeding way name) stops creates false lane.fresh_at stood) changes

    -- the last step that stands done is the next one again
    next_again : next_step (fewer way) ≡ last_step way
    next_again = let d = some_done in let e : first_step way + (way.done - 1) ≡ next_place way - 1 = omega arith in ap (step_at_place way) e

    one_before : OneOn (next_step way) (last_step way) (repeated_step way)
    one_before =
        let d = some_done in
        let e : suc (next_place way - 1) ≡ next_place way = omega arith in
        subst (λ x. OneOn (step_at_place way x) (last_step way) (repeated_step way)) e (one_on way (next_place way - 1))

    last_by : (n : ℕ) → suc n ≢ repeated_step way → next_step way ≡ suc n → last_step way ≡ n
    last_by n once is = by one_before
      where
        by : OneOn (next_step way) (last_step way) (repeated_step way) → last_step way ≡ n
        by (inl e) = omega arith
        by (inr e) = absurd (once (sym is ∙ e.0 ∙ e.1))

    next_by : (n : ℕ) → n ≢ repeated_step way → last_step way ≡ n → next_step way ≡ suc n
    next_by n once is = by one_before
      where
        by : OneOn (next_step way) (last_step way) (repeated_step way) → next_step way ≡ suc n
        by (inl e) = omega arith
        by (inr e) = absurd (once (sym is ∙ e.1))

    undo_once : (n : ℕ) → n ≢ 2 → n ≢ 8 → n ≢ repeated_step way
    undo_once n a b = cond-either (λ m. n ≢ m) way.back 2 8 a b

    four : 4 ≢ repeated_step way
    four = undo_once 4 (λ x. absurd (omega arith)) (λ x. absurd (omega arith))

    five : 5 ≢ repeated_step way
    five = undo_once 5 (λ x. absurd (omega arith)) (λ x. absurd (omega arith))

    six : 6 ≢ repeated_step way
    six = undo_once 6 (λ x. absurd (omega arith)) (λ x. absurd (omega arith))

    one_less : (n : ℕ) → suc n ≢ repeated_step way → next_step way ≡ suc n → next_step (fewer way) ≡ n
    one_less n once is = next_again ∙ last_by n once is

    -- the feeding stream runs again
    runs_again : next_step way ≡ 5 → Undone
    runs_again is =
        now_done false false (undone_by (fewer way) stop_feeding 4 (one_less 4 five is) (omega arith)) (undone_by (fewer way) create_back 4 (one_less 4 five is) (omega arith))
        ∙ again
        ∙ sym (ap (λ s. cond (is_feeding way name) (in_state running s) s) here)
        ∙ sym (ap (λ t. cond (is_feeding way name) (cond t (in_state running (slot_of w lane name)) (slot_of w lane name)) (cond (eqb (last_step way) create_back) saved (slot_of w lane name))) at_stop
        ∙ ap (λ t. cond (is_feeding way name) (in_state running (slot_of w lane name)) (cond t saved (slot_of w lane name))) not_create)
      where
        at_stop : eqb (last_step way) stop_feeding ≡ true
        at_stop = eq-eqb (last_step way) stop_feeding (last_by 4 five is)

        not_create : eqb (last_step way) create_back ≡ false
        not_create = not_number 5 (λ e. let f = last_by 4 five is in absurd (omega arith))

        here : slot_of w lane name ≡ way_slot true (is_feeding way name) true false false lane.fresh_at (rest_slot lane.forward_at lane.back_at way.back name)
        here =
            was_done_by true false (done_by way stop_feeding 5 is (omega arith) (omega arith)) (undone_by way create_back 5 is (omega arith))
            ∙ ap (λ t. way_slot true (is_feeding way name) true false false lane.fresh_at (rest_slot lane.forward_at lane.back_at t name)) (turned changes)

        ran : (b : Bool) (n : StreamName) → way_slot true (feeds way b n) false false false lane.fresh_at (rest_slot lane.forward_at lane.back_at b n)
            ≡ cond (feeds way b n) (in_state running (way_slot true (feeds way b n) true false false lane.fresh_at (rest_slot lane.forward_at lane.back_at b n)))
            (way_slot true (feeds way b n) true false false lane.fresh_at (rest_slot lane.forward_at lane.back_at b n))
        ran true forward = refl
        ran true back = refl
        ran false forward = refl
        ran false back = refl

        again : way_slot true (is_feeding way name) false false false lane.fresh_at stood
            ≡ cond (is_feeding way name) (in_state running (way_slot true (is_feeding way name) true false false lane.fresh_at (rest_slot lane.forward_at lane.back_at way.back name)))
            (way_slot true (is_feeding way name) true false false lane.fresh_at (rest_slot lane.forward_at lane.back_at way.back name))
        again =
            ap (λ t. way_slot true (is_feeding way name) false false false lane.fresh_at (rest_slot lane.forward_at lane.back_at t name)) (turned changes) ∙ ran way.back name

    -- what stood before the way stands in the place of the new stream again
    as_before : next_step way ≡ 6 → Undone
    as_before is =
        now_done true false (done_by (fewer way) stop_feeding 5 (one_less 5 six is) (omega arith) (omega arith)) (undone_by (fewer way) create_back 5 (one_less 5 six is) (omega arith))
        ∙ by (is_feeding way name)
        ∙ ap (λ s. cond (is_feeding way name) s stood) (sym here)
        ∙ ap (λ s. cond (is_feeding way name) (slot_of w lane name) s) (sym saved_is)
        ∙ sym (ap (λ t. cond (is_feeding way name) (cond t (in_state running (slot_of w lane name)) (slot_of w lane name)) (cond (eqb (last_step way) create_back) saved (slot_of w lane name))) not_stop
        ∙ ap (λ t. cond (is_feeding way name) (slot_of w lane name) (cond t saved (slot_of w lane name))) at_create)
      where
        not_stop : eqb (last_step way) stop_feeding ≡ false
        not_stop = not_number 4 (λ e. let f = last_by 5 six is in absurd (omega arith))

        at_create : eqb (last_step way) create_back ≡ true
        at_create = eq-eqb (last_step way) create_back (last_by 5 six is)

        here : slot_of w lane name ≡ way_slot true (is_feeding way name) true true false lane.fresh_at stood
        here = was_done_by true true (done_by way stop_feeding 6 is (omega arith) (omega arith)) (done_by way create_back 6 is (omega arith) (omega arith))

        by : (f : Bool) → way_slot true f true false false lane.fresh_at stood ≡ cond f (way_slot true f true true false lane.fresh_at stood) stood
        by true = refl
        by false = refl

    -- any other
    stays_undone : last_step way ≢ 4 → last_step way ≢ 5 → Undone
    stays_undone a b =
        now_done (stands_done way stop_feeding) (stands_done way create_back) (kept stop_feeding (λ e. a e)) (kept create_back (λ e. b e))
        ∙ sym (other_step (not_number 4 a) (not_number 5 b)
        ∙ was_done_by (stands_done way stop_feeding) (stands_done way create_back) refl refl)
      where
        kept : (n : ℕ) → last_step way ≢ n → stands_done (fewer way) n ≡ stands_done way n
        kept n apart = both_ways (stands_done (fewer way) n) (stands_done way n) (was_done way n)
            (λ t. let r = and_parts (leb (first_step way) n) (ltb n (next_step way)) t in
            and_from (leb (first_step way) n) (ltb n (next_step (fewer way))) r.0 (lt-ltb n (next_step (fewer way)) (by one_before (ltb-true n (next_step way) r.1) next_again)))
          where
            by : OneOn (next_step way) (last_step way) (repeated_step way) → n < next_step way → next_step (fewer way) ≡ last_step way → n < next_step (fewer way)
            by (inl e) lt same = omega (arith, e, lt, same, apart)
            by (inr e) lt same = let f = e.0 in omega (arith, f, lt, same)

    still_open : Undone
    still_open = at_4 (eqb (last_step way) 4) refl
      where
        at_5 : (t : Bool) → last_step way ≢ 4 → eqb (last_step way) 5 ≡ t → Undone
        at_5 true a t = as_before (next_by 5 five (eqb-true (last_step way) 5 t))
        at_5 false a t = stays_undone a (λ e. true≢false (sym (eq-eqb (last_step way) 5 e) ∙ t))

        at_4 : (t : Bool) → eqb (last_step way) 4 ≡ t → Undone
        at_4 true t = runs_again (next_by 4 four (eqb-true (last_step way) 4 t))
        at_4 false t = at_5 (eqb (last_step way) 5) (λ e. true≢false (sym (eq-eqb (last_step way) 4 e) ∙ t)) refl

  pub slot-undone : Undone
  slot-undone = by (eqb (way.done - 1) 0) refl
    where
      by : (t : Bool) → eqb (way.done - 1) 0 ≡ t → Undone
      by true t = closed t
      by false t = still_open t
