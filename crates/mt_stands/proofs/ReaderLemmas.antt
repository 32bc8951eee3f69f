-- The stream that reads the owner's log.
use Rattle.std.proofs.Common.{◌≡◌, ◌≢◌, ℕ, ◌≤◌, Bool, true, false, not, ◌||◌, cond, nat_le, nat_lt, Option, Some, None, refl, sym, ap, ◌∙◌, arith}
use Rattle.std.proofs.lemmas.Bool.{and_parts, le-leb, lt-ltb, ltb-true, true≢false}
use Rattle.std.specs.Option.{option_map_or}
use Rattle.mt_names.specs.declared.types.TypeSet.{TypeSet}
use Rattle.mt_plain.specs.Events.{StreamName, Slot, forward, back, running, stopped, frozen, Way}
use Rattle.mt_plain.specs.Plain.{Lane, Live, before_way, changed_types, changes_primary, create_back, first_step, next_step, owner, stands_done, start_back, stop_feeding, write_journal}
use Rattle.mt_plain.specs.Slots.{feeding_slot, is_feeding, other_slot, read_side, slot_at_rest, slot_by_way, slot_of}
use Rattle.mt_laws.specs.Reached.{HandsOver, IsOnCourse}
use Rattle.mt_stands.specs.RowPurges.{IsRead}

runs≢frozen : running ≢ frozen
runs≢frozen e = absurd cc

stops≢frozen : stopped ≢ frozen
stops≢frozen e = absurd cc

-- a stream that runs or is stopped
moves : (b : Bool) → cond b running stopped ≢ frozen
moves true = runs≢frozen
moves false = stops≢frozen

moves-too : (b : Bool) → cond b stopped running ≢ frozen
moves-too true = stops≢frozen
moves-too false = runs≢frozen

-- no way is open, or one that leaves the owner
pub rests : (w : Live) (lane : Lane) → ((name : StreamName) → slot_of w lane name ≡ slot_at_rest lane w.switched.primary name) → IsRead w lane
rests w lane rest = by w.switched.primary refl
  where
    by : (b : Bool) → w.switched.primary ≡ b → IsRead w lane
    by false e = record {
      stream = forward;
      slot = record { state = running; position = lane.forward_at };
      there = rest forward ∙ rw e refl;
      moves_on = runs≢frozen;
      reads = rw e refl;
    }
    by true e = record {
      stream = back;
      slot = record { state = running; position = lane.back_at };
      there = rest back ∙ rw e refl;
      moves_on = runs≢frozen;
      reads = rw e refl;
    }

-- the step before the journal stands done with it
done-before : (way : Way) → stands_done way write_journal ≡ true → stands_done way create_back ≡ true
done-before way done = by (first_step way) refl (and_parts (nat_le (first_step way) 6) (nat_lt 6 (next_step way)) done)
  where
    low : (first : ℕ) → first_step way ≡ first → first ≤ 1
    low first e = lows ((changed_types way).replica || (changed_types way).rdonly) e
      where
        lows : (b : Bool) → cond b 0 1 ≡ first → first ≤ 1
        lows true e = omega (arith, e)
        lows false e = omega (arith, e)

    by : (first : ℕ) → first_step way ≡ first → (nat_le (first_step way) 6 ≡ true) × (nat_lt 6 (next_step way) ≡ true) → stands_done way create_back ≡ true
    by first e parts =
        let at = low first e in
        let behind = ltb-true 6 (next_step way) parts.1 in
        rw (le-leb (first_step way) 5 (omega (arith, e, at)), lt-ltb 5 (next_step way) (omega (arith, behind))) refl

module _ (w : Live) (lane : Lane) (way : Way) (is : w.way ≡ Some way) (course : IsOnCourse w way) where
  slot-is : (name : StreamName) → slot_of w lane name ≡ slot_by_way w lane (Some way) name
  slot-is name = ap (λ o. slot_by_way w lane o name) is

  before-is : before_way w ≡ way.before
  before-is = ap (λ (o : Option Way). option_map_or (λ (x : Way). x.before) o w.switched) is

  -- a way of reads leaves the owner
  pub reads-only : changes_primary way ≡ false → IsRead w lane
  reads-only none = rests w lane (λ name. slot-is name ∙ ap (λ b. cond (not b) (slot_at_rest lane (before_way w).primary name) (cond (is_feeding way name) (feeding_slot lane way (slot_at_rest lane (before_way w).primary name)) (other_slot lane way (slot_at_rest lane (before_way w).primary name)))) none
      ∙ ap (λ (t : TypeSet). slot_at_rest lane t.primary name) (before-is ∙ sym (course.before (by (stands_done way write_journal) refl))))
    where
      by : (b : Bool) → stands_done way write_journal ≡ b → stands_done way write_journal ≡ false
      by false e = e
      by true e = absurd (true≢false (sym (course.journals e) ∙ none))

  -- a slot on a way that changes writes
  slot-on : changes_primary way ≡ true → (name : StreamName) → slot_of w lane name ≡ cond (is_feeding way name) (feeding_slot lane way (slot_at_rest lane way.before.primary name)) (other_slot lane way (slot_at_rest lane way.before.primary name))
  slot-on changes name =
      slot-is name ∙ ap (λ b. cond (not b) (slot_at_rest lane (before_way w).primary name) (cond (is_feeding way name) (feeding_slot lane way (slot_at_rest lane (before_way w).primary name)) (other_slot lane way (slot_at_rest lane (before_way w).primary name)))) changes
      ∙ ap (λ (t : TypeSet). cond (is_feeding way name) (feeding_slot lane way (slot_at_rest lane t.primary name)) (other_slot lane way (slot_at_rest lane t.primary name))) before-is

  -- before the journal the feeding stream, and behind it the one that the way made
  pub writes : changes_primary way ≡ true → HandsOver w way → IsRead w lane
  writes changes hands = by (stands_done way write_journal) refl way.back refl
    where
      fed : (name : StreamName) (at : ℕ) → is_feeding way name ≡ true → slot_at_rest lane way.before.primary name ≡ Some (record { state = running; position = at }) → read_side w name ≡ owner w → (b : Bool) → stands_done way stop_feeding ≡ b → IsRead w lane
      fed name at feeds there reads b e = record {
        stream = name;
        slot = record { state = cond b stopped running; position = at };
        there = slot-on changes name ∙ rw (feeds, there, e) (same b);
        moves_on = moves-too b;
        reads = reads;
      }
        where
          same : (b : Bool) → (let s : Slot = record { state = running; position = at } in Some (cond b (record s { state = stopped }) s)) ≡ Some (record { state = cond b stopped running; position = at })
          same true = refl
          same false = refl

      made : (name : StreamName) → is_feeding way name ≡ false → stands_done way create_back ≡ true → read_side w name ≡ owner w → IsRead w lane
      made name other done reads = record {
        stream = name;
        slot = record { state = cond (stands_done way start_back) running stopped; position = lane.fresh_at };
        there = slot-on changes name ∙ rw (other, done) refl;
        moves_on = moves (stands_done way start_back);
        reads = reads;
      }

      by : (b : Bool) → stands_done way write_journal ≡ b → (k : Bool) → way.back ≡ k → IsRead w lane
      by false e false k = fed forward lane.forward_at (rw k refl) (rw (hands.before, k) refl) (sym (hands.owned e ∙ hands.old ∙ ap (λ b. cond b w.target w.source) k)) (stands_done way stop_feeding) refl
      by false e true k = fed back lane.back_at k (rw (hands.before, k) refl) (sym (hands.owned e ∙ hands.old ∙ ap (λ b. cond b w.target w.source) k)) (stands_done way stop_feeding) refl
      by true e false k = made back k (done-before way e) (sym (hands.handed e ∙ hands.new ∙ ap (λ b. cond b w.source w.target) k))
      by true e true k = made forward (rw k refl) (done-before way e) (sym (hands.handed e ∙ hands.new ∙ ap (λ b. cond b w.source w.target) k))

-- by the way that is open, if one is
pub read-by_owner : (w : Live) (lane : Lane) → ((way : Way) → w.way ≡ Some way → IsOnCourse w way) → ((way : Way) → w.way ≡ Some way → changes_primary way ≡ true → HandsOver w way) → IsRead w lane
read-by_owner w lane course hands = by w.way refl
  where
    by : (o : Option Way) → w.way ≡ o → IsRead w lane
    by None e = rests w lane (λ name. ap (λ o. slot_by_way w lane o name) e ∙ ap (λ (t : TypeSet). slot_at_rest lane t.primary name) (ap (λ (o : Option Way). option_map_or (λ (x : Way). x.before) o w.switched) e))
    by (Some way) e = on (changes_primary way) refl
      where
        on : (b : Bool) → changes_primary way ≡ b → IsRead w lane
        on false none = reads-only w lane way e (course way e) none
        on true changes = writes w lane way e (course way e) changes (hands way e changes)
