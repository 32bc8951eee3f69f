-- While one stream of a workflow runs, the other is not in use.
use Rattle.std.proofs.Common.{◌≡◌, ◌≢◌, ℕ, Bool, true, false, not, cond, List, Option, None, Some, refl, sym, ap, ◌∙◌, arith}
use Rattle.std.proofs.lemmas.Bool.{not-false, true≢false}
use Rattle.std.specs.Prelude.{◌&&◌}
use Rattle.mt_plain.specs.Events.{StreamName, forward, back, Slot, Way}
use Rattle.mt_plain.specs.Plain.{Lane, Live, Plain, changes_primary, create_back, live_at, owner, stands_done, stop_feeding}
use Rattle.mt_plain.specs.Slots.{feeding_slot, is_feeding, is_fresh, other_slot, read_side, running_at, slot_before_way, slot_by_way, slot_of}
use Rattle.mt_laws.specs.Reached.{IsIdle}
use Rattle.mt_laws.specs.WayBack.{IsReached}
use Rattle.mt_laws.proofs.InPlaceLemmas.{live_in}
use Rattle.mt_laws.proofs.ReachLemmas.{reached_has_parts}
use Rattle.mt_laws.proofs.StreamLemmas.{feeding_runs, runs_at_the_owner}
use Rattle.mt_laws.proofs.WayStepLemmas.{done_in_order}

-- of two streams one feeds a way
other_feeds : (way : Way) (stream other : StreamName) → stream ≢ other → is_feeding way other ≡ false → is_feeding way stream ≡ true
other_feeds way forward forward differ f = absurd (differ refl)
other_feeds way forward back differ f = ap not f
other_feeds way back forward differ f = not-false way.back f
other_feeds way back back differ f = absurd (differ refl)

none-of : (c f d : Bool) → (c ≡ true → f ≡ false → d ≡ false) → (c && not f && d) ≡ false
none-of false f d holds = refl
none-of true true d holds = refl
none-of true false d holds = holds refl refl

-- a stream is made after the feeding one was stopped
not_fresh : (w : Live) (lane : Lane) (stream other : StreamName) → stream ≢ other → (at : ℕ) (o : Option Way) → running_at (slot_by_way w lane o stream) ≡ Some at → is_fresh o other ≡ false
not_fresh w lane stream other differ at None e = refl
not_fresh w lane stream other differ at (Some way) e = none-of (changes_primary way) (is_feeding way other) (stands_done way create_back) waits
  where
    rest : Option Slot
    rest = slot_before_way w lane stream

    waits : changes_primary way ≡ true → is_feeding way other ≡ false → stands_done way create_back ≡ false
    waits changes f = by (stands_done way create_back) refl
      where
        feeds : running_at (feeding_slot lane way (slot_before_way w lane stream)) ≡ Some at
        feeds =
            sym (ap (λ b. running_at (cond (not b) (slot_before_way w lane stream) (cond (is_feeding way stream) (feeding_slot lane way (slot_before_way w lane stream)) (other_slot lane way (slot_before_way w lane stream))))) changes
            ∙ ap (λ b. running_at (cond b (feeding_slot lane way (slot_before_way w lane stream)) (other_slot lane way (slot_before_way w lane stream)))) (other_feeds way stream other differ f))
            ∙ e

        by : (t : Bool) → stands_done way create_back ≡ t → stands_done way create_back ≡ false
        by true t =
            let r = feeding_runs (stands_done way stop_feeding) (slot_before_way w lane stream) at feeds in
            absurd (true≢false (sym (done_in_order way 3 create_back (omega arith) t) ∙ r.0))
        by false t = t

module _ (p : Plain) (reached : IsReached p) (name : List ℕ) (w : Live) (live : live_at p name ≡ Some w) where
  sides-apart : w.source ≡ w.target → ⊥
  sides-apart = ((reached_has_parts p reached).placed w (live_in p name w live)).sides

  reads-apart : (stream other : StreamName) → stream ≢ other → read_side w stream ≡ read_side w other → ⊥
  reads-apart forward forward differ e = differ refl
  reads-apart forward back differ e = sides-apart e
  reads-apart back forward differ e = sides-apart (sym e)
  reads-apart back back differ e = differ refl

  module _ (lane : Lane) (stream other : StreamName) (differ : stream ≢ other) (at : ℕ) (runs : running_at (slot_of w lane stream) ≡ Some at) where
    reads_other : read_side w other ≢ owner w
    reads_other e = reads-apart stream other differ (runs_at_the_owner p reached name w live lane stream at runs ∙ sym e)

    idle_stands : (o : Option ℕ) → running_at (slot_of w lane other) ≡ o → running_at (slot_of w lane other) ≡ None
    idle_stands None e = e
    idle_stands (Some n) e = absurd (reads_other (runs_at_the_owner p reached name w live lane other n e))

    pub other_is_idle : IsIdle w lane other
    other_is_idle = record {
      stands = idle_stands (running_at (slot_of w lane other)) refl;
      reads = reads_other;
      old = not_fresh w lane stream other differ at w.way runs;
    }
