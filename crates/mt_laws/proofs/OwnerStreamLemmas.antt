-- Of each live workflow one stream reads the owner's log.
use Rattle.std.proofs.Common.{◌≡◌, ◌≢◌, Bool, true, false, not, cond, List, ℕ, Option, None, Some, refl, sym, ap, ◌∙◌, arith}
use Rattle.std.specs.Option.{option_map_or}
use Rattle.std.specs.Prelude.{◌&&◌}
use Rattle.mt_names.specs.Names.{same_text}
use Rattle.mt_plain.specs.Events.{StreamName, forward, back, Slot, running, stopped, frozen, Way}
use Rattle.mt_plain.specs.Plain.{Lane, Live, Plain, changes_primary, live_at, owner, stands_done, start_back, stop_feeding, write_journal}
use Rattle.mt_plain.specs.Slots.{feeding_slot, is_feeding, other_slot, read_side, slot_at_rest, slot_by_way, slot_of}
use Rattle.mt_laws.specs.WayBack.{IsReached}
use Rattle.mt_laws.proofs.FedLemmas.{at_by, owner_before, owner_behind}
use Rattle.mt_laws.proofs.LiveLemmas.{find_some}
use Rattle.mt_laws.proofs.OwnerLemmas.{IsJournaled, reached_journaled}
use Rattle.mt_laws.proofs.PartLemmas.{IsSettled}
use Rattle.mt_laws.proofs.PlainWords.{side_by}
use Rattle.mt_laws.proofs.ReachLemmas.{reached_has_parts}
use Rattle.mt_laws.proofs.StreamLemmas.{IsTurned, reached_turned}
use Rattle.mt_laws.proofs.WayStepLemmas.{done_in_order}

-- the stream that reads a side
abbrev reader : (is_target : Bool) → StreamName
reader true = back
reader false = forward

reader-side : (w : Live) (b : Bool) → read_side w (reader b) ≡ side_by w b
reader-side w true = refl
reader-side w false = refl

-- at rest that of the owner runs
reader-rests : (lane : Lane) (b : Bool) → slot_at_rest lane b (reader b) ≡ Some (record { state = running; position = at_by lane b })
reader-rests lane true = refl
reader-rests lane false = refl

runs_or_stops : (t : Bool) → cond t running stopped ≢ frozen
runs_or_stops true = λ e. absurd cc
runs_or_stops false = λ e. absurd cc

abbrev HasReader : Live → Lane → Type 0
HasReader w lane = (stream : StreamName) × (s : Slot) × (slot_of w lane stream ≡ Some s) × (read_side w stream ≡ owner w) × (s.state ≢ frozen)

module _ (w : Live) (settled : IsSettled w) (journaled : IsJournaled w) (turned : IsTurned w) (lane : Lane) where
  at_rest : w.way ≡ None → HasReader w lane
  at_rest rests =
      let b = w.switched.primary in
      (reader b, _, slot ∙ reader-rests lane b, reader-side w b, runs_or_stops true)
    where
      slot : slot_of w lane (reader w.switched.primary) ≡ slot_at_rest lane w.switched.primary (reader w.switched.primary)
      slot =
          let n = reader w.switched.primary in
          ap (λ o. slot_by_way w lane o n) rests ∙ ap (λ o. slot_at_rest lane (option_map_or (λ way. way.before) o w.switched).primary n) rests

  module _ (way : Way) (opens : w.way ≡ Some way) where
    abbrev owned : Bool
    owned = way.before.primary

    -- a slot, by whether the way changes writes and the stream feeds it
    abbrev by_tests : StreamName → (owned changes feeds : Bool) → Option Slot
    by_tests n owned changes feeds =
        cond (not changes) (slot_at_rest lane owned n) (cond feeds (feeding_slot lane way (slot_at_rest lane owned n)) (other_slot lane way (slot_at_rest lane owned n)))

    slot_is : (n : StreamName) (changes feeds : Bool) → changes_primary way ≡ changes → is_feeding way n ≡ feeds → slot_of w lane n ≡ by_tests n owned changes feeds
    slot_is n changes feeds c f =
        ap (λ o. slot_by_way w lane o n) opens
        ∙ ap (λ o. by_tests n (option_map_or (λ v. v.before) o w.switched).primary (changes_primary way) (is_feeding way n)) opens
        ∙ ap (λ t. by_tests n owned t (is_feeding way n)) c ∙ ap (by_tests n owned changes) f

    -- which one feeds the way
    reader-feeds : (b : Bool) → way.back ≡ b → is_feeding way (reader b) ≡ true
    reader-feeds true e = e
    reader-feeds false e = ap not e

    reader-other : (b : Bool) → way.back ≡ b → is_feeding way (reader (not b)) ≡ false
    reader-other true e = ap not e
    reader-other false e = e

    -- of a way of reads
    reads_alone : changes_primary way ≡ false → HasReader w lane
    reads_alone c = (
      reader owned,
      _,
      slot_is (reader owned) false (is_feeding way (reader owned)) c refl ∙ reader-rests lane owned,
      reader-side w owned ∙ sym (owner_before w settled journaled way opens (ap (λ t. t && stands_done way write_journal) c)),
      runs_or_stops true,
    )

    abbrev rested : Slot
    rested = record { state = running; position = at_by lane owned }

    -- up to the journal
    feeds_still : changes_primary way ≡ true → stands_done way write_journal ≡ false → HasReader w lane
    feeds_still c j =
        let feeds = ap (λ b. is_feeding way (reader b)) (turned way opens c) ∙ reader-feeds way.back refl in
        let slot = slot_is (reader owned) true true c feeds ∙ ap (feeding_slot lane way) (reader-rests lane owned) in
        let reads = reader-side w owned ∙ sym (owner_before w settled journaled way opens (ap (λ t. t && stands_done way write_journal) c ∙ j)) in
        by (stands_done way stop_feeding) refl slot reads
      where
        by : (t : Bool) → stands_done way stop_feeding ≡ t → slot_of w lane (reader owned) ≡ Some (cond (stands_done way stop_feeding) (record rested { state = stopped }) rested) → read_side w (reader owned) ≡ owner w → HasReader w lane
        by true t slot reads = (reader owned, record rested { state = stopped }, slot ∙ ap (λ b. Some (cond b (record rested { state = stopped }) rested)) t, reads, runs_or_stops false)
        by false t slot reads = (reader owned, rested, slot ∙ ap (λ b. Some (cond b (record rested { state = stopped }) rested)) t, reads, runs_or_stops true)

    -- behind it
    made_new : changes_primary way ≡ true → stands_done way write_journal ≡ true → HasReader w lane
    made_new c j =
        let n = reader (not owned) in
        let other = ap (λ b. is_feeding way (reader (not b))) (turned way opens c) ∙ reader-other way.back refl in
        let fresh : Slot = record { state = cond (stands_done way start_back) running stopped; position = lane.fresh_at } in
        let slot = slot_is n true false c other ∙ ap (λ b. cond b (Some fresh) (slot_at_rest lane owned n)) (done_in_order way 4 write_journal (omega arith) j) in
        (n, fresh, slot, reader-side w (not owned) ∙ sym (owner_behind w settled journaled way opens c j), runs_or_stops (stands_done way start_back))

    on_way : (c : Bool) → changes_primary way ≡ c → (j : Bool) → stands_done way write_journal ≡ j → HasReader w lane
    on_way false c j e = reads_alone c
    on_way true c false j = feeds_still c j
    on_way true c true j = made_new c j

  has_reader : (o : Option Way) → w.way ≡ o → HasReader w lane
  has_reader None rests = at_rest rests
  has_reader (Some way) opens = on_way way opens (changes_primary way) refl (stands_done way write_journal) refl

pub stream_of_the_owner : (p : Plain) → IsReached p → (name : List ℕ) (w : Live) → live_at p name ≡ Some w → (lane : Lane) → HasReader w lane
stream_of_the_owner p reached name w live lane =
    let in_it = (find_some (λ v. same_text v.name name) p.lives w live).0 in
    has_reader w ((reached_has_parts p reached).settled w in_it) (reached_journaled p reached w in_it) (reached_turned p reached w in_it) lane w.way refl
