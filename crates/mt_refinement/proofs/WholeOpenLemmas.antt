-- What is kept of an open way is kept for its workflow with other streams too; and no stream runs behind the step that makes a new one,
-- until the journal has the way's entry.
use Rattle.std.proofs.Common.{◌≡◌, ℕ, zero, suc, ◌<◌, Bool, true, false, not, cond, length, List, [], ◌∷◌, map, Option, Some, refl, sym, ap, ◌∙◌, subst, arith}
use Rattle.std.proofs.lemmas.Bool.{true≢false}
use Rattle.std.specs.Prelude.{option_map}
use Rattle.mt_journal.specs.declared.entry.JournalEntry.{JournalEntry}
use Rattle.mt_steps.specs.declared.log.OpenWay.{OpenWay}
use Rattle.mt_steps.specs.Streams.{other_name}
use Rattle.mt_stream.specs.Streams.{StreamValue}
use Rattle.mt_workflow.specs.Workflows.{LaneState, WorkflowState, change_lane, with_lane_slot, with_slot}
use Rattle.mt_plain.specs.Events.{StreamName, Slot, Way}
use Rattle.mt_plain.specs.Plain.{Lane, Live, behind_last, changes_primary, create_back, next_step, start_back, stands_done, stop_feeding, write_journal}
use Rattle.mt_plain.specs.Slots.{feeding_slot, is_feeding, other_slot, running_at, slot_before_way, slot_by_way, slot_of}
use Rattle.mt_laws.proofs.StreamLemmas.{feeding_runs, other_runs}
use Rattle.mt_laws.proofs.WayStepLemmas.{done_in_order, undone_by}
use Rattle.mt_stands.specs.Rows.{stream_of}
use Rattle.mt_stands.specs.Ways.{IsOpenOn}

-- ---- another stream

-- as many lanes as before
length-change : (shard : ℕ) (change : LaneState → LaneState) (lanes : List LaneState) → length (change_lane shard change lanes) ≡ length lanes
length-change shard change [] = refl
length-change zero change (lane ∷ lanes) = refl
length-change (suc shard) change (lane ∷ lanes) = ap suc (length-change shard change lanes)

-- the stream that stood in a lane's slot before the way
abbrev pub saved : Live → Way → Lane → Option StreamValue
saved live way lane = option_map (stream_of live lane) (slot_before_way live lane (other_name way))

-- the streams in the slots before the way, of a live workflow and of another, as long as these are to be given back
abbrev pub SameSlots : (before live : Live) → Way → Type 0
SameSlots before live way =
    stands_done way write_journal ≡ false → stands_done way create_back ≡ true → map (saved live way) live.lanes ≡ map (saved before way) before.lanes

pub open_with_slot : (journal : List JournalEntry) (before live : Live) (w : WorkflowState) (way : Way) (o : OpenWay) → SameSlots before live way
    → (shard : ℕ) (n : StreamName) (s : Option StreamValue) → IsOpenOn journal before w way o → IsOpenOn journal live (with_slot w shard n s) way o
open_with_slot journal before live w way o same shard n s is = record {
  kept = record {
    entries = is.kept.entries;
    listed = is.kept.listed ∙ sym (length-change shard (with_lane_slot n s) w.lanes);
    slots = is.kept.slots ∙ sym (length-change shard (with_lane_slot n s) w.lanes);
  };
  unused = is.unused;
  undo = λ unwritten. record {
    entries = (is.undo unwritten).entries;
    listed = (is.undo unwritten).listed;
    slots = λ made. (is.undo unwritten).slots made ∙ sym (same unwritten made);
  };
}

-- ---- no stream runs

-- a way that leaves primary as it is has one step, and makes no stream
makes_none : (way : Way) → next_step way < behind_last way → changes_primary way ≡ false → stands_done way create_back ≡ false
makes_none way within leaves =
    let first : next_step way < 1 = subst (λ b. next_step way < cond b 12 1) leaves within in
    undone_by way create_back (next_step way) refl (omega arith)

pub none_runs : (live : Live) (way : Way) → live.way ≡ Some way → next_step way < behind_last way → stands_done way write_journal ≡ false → stands_done way create_back ≡ true
    → (lane : Lane) (n : StreamName) (at : ℕ) → running_at (slot_of live lane n) ≡ Some at → ⊥
none_runs live way on within unwritten made lane n at runs =
    by (changes_primary way) (is_feeding way n) refl (sym (ap (λ o. running_at (slot_by_way live lane o n)) on) ∙ runs)
  where
    rest : Option Slot
    rest = slot_before_way live lane n

    by : (c f : Bool) → changes_primary way ≡ c → running_at (cond (not c) rest (cond f (feeding_slot lane way rest) (other_slot lane way rest))) ≡ Some at → ⊥
    by false f c e = true≢false (sym made ∙ makes_none way within c)
    by true true c e =
        let r = feeding_runs (stands_done way stop_feeding) rest at e in
        true≢false (sym (done_in_order way 3 create_back (omega arith) made) ∙ r.0)
    by true false c e =
        let r = other_runs (stands_done way create_back) (stands_done way start_back) lane.fresh_at rest at e in
        true≢false (sym (done_in_order way 5 start_back (omega arith) (r.0 made)) ∙ unwritten)
