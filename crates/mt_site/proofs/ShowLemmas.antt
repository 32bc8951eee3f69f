-- Show: what is told of a workflow, lane by lane.
use Rattle.std.proofs.Common.{◌≡◌, ℕ, ◌+◌, List, [], ◌∷◌, ◌++◌, map, take, Option, Some, None, option_map, unwrap_or, refl, sym, ap, ◌∙◌}
use Rattle.std.proofs.lemmas.List.{map-append}
use Rattle.std.specs.Option.{option_map_or}
use Rattle.std.specs.Prelude.{Bool, false, option_and_then, slice_get}
use Rattle.mt_names.specs.declared.types.TypeSet.{TypeSet}
use Rattle.mt_names.specs.Shards.{KeyRange}
use Rattle.mt_plain.specs.Events.{Shown, ShownLane, Slot, Way, back, forward, frozen}
use Rattle.mt_stream.proofs.ListLemmas.{take_next}
use Rattle.mt_stream.specs.Streams.{StreamValue, has_ended}
use Rattle.mt_workflow.specs.Workflows.{LaneState, WorkflowState, lane_slot}
use Rattle.mt_stands.specs.Workflows.{lane_by, shown_by, slot_from}

-- a lane that is there, by its range and its streams
pub lane_told : (o : Option LaneState) (f : StreamValue) → option_and_then (lane_slot forward) o ≡ Some f → (r : KeyRange) → option_map (λ (lane : LaneState). lane.range) o ≡ Some r
    → (x : Slot) → x ≡ slot_from f → (c : Bool) → c ≡ has_ended f.copied → (b : Option Slot) → b ≡ option_map slot_from (option_and_then (lane_slot back) o)
    → (let told : ShownLane = record { range = r; forward = x; copied = c; back = b } in Some told) ≡ option_map lane_by o
lane_told None f there r at x e1 c e2 b e3 = absurd cc
lane_told (Some lane) f there r at x e1 c e2 b e3 =
    let told : KeyRange → Slot → Bool → Option Slot → Option ShownLane = λ range x c b. Some (record { range = range; forward = x; copied = c; back = b }) in
    let by_stream : KeyRange → Option StreamValue → Option ShownLane = λ range o.
    told range (unwrap_or (option_map slot_from o) (record { state = frozen; position = 0 })) (option_map_or (λ stream. has_ended stream.copied) o false) (option_map slot_from lane.back) in
    let range : lane.range ≡ r = cc in
    ap (λ y. told r y c b) e1 ∙ ap (λ y. told r (slot_from f) y b) e2 ∙ ap (told r (slot_from f) (has_ended f.copied)) e3
    ∙ ap (λ q. by_stream q (Some f)) (sym range) ∙ ap (by_stream lane.range) (sym there)

-- one lane more
pub lanes-more : (lanes : List LaneState) (i : ℕ) (before : List ShownLane) (lane : ShownLane) → before ≡ map lane_by (take i lanes) → Some lane ≡ option_map lane_by (slice_get lanes i)
    → before ++ lane ∷ [] ≡ map lane_by (take (i + 1) lanes)
lanes-more lanes i before lane so_far is = by (slice_get lanes i) refl is
  where
    by : (o : Option LaneState) → slice_get lanes i ≡ o → Some lane ≡ option_map lane_by o → before ++ lane ∷ [] ≡ map lane_by (take (i + 1) lanes)
    by None at told = absurd cc
    by (Some there) at told =
        let same : lane ≡ lane_by there = cc in
        ap (λ l. l ++ lane ∷ []) so_far ∙ ap (λ x. map lane_by (take i lanes) ++ x ∷ []) same ∙ sym (map-append lane_by (take i lanes) (there ∷ []))
        ∙ ap (map lane_by) (sym (take_next lanes i there at))

-- the whole, part by part
pub shown_told : (w : WorkflowState) (n : List ℕ) → n ≡ w.name → (s : List ℕ) → s ≡ w.source → (t : List ℕ) → t ≡ w.target → (ts : List (List ℕ)) → ts ≡ w.tables
    → (types : TypeSet) → types ≡ w.switched → (way : Option Way) → way ≡ w.way → (ls : List ShownLane) → ls ≡ map lane_by w.lanes
    → (let told : Shown = record { workflow = n; source = s; target = t; tables = ts; switched = types; way = way; lanes = ls } in told) ≡ shown_by w
shown_told w n e0 s e1 t e2 ts e3 types e4 way e5 ls e6 = cc
