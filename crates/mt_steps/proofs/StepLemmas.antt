-- What a step leaves of a workflow, and of what is kept of its way.
use Rattle.std.proofs.Common.{◌≡◌, ℕ, Bool, true, false, cond, List, Option, None, length, map, refl, sym, ap, All, subst, ◌∙◌}
use Rattle.std.proofs.lemmas.List.{length-map}
use Rattle.mt_model.specs.declared.entries.Entry.{Entry}
use Rattle.mt_model.specs.Part.{with_entries}
use Rattle.mt_model.specs.Topology.{TopologyState, has_place, key_of}
use Rattle.mt_plain.specs.Events.{Way, frozen}
use Rattle.mt_stream.specs.Streams.{StreamValue}
use Rattle.mt_workflow.specs.Workflows.{LaneState, WorkflowState, all_in_state, keys_of_part, lane_in_state, lane_slot, with_lane_slot}
use Rattle.mt_steps.specs.declared.step.Step.{Step}
use Rattle.mt_steps.specs.declared.step.Step.TheVariants.{SwitchReads, DenySource, RefreshSource, CatchUp, StopFeeding, CreateBack, Journal, AllowTarget, RefreshTarget, SwitchWriteRules, StartBack, FreezeOld}
use Rattle.mt_steps.specs.Plans.{number}
use Rattle.mt_steps.specs.Entries.{HasPlaces, recorded}
use Rattle.mt_steps.specs.Steps.{left_slots}
use Rattle.mt_steps.specs.Streams.{feeding_name, lane_made, other_name, put_away, streams_undone, with_streams, workflow_stepped, workflow_undone}
use Rattle.mt_steps.specs.Undo.{IsLogOf, UndoState}
use Rattle.mt_steps.proofs.BackLemmas.{part_places_stay}
use Rattle.mt_steps.proofs.EntryLemmas.{keys_recorded}
use Rattle.mt_steps.proofs.LaneLemmas.{length-with_each}

-- ---- streams

-- what a step does with the streams changes the lanes alone
module _ {A : Type 0} (seen : WorkflowState → A) (w : WorkflowState) (stay : (lanes : List LaneState) → seen (record w { lanes = lanes }) ≡ seen w) where
  frozen-stay : (way : Way) (b : Bool) → seen (cond b (record w { lanes = map (with_lane_slot (feeding_name way) None) w.lanes }) (all_in_state w (feeding_name way) frozen)) ≡ seen w
  frozen-stay way true = stay _
  frozen-stay way false = stay _

  streams-stay : (way : Way) (step : Step) (ends : List ℕ) → seen (with_streams w way step ends) ≡ seen w
  streams-stay way SwitchReads ends = refl
  streams-stay way DenySource ends = refl
  streams-stay way RefreshSource ends = refl
  streams-stay way CatchUp ends = refl
  streams-stay way StopFeeding ends = stay _
  streams-stay way CreateBack ends = stay _
  streams-stay way Journal ends = refl
  streams-stay way AllowTarget ends = refl
  streams-stay way RefreshTarget ends = refl
  streams-stay way SwitchWriteRules ends = refl
  streams-stay way StartBack ends = stay _
  streams-stay way FreezeOld ends = frozen-stay way way.back

  undone-stay : (way : Way) (step : Step) (kept : List (Option StreamValue)) → seen (streams_undone w way step kept) ≡ seen w
  undone-stay way SwitchReads kept = refl
  undone-stay way DenySource kept = refl
  undone-stay way RefreshSource kept = refl
  undone-stay way CatchUp kept = refl
  undone-stay way StopFeeding kept = stay _
  undone-stay way CreateBack kept = stay _
  undone-stay way Journal kept = refl
  undone-stay way AllowTarget kept = refl
  undone-stay way RefreshTarget kept = refl
  undone-stay way SwitchWriteRules kept = refl
  undone-stay way StartBack kept = refl
  undone-stay way FreezeOld kept = refl

-- it leaves the switched types
pub streams-switched : (w : WorkflowState) (way : Way) (step : Step) (ends : List ℕ) → (with_streams w way step ends).switched ≡ w.switched
streams-switched w = streams-stay (λ v. v.switched) w (λ lanes. refl)

-- and the part
streams-part : (w : WorkflowState) (way : Way) (step : Step) (ends : List ℕ) → keys_of_part (with_streams w way step ends) ≡ keys_of_part w
streams-part w = streams-stay keys_of_part w (λ lanes. refl)

undone-part : (w : WorkflowState) (way : Way) (step : Step) (kept : List (Option StreamValue)) → keys_of_part (streams_undone w way step kept) ≡ keys_of_part w
undone-part w = undone-stay keys_of_part w (λ lanes. refl)

-- ---- how many lanes

frozen-long : (w : WorkflowState) (way : Way) (b : Bool)
    → length (cond b (record w { lanes = map (with_lane_slot (feeding_name way) None) w.lanes }) (all_in_state w (feeding_name way) frozen)).lanes ≡ length w.lanes
frozen-long w way true = length-map w.lanes (with_lane_slot (feeding_name way) None)
frozen-long w way false = length-map w.lanes (lane_in_state (feeding_name way) frozen)

streams-long : (w : WorkflowState) (way : Way) (step : Step) (ends : List ℕ) → length (with_streams w way step ends).lanes ≡ length w.lanes
streams-long w way SwitchReads ends = refl
streams-long w way DenySource ends = refl
streams-long w way RefreshSource ends = refl
streams-long w way CatchUp ends = refl
streams-long w way StopFeeding ends = length-map w.lanes (lane_in_state (feeding_name way) _)
streams-long w way CreateBack ends = length-with_each (lane_made (other_name way) w.tables) ends w.lanes
streams-long w way Journal ends = refl
streams-long w way AllowTarget ends = refl
streams-long w way RefreshTarget ends = refl
streams-long w way SwitchWriteRules ends = refl
streams-long w way StartBack ends = length-map w.lanes (lane_in_state (other_name way) _)
streams-long w way FreezeOld ends = frozen-long w way way.back

undone-long : (w : WorkflowState) (way : Way) (step : Step) (kept : List (Option StreamValue)) → length (streams_undone w way step kept).lanes ≡ length w.lanes
undone-long w way SwitchReads kept = refl
undone-long w way DenySource kept = refl
undone-long w way RefreshSource kept = refl
undone-long w way CatchUp kept = refl
undone-long w way StopFeeding kept = length-map w.lanes (lane_in_state (feeding_name way) _)
undone-long w way CreateBack kept = length-with_each (with_lane_slot (other_name way)) kept w.lanes
undone-long w way Journal kept = refl
undone-long w way AllowTarget kept = refl
undone-long w way RefreshTarget kept = refl
undone-long w way SwitchWriteRules kept = refl
undone-long w way StartBack kept = refl
undone-long w way FreezeOld kept = refl

away-long : (w : WorkflowState) (way : Way) (step : Step) (kept : List (Option StreamValue)) → length kept ≡ length w.lanes → length (put_away w way step kept) ≡ length w.lanes
away-long w way SwitchReads kept long = long
away-long w way DenySource kept long = long
away-long w way RefreshSource kept long = long
away-long w way CatchUp kept long = long
away-long w way StopFeeding kept long = long
away-long w way CreateBack kept long = length-map w.lanes (lane_slot (other_name way))
away-long w way Journal kept long = long
away-long w way AllowTarget kept long = long
away-long w way RefreshTarget kept long = long
away-long w way SwitchWriteRules kept long = long
away-long w way StartBack kept long = long
away-long w way FreezeOld kept long = long

left-long : (step : Step) (kept : List (Option StreamValue)) → length (left_slots step kept) ≡ length kept
left-long SwitchReads kept = refl
left-long DenySource kept = refl
left-long RefreshSource kept = refl
left-long CatchUp kept = refl
left-long StopFeeding kept = refl
left-long CreateBack kept = length-map kept _
left-long Journal kept = refl
left-long AllowTarget kept = refl
left-long RefreshTarget kept = refl
left-long SwitchWriteRules kept = refl
left-long StartBack kept = refl
left-long FreezeOld kept = refl

-- ---- what is kept

-- a step leaves the part, with its record and its places
module _ (way : Way) (step : Step) (t u : TopologyState) (w v : WorkflowState) (log now : UndoState) (ends : List ℕ) (es : List Entry) (topology : u ≡ with_entries t es) where
  pub stepped_log : v ≡ workflow_stepped w way step ends → now ≡ record { entries = recorded w (number step) t log.entries; listed = log.listed; slots = put_away w way step log.slots } → IsLogOf w log
      → IsLogOf v now
  stepped_log workflow is of =
      let long : length v.lanes ≡ length w.lanes = ap (λ (x : WorkflowState). length x.lanes) workflow ∙ streams-long w way step ends in
      record {
        entries =
            ap (λ (l : UndoState). map key_of l.entries) is ∙ keys_recorded w (number step) t log.entries ∙ of.entries ∙ sym (ap keys_of_part workflow ∙ streams-part w way step ends);
        listed = ap (λ (l : UndoState). length l.listed) is ∙ of.listed ∙ sym long;
        slots = ap (λ (l : UndoState). length l.slots) is ∙ away-long w way step log.slots of.slots ∙ sym long;
      }

  pub stepped_places : v ≡ workflow_stepped w way step ends → HasPlaces t w → HasPlaces u v
  stepped_places workflow places =
      subst (λ ks. All (λ key. has_place u key ≡ true) ks) (sym (ap keys_of_part workflow ∙ streams-part w way step ends))
      (subst (λ x. HasPlaces x w) (sym topology) (part_places_stay t w es places))

  pub undone_log : v ≡ workflow_undone w way step log.slots → now ≡ record log { slots = left_slots step log.slots } → IsLogOf w log → IsLogOf v now
  undone_log workflow is of =
      let long : length v.lanes ≡ length w.lanes = ap (λ (x : WorkflowState). length x.lanes) workflow ∙ undone-long w way step log.slots in
      record {
        entries = ap (λ (l : UndoState). map key_of l.entries) is ∙ of.entries ∙ sym (ap keys_of_part workflow ∙ undone-part w way step log.slots);
        listed = ap (λ (l : UndoState). length l.listed) is ∙ of.listed ∙ sym long;
        slots = ap (λ (l : UndoState). length l.slots) is ∙ left-long step log.slots ∙ of.slots ∙ sym long;
      }

  pub undone_places : v ≡ workflow_undone w way step log.slots → HasPlaces t w → HasPlaces u v
  undone_places workflow places =
      subst (λ ks. All (λ key. has_place u key ≡ true) ks) (sym (ap keys_of_part workflow ∙ undone-part w way step log.slots))
      (subst (λ x. HasPlaces x w) (sym topology) (part_places_stay t w es places))
