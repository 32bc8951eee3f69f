-- What an undo gives back to the own lists and to the slots.
use Rattle.std.proofs.Common.{◌≡◌, ◌≢◌, ℕ, Bool, true, false, List, [], ◌∷◌, Option, None, Some, Ok, map, set, if◌then◌else◌, refl, sym, ap, subst, ◌∙◌}
use Rattle.std.proofs.lemmas.List.{get_or-set_other, set-get_or, set-set}
use Rattle.mt_model.specs.declared.entries.Scope.{Scope}
use Rattle.mt_model.specs.Topology.{Marks, TopologyState}
use Rattle.mt_plain.specs.Events.{StreamName, forward, back, Way}
use Rattle.mt_primary.specs.Denials.{is_named, marks_of, told_by_marks, with_denials}
use Rattle.mt_primary.specs.Primary.{IsPrimary, PrimaryState, empty_primary, has_table, is_denied_at}
use Rattle.mt_primary.proofs.LawLemmas.{back-at_once, back-named}
use Rattle.mt_stream.specs.Streams.{StreamValue}
use Rattle.mt_watch.specs.Asking.{Answering}
use Rattle.mt_workflow.specs.Workflows.{LaneState, WorkflowState, lane_slot, with_lane_slot}
use Rattle.mt_steps.specs.declared.step.Step.TheVariants.{CreateBack}
use Rattle.mt_steps.specs.Refreshes.{RefreshesSide, Sites, notice_at}
use Rattle.mt_steps.specs.Shards.{target_at, with_each}
use Rattle.mt_steps.specs.Steps.{IsGivenBack}
use Rattle.mt_steps.specs.Streams.{lane_made, other_name, put_away, streams_undone, with_streams}

-- ---- own lists

module _ (scopes : List Scope) (may_answer : Answering) (t : TopologyState) (w : WorkflowState) (shard : ℕ) (old new : Sites) where
  -- at once
  pub given_at_once : (at_target : Bool) (source : PrimaryState) (targets : List PrimaryState) → IsPrimary (if at_target then target_at old.targets shard else old.source)
      → RefreshesSide scopes may_answer t w at_target shard old (Ok tt) new → IsGivenBack at_target shard new.listed new.source new.targets source targets
      → (source ≡ old.source) × (targets ≡ old.targets)
  given_at_once true source targets is refreshed given =
      let p = target_at old.targets shard in
      let is_given = subst (λ l. IsGivenBack true shard l new.source new.targets source targets) refreshed.0.2 given in
      let stands : target_at targets shard ≡ p =
      is_given.0 ∙ ap (with_denials (told_by_marks (marks_of p w.tables))) refreshed.0.1 ∙ back-at_once p w.target (notice_at t w.target w.tables) w.tables is in (
        is_given.2 ∙ refreshed.2,
        is_given.1 ∙ ap (set new.targets shard) stands ∙ ap (λ (l : List PrimaryState). set l shard p) refreshed.1 ∙ set-set old.targets shard (target_at new.targets shard) p
            ∙ set-get_or old.targets shard empty_primary,
      )
  given_at_once false source targets is refreshed given =
      let is_given = subst (λ l. IsGivenBack false shard l new.source new.targets source targets) refreshed.0.2 given in (
        is_given.0 ∙ ap (with_denials (told_by_marks (marks_of old.source w.tables))) refreshed.0.1 ∙ back-at_once old.source w.source (notice_at t w.source w.tables) w.tables is,
        is_given.1 ∙ refreshed.1,
      )

  -- later
  pub given_later : (at_target : Bool) (source now_source : PrimaryState) (targets now_targets : List PrimaryState) → RefreshesSide scopes may_answer t w at_target shard old (Ok tt) new
      → IsGivenBack at_target shard new.listed source targets now_source now_targets → (name : List ℕ) → is_named w.tables name ≡ true
      → has_table (if at_target then target_at targets shard else source) name ≡ true
      → is_denied_at (if at_target then target_at now_targets shard else now_source) name ≡ is_denied_at (if at_target then target_at old.targets shard else old.source) name
  given_later true source now_source targets now_targets refreshed given =
      let is_given = subst (λ l. IsGivenBack true shard l source targets now_source now_targets) refreshed.0.2 given in
      back-named (target_at old.targets shard) (target_at targets shard) (target_at now_targets shard) w.tables is_given.0
  given_later false source now_source targets now_targets refreshed given =
      let is_given = subst (λ l. IsGivenBack false shard l source targets now_source now_targets) refreshed.0.2 given in back-named old.source source now_source w.tables is_given.0

-- the primaries of other shards stay
pub given_to_no_other : (at_target : Bool) (shard : ℕ) (listed : Option Marks) (source now_source : PrimaryState) (targets now_targets : List PrimaryState)
    → IsGivenBack at_target shard listed source targets now_source now_targets → (other : ℕ) → shard ≢ other → target_at now_targets other ≡ target_at targets other
given_to_no_other true shard (Some marks) source now_source targets now_targets given other apart =
    ap (λ l. target_at l other) given.1 ∙ get_or-set_other targets shard other (target_at now_targets shard) empty_primary (λ same. apart (sym same))
given_to_no_other false shard (Some marks) source now_source targets now_targets given other apart = ap (λ l. target_at l other) given.1
given_to_no_other true shard None source now_source targets now_targets given other apart = ap (λ l. target_at l other) given.1
given_to_no_other false shard None source now_source targets now_targets given other apart = ap (λ l. target_at l other) given.1

-- ---- slots

lane_again : (name : StreamName) (s : Option StreamValue) (lane : LaneState) → with_lane_slot name (lane_slot name lane) (with_lane_slot name s lane) ≡ lane
lane_again forward s lane = refl
lane_again back s lane = refl

lane_same : (name : StreamName) (lane : LaneState) → with_lane_slot name (lane_slot name lane) lane ≡ lane
lane_same forward lane = refl
lane_same back lane = refl

lanes_again : (name : StreamName) (tables : List (List ℕ)) (ends : List ℕ) (lanes : List LaneState)
    → with_each (with_lane_slot name) (map (lane_slot name) lanes) (with_each (lane_made name tables) ends lanes) ≡ lanes
lanes_again name tables [] [] = refl
lanes_again name tables (end ∷ ends) [] = refl
lanes_again name tables [] (lane ∷ lanes) =
    ap (λ l. l ∷ with_each (with_lane_slot name) (map (lane_slot name) lanes) lanes) (lane_same name lane) ∙ ap (λ (ls : List LaneState). lane ∷ ls) (lanes_again name tables [] lanes)
lanes_again name tables (end ∷ ends) (lane ∷ lanes) =
    ap (λ l. l ∷ with_each (with_lane_slot name) (map (lane_slot name) lanes) (with_each (lane_made name tables) ends lanes)) (lane_again name _ lane)
    ∙ ap (λ (ls : List LaneState). lane ∷ ls) (lanes_again name tables ends lanes)

pub slots_again : (w : WorkflowState) (way : Way) (ends : List ℕ) (kept : List (Option StreamValue))
    → streams_undone (with_streams w way CreateBack ends) way CreateBack (put_away w way CreateBack kept) ≡ w
slots_again w way ends kept = ap (λ (lanes : List LaneState). record w { lanes = lanes }) (lanes_again (other_name way) w.tables ends w.lanes)
