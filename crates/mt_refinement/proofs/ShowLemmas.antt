-- Show: a workflow that stands for a live one is shown as that one is.
use Rattle.std.proofs.Common.{◌≡◌, ℕ, Bool, true, false, not, cond, List, [], ◌∷◌, map, Option, None, Some, option_map, is_some, unwrap_or, refl, sym, ap, ◌∙◌, subst}
use Rattle.std.specs.Option.{option_map_or}
use Rattle.mt_model.specs.declared.entries.Scope.{Scope}
use Rattle.mt_names.specs.declared.types.TypeSet.{TypeSet}
use Rattle.mt_plain.specs.Answers.{Answers, lane_shown, range_at, show_of, shown_of}
use Rattle.mt_plain.specs.Events.{Answer, show, forward, back, running, frozen, stopped, shown, ShownLane, Slot, Way}
use Rattle.mt_plain.specs.Next.{next}
use Rattle.mt_plain.specs.Plain.{Copied, ended, not_begun, up_to, Lane, Live, Plain, changes_primary, create_back, live_at, stands_done}
use Rattle.mt_plain.specs.Refuse.{in_workflow, is_still_copying}
use Rattle.mt_plain.specs.Slots.{feeding_slot, is_feeding, slot_before_way, slot_by_way, slot_of}
use Rattle.mt_stream.specs.Streams.{StreamValue, has_ended}
use Rattle.mt_workflow.specs.Workflows.{WorkflowState}
use Rattle.mt_stands.specs.Rows.{stream_of}
use Rattle.mt_stands.specs.Base.{BaseState, workflow_at}
use Rattle.mt_stands.specs.Stands.{StandsFor, StandsForAny, StandsWith, lane_state}
use Rattle.mt_stands.specs.Workflows.{ShowsWorkflow, lane_by, show_at, shown_by, slot_from}

-- ---- a forward stream is always there

pub forward_there : (w : Live) (lane : Lane) (o : Option Way) → is_some (slot_by_way w lane o forward) ≡ true
forward_there w lane None = refl
forward_there w lane (Some way) = by (changes_primary way) (is_feeding way forward) (stands_done way create_back)
  where
    by : (c f t : Bool) → is_some (cond (not c) (slot_before_way w lane forward) (cond f (feeding_slot lane way (slot_before_way w lane forward))
        (cond t (Some (record { state = cond (stands_done way 10) running stopped; position = lane.fresh_at })) (slot_before_way w lane forward)))) ≡ true
    by false f t = refl
    by true true t = refl
    by true false true = refl
    by true false false = refl

-- ---- what is shown

slots_back : (w : Live) (lane : Lane) (o : Option Slot) → option_map slot_from (option_map (stream_of w lane) o) ≡ o
slots_back w lane None = refl
slots_back w lane (Some s) = refl

any_default : (o : Option Slot) (a b : Slot) → is_some o ≡ true → unwrap_or o a ≡ unwrap_or o b
any_default None a b e = absurd cc
any_default (Some s) a b e = refl

ended_copy : (c : Copied) → has_ended c ≡ not (is_still_copying c)
ended_copy not_begun = refl
ended_copy (up_to table key) = refl
ended_copy ended = refl

copy_of : (w : Live) (lane : Lane) (o : Option Slot) → is_some o ≡ true → option_map_or (λ (s : StreamValue). has_ended s.copied) (option_map (stream_of w lane) o) false ≡ not (is_still_copying lane.copied)
copy_of w lane None e = absurd cc
copy_of w lane (Some s) e = ended_copy lane.copied

module _ (live : Live) (lane : Lane) where
  forward_shown : unwrap_or (option_map slot_from (lane_state live lane).forward) (record { state = frozen; position = 0 })
      ≡ unwrap_or (slot_of live lane forward) (record { state = frozen; position = lane.forward_at })
  forward_shown =
      ap (λ o. unwrap_or o (record { state = frozen; position = 0 })) (slots_back live lane (slot_of live lane forward))
      ∙ any_default (slot_of live lane forward) (record { state = frozen; position = 0 }) (record { state = frozen; position = lane.forward_at }) (forward_there live lane live.way)

  lane_same : lane_by (lane_state live lane) ≡ lane_shown live lane
  lane_same = by _ forward_shown _ (copy_of live lane (slot_of live lane forward) (forward_there live lane live.way)) _ (slots_back live lane (slot_of live lane back))
    where
      by : (f : Slot) → f ≡ unwrap_or (slot_of live lane forward) (record { state = frozen; position = lane.forward_at })
          → (c : Bool) → c ≡ not (is_still_copying lane.copied) → (b : Option Slot) → b ≡ slot_of live lane back
          → record { range = range_at live.cuts lane.shard; forward = f; copied = c; back = b } ≡ lane_shown live lane
      by f e1 c e2 b e3 = cc

lanes_same : (live : Live) (lanes : List Lane) → map lane_by (map (lane_state live) lanes) ≡ map (lane_shown live) lanes
lanes_same live [] = refl
lanes_same live (lane ∷ lanes) = ap (λ l. l ∷ map lane_by (map (lane_state live) lanes)) (lane_same live lane) ∙ ap (λ ls. lane_shown live lane ∷ ls) (lanes_same live lanes)

module _ (p : Plain) (live : Live) (w : WorkflowState) (stands : StandsFor p live w) where
  pub shown_same : shown_by w ≡ shown_of live
  shown_same =
      by w.name (sym stands.sides.name) w.source (sym stands.sides.source) w.target (sym stands.sides.target) w.tables (sym stands.sides.tables) w.switched stands.switched w.way stands.way
      (map lane_by w.lanes) (ap (map lane_by) stands.lanes ∙ lanes_same live live.lanes)
    where
      by : (n : List ℕ) → n ≡ live.name → (s : List ℕ) → s ≡ live.source → (t : List ℕ) → t ≡ live.target → (ts : List (List ℕ)) → ts ≡ live.tables
          → (types : TypeSet) → types ≡ live.switched → (way : Option Way) → way ≡ live.way → (ls : List ShownLane) → ls ≡ map (lane_shown live) live.lanes
          → record { workflow = n; source = s; target = t; tables = ts; switched = types; way = way; lanes = ls } ≡ shown_of live
      by n e0 s e1 t e2 ts e3 types e4 way e5 ls e6 = cc

-- ---- the law

show-any : (p : Plain) (workflow : List ℕ) (o : Option Live) (v : Option WorkflowState) → live_at p workflow ≡ o → StandsForAny p o v
    → Answers p (show workflow) (show_at v) × (next p (show workflow) (show_at v) ≡ p)
show-any p workflow None None is stands = (ap (λ o. in_workflow o (λ w. None)) is, refl)
show-any p workflow None (Some w) is stands = absurd stands
show-any p workflow (Some live) None is stands = absurd stands
show-any p workflow (Some live) (Some w) is stands =
    ((ap (λ o. in_workflow o (λ w. None)) is, ap shown (shown_same p live w stands) ∙ sym (ap show_of is)), refl)

pub show_steps : (scopes : List Scope) (old new : BaseState) (workflow : List ℕ) (answer : Answer) → ShowsWorkflow old workflow answer new → (p : Plain) → StandsWith p scopes old
    → Answers p (show workflow) answer × StandsWith (next p (show workflow) answer) scopes new
show_steps scopes old new workflow answer shows p stands =
    let r = show-any p workflow (live_at p workflow) (workflow_at old.workflows workflow) refl (stands.workflows.each workflow) in
    subst (λ a. Answers p (show workflow) a × StandsWith (next p (show workflow) a) scopes new) (sym shows.0)
    (r.0, subst (λ q. StandsWith q scopes new) (sym r.1) (subst (StandsWith p scopes) (sym shows.1) stands))
