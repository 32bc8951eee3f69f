use Rattle.std.proofs.Common.{◌≡◌, ℕ, ◌<◌, List, Some, length, sym, ap, ◌∙◌, subst, arith}
use Rattle.std.proofs.Math.Logic.{∥∥₁_elim}
use denote.Struct.Props.{props}
use Rattle.mt_plain.specs.Plain.{Live, live_at}
use Rattle.mt_laws.specs.Reached.{IsInPlace}
use Rattle.mt_primary.specs.Primaries.{count_of}
use Rattle.mt_workflow.specs.Workflows.{WorkflowState}
use Rattle.mt_stands.specs.Base.{BaseState, workflow_at}
use Rattle.mt_stands.specs.Stands.{HasState, StandsFor}
use Rattle.mt_stands.proofs.LaneLemmas.{lanes_alike}
use Rattle.mt_refinement.proofs.FoundLemmas.{live_of_state}
use Rattle.mt_refinement.proofs.ShardLemmas.{source_count, target_count}
use Rattle.mt_refinement.proofs.WorkflowLemmas.{part_places, source_has, source_there, target_has, target_there, two_sides}
use Rattle.mt_refinement.proofs.workflows.workflows_of_a_base_stand_in_place.Goals as goal

pub returns : goal.returns
returns c =
    let stood : (base : BaseState) (h : HasState base) (name : List ℕ) (w : WorkflowState) → workflow_at base.workflows name ≡ Some w
    → (live : Live) × (live_at h.state name ≡ Some live) × StandsFor h.state live w
    = λ base h name w at. live_of_state h.state (live_at h.state name) (workflow_at base.workflows name) w (h.stands.workflows.each name) at in
    let placed : (base : BaseState) (h : HasState base) (name : List ℕ) (live : Live) → live_at h.state name ≡ Some live → IsInPlace h.state.topology live
    = λ base h name live at. c.live_workflows_stand_in_place.ensures.placed h.state h.reached name live at in
    let first_shard : (base : BaseState) (h : HasState base) (name : List ℕ) (w : WorkflowState) (live : Live) → live_at h.state name ≡ Some live → StandsFor h.state live w
    → 0 < count_of base.primaries w.source
    = λ base h name w live there stands.
    let one = source_count h.state h.reached name live there base.primaries h.stands.primaries (placed base h name live there).sides.source in
    subst (λ k. 0 < count_of base.primaries k) stands.sides.source (subst (λ m. 0 < m) (sym one) (omega arith)) in
    let target_lanes : (base : BaseState) (h : HasState base) (name : List ℕ) (w : WorkflowState) (live : Live) → live_at h.state name ≡ Some live → StandsFor h.state live w
    → length w.lanes ≡ count_of base.primaries w.target
    = λ base h name w live there stands.
    lanes_alike h.state live w stands ∙ sym (target_count h.state h.reached name live there base.primaries h.stands.primaries (placed base h name live there).sides.target)
    ∙ ap (count_of base.primaries) stands.sides.target in
    record {
      named = λ base is name w at. ∥∥₁_elim is (search props)
          (λ h. let (live, there, stands) = stood base h name w at in sym stands.sides.name ∙ c.a_live_workflow_is_found_by_its_part.ensures.named h.state name live there);
      source = λ base is name w at. ∥∥₁_elim is (search props)
          (λ h. let (live, there, stands) = stood base h name w at in source_there base h live w stands (placed base h name live there));
      target = λ base is name w at. ∥∥₁_elim is (search props)
          (λ h. let (live, there, stands) = stood base h name w at in target_there base h live w stands (placed base h name live there));
      apart = λ base is name w at e. ∥∥₁_elim is (hlevel props)
          (λ h. let (live, there, stands) = stood base h name w at in two_sides base h live w stands (placed base h name live there) e);
      places = λ base is name w at i d inside. ∥∥₁_elim is (search props)
          (λ h. let (live, there, stands) = stood base h name w at in
          part_places base h live w stands (placed base h name live there) (c.what_is_written_has_a_place.ensures.part h.state base.topology name live h.reached there h.stands.topology) i d inside);
      at_source = λ base is name w at table moved. ∥∥₁_elim is (search props)
          (λ h. let (live, there, stands) = stood base h name w at in
          source_has base h live w stands (placed base h name live there) (first_shard base h name w live there stands) table moved);
      at_target = λ base is name w at shard within table moved. ∥∥₁_elim is (search props)
          (λ h. let (live, there, stands) = stood base h name w at in
          target_has base h live w stands (placed base h name live there) (c.a_live_workflow_is_found_by_its_part.ensures.owner h.state h.reached name live there) shard
          (subst (λ m. shard < m) (target_lanes base h name w live there stands) within) table moved);
    }
