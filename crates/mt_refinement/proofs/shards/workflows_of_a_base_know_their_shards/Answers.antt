use Rattle.std.proofs.Common.{◌≡◌, ℕ, List, Some, sym, ap, ◌∙◌}
use Rattle.std.proofs.Math.Logic.{∥∥₁_elim}
use denote.Struct.Props.{props}
use Rattle.mt_plain.specs.Plain.{Live, live_at}
use Rattle.mt_primary.specs.Primaries.{count_of, shards_of}
use Rattle.mt_workflow.specs.Workflows.{WorkflowState}
use Rattle.mt_stands.specs.Base.{BaseState, workflow_at}
use Rattle.mt_stands.specs.Stands.{HasState, StandsFor}
use Rattle.mt_stands.proofs.LaneLemmas.{lanes_alike}
use Rattle.mt_refinement.proofs.FoundLemmas.{live_of_state}
use Rattle.mt_refinement.proofs.ShardLemmas.{source_count, target_count}
use Rattle.mt_refinement.proofs.shards.workflows_of_a_base_know_their_shards.Goals as goal

pub returns : goal.returns
returns c =
    let stood : (base : BaseState) (h : HasState base) (name : List ℕ) (w : WorkflowState) → workflow_at base.workflows name ≡ Some w
    → (live : Live) × (live_at h.state name ≡ Some live) × StandsFor h.state live w
    = λ base h name w at. live_of_state h.state (live_at h.state name) (workflow_at base.workflows name) w (h.stands.workflows.each name) at in
    record {
      lanes = λ base is name w at. ∥∥₁_elim is (search props)
          (λ h. let (live, there, stands) = stood base h name w at in
          lanes_alike h.state live w stands
          ∙ sym (target_count h.state h.reached name live there base.primaries h.stands.primaries (c.live_workflows_stand_in_place.ensures.placed h.state h.reached name live there).sides.target)
          ∙ ap (count_of base.primaries) stands.sides.target);
      source = λ base is name w at. ∥∥₁_elim is (search props)
          (λ h. let (live, there, stands) = stood base h name w at in
          ap (count_of base.primaries) (sym stands.sides.source)
          ∙ source_count h.state h.reached name live there base.primaries h.stands.primaries (c.live_workflows_stand_in_place.ensures.placed h.state h.reached name live there).sides.source);
      cuts = λ base is name w at. ∥∥₁_elim is (search props)
          (λ h. let (live, there, stands) = stood base h name w at in
          ap (λ k. (shards_of base.primaries k).cuts) (sym stands.sides.source) ∙ h.stands.primaries.cuts live.source
          ∙ c.a_live_workflow_knows_its_shards.ensures.source_cuts h.state h.reached name live there);
    }
