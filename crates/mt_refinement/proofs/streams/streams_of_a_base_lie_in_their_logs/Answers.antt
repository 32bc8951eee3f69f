use Rattle.std.proofs.Common.{◌≡◌, ℕ, List, Some}
use Rattle.std.proofs.Math.Logic.{∥∥₁_elim}
use denote.Struct.Props.{props}
use Rattle.mt_plain.specs.Plain.{Live, live_at}
use Rattle.mt_laws.proofs.LaneLemmas.{IsNumbered}
use Rattle.mt_workflow.specs.Workflows.{WorkflowState}
use Rattle.mt_stands.specs.Base.{BaseState, workflow_at}
use Rattle.mt_stands.specs.Stands.{HasState, StandsFor}
use Rattle.mt_refinement.proofs.FoundLemmas.{live_of_state}
use Rattle.mt_refinement.proofs.FactStreamLemmas.{has_forward, slot_from, stream_kept, stream_tables, stream_within}
use Rattle.mt_refinement.proofs.ShardLemmas.{lanes_numbered}
use Rattle.mt_refinement.proofs.streams.streams_of_a_base_lie_in_their_logs.Goals as goal

pub returns : goal.returns
returns c =
    let stood : (base : BaseState) (h : HasState base) (name : List ℕ) (w : WorkflowState) → workflow_at base.workflows name ≡ Some w
    → (live : Live) × (live_at h.state name ≡ Some live) × StandsFor h.state live w
    = λ base h name w at. live_of_state h.state (live_at h.state name) (workflow_at base.workflows name) w (h.stands.workflows.each name) at in
    let numbered : (base : BaseState) (h : HasState base) (name : List ℕ) (live : Live) → live_at h.state name ≡ Some live → IsNumbered live
    = λ base h name live there. lanes_numbered h.state h.reached name live there in
    record {
      forward = λ base is name w shard at within. ∥∥₁_elim is (search props)
          (λ h. let (live, there, stands) = stood base h name w at in has_forward h.state live w stands (numbered base h name live there) shard within);
      tables = λ base is name w shard stream s at in_slot. ∥∥₁_elim is (search props)
          (λ h. let (live, there, stands) = stood base h name w at in stream_tables h.state live w stands (numbered base h name live there) shard stream s in_slot);
      position = λ base is name w shard stream s at in_slot. ∥∥₁_elim is (search props)
          (λ h. let (live, there, stands) = stood base h name w at in
          let from = slot_from h.state live w stands (numbered base h name live there) shard stream s in_slot in
          stream_within base h live w stands shard stream s from (c.positions_never_fall.ensures.within h.state h.reached name live there shard from.lane from.laned stream));
      kept = λ base is name w shard stream s at in_slot moves. ∥∥₁_elim is (search props)
          (λ h. let (live, there, stands) = stood base h name w at in
          stream_kept base h live w stands shard stream s (slot_from h.state live w stands (numbered base h name live there) shard stream s in_slot) name there moves);
    }
