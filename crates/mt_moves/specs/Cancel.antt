-- When a workflow can be taken back (this profile's own).
use Rattle.std.specs.Prelude.{◌≡◌, ℕ, true, All, List, Some}
use Rattle.mt_model.specs.Topology.{TopologyState, has_place}
use Rattle.mt_workflow.specs.Workflows.{WorkflowState, live_of}
use Rattle.mt_stands.specs.Keys.{keys_of_part}
use Rattle.mt_primary.specs.Primaries.{Primaries, has_primaries}
use Rattle.mt_stands.specs.Base.{Workflows, workflow_at}

-- a workflow is in its place: it stands under its own name, each key of its part has a place, and its target has primaries
pub record IsInPlace (t : TopologyState) (primaries : Primaries) (name : List ℕ) (w : WorkflowState) : Type 0 where
  pub named : w.name ≡ name
  pub places : All (λ key. has_place t key ≡ true) (keys_of_part (live_of w))
  pub target : has_primaries primaries w.target ≡ true

abbrev pub CanCancel : TopologyState → Primaries → Workflows → (workflow : List ℕ) → Type 0
CanCancel t primaries workflows workflow = (w : WorkflowState) → workflow_at workflows workflow ≡ Some w → IsInPlace t primaries workflow w
