-- The base of the controller as a value: the topology, a primary for each shard of each keyspace, and the live workflows. All of this page
-- is this profile's own, unless a comment names a page of Vitess's documentation.
use Rattle.std.specs.Prelude.{◌≡◌, ℕ, Bool, true, List, [], Option, None, Some}
use Rattle.std.specs.Map.{lookup}
use Rattle.mt_names.specs.Names.{same_text}
use Rattle.mt_model.specs.Topology.{TopologyState, empty_topology}
use Rattle.mt_plain.specs.Events.{Answer, done, Refusal, memory, refused}
use Rattle.mt_primary.specs.Primaries.{Primaries}
use Rattle.mt_workflow.specs.Workflows.{WorkflowState}

-- the live workflows by their names, in the order in which they were created (MoveTables)
abbrev pub Workflows : Type 0
Workflows = List (List ℕ × WorkflowState)

-- the base
pub record BaseState : Type 0 where
  pub topology : TopologyState
  pub primaries : Primaries
  pub workflows : Workflows

-- no keyspace and no workflow
abbrev pub empty_base : BaseState
empty_base = record { topology = empty_topology; primaries = []; workflows = [] }

-- the live workflow of a name
abbrev pub workflow_at : Workflows → List ℕ → Option WorkflowState
workflow_at workflows name = lookup (same_text name) workflows

-- what becomes of a base if a test refuses the event, and else it is made, which takes memory if it `grows`. What is refused leaves the
-- base as it was
abbrev pub Does : BaseState → Option Refusal → (grows : Bool) → (made : BaseState) → Answer → BaseState → Type 0
Does old refusal grows made done new = (refusal ≡ None) × (new ≡ made)
Does old refusal grows made (refused memory) new = (refusal ≡ None) × (grows ≡ true) × (new ≡ old)
Does old refusal grows made (refused r) new = (refusal ≡ Some r) × (new ≡ old)
Does old refusal grows made other new = ⊥
