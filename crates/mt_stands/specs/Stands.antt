-- Which state of the definitions a base stands for (this profile's own).
use Rattle.std.specs.Prelude.{◌≡◌, ℕ, ◌<◌, true, List, length, map, Option, None, Some, option_map, ⊤}
use Rattle.std.specs.List.{AllByRecursion}
use Rattle.std.specs.Map.{keys_of}
use Rattle.mt_model.specs.declared.entries.Scope.{Scope}
use Rattle.mt_names.specs.Shards.{AreCuts, shard_count}
use Rattle.mt_primary.specs.Primaries.{Primaries, count_of, has_primaries, primary_of, shards_of}
use Rattle.mt_primary.specs.Primary.{is_denied_at}
use Rattle.mt_primary.specs.Primary as primary
use Rattle.mt_workflow.specs.Workflows.{LaneState, WorkflowState, live_of}
use Rattle.mt_plain.specs.Answers.{Answers, range_at}
use Rattle.mt_plain.specs.Events.{Event, Answer, forward, back}
use Rattle.mt_plain.specs.Next.{next}
use Rattle.mt_plain.specs.Plain.{Lane, Live, Plain, cuts_of, has_keyspace, live_at}
use Rattle.mt_plain.specs.Serve.{has_table, refuses}
use Rattle.mt_plain.specs.Slots.{slot_of}
use Rattle.mt_laws.specs.Changes.{HasSides}
use Rattle.mt_laws.specs.Texts.{BringsNames}
use Rattle.mt_laws.specs.WayBack.{IsReached}
use Rattle.mt_stands.specs.Keys.{IsKept}
use Rattle.mt_stands.specs.Topologies.{TopologyStands}
use Rattle.mt_stands.specs.Rows.{RowsStand, stream_of}
use Rattle.mt_stands.specs.Base.{BaseState, Workflows, workflow_at}

-- each keyspace of the state has a primary for each of its shards, whose bounds are written as they should; each has the tables that the
-- keyspace has there, and the own list that refuses what that shard's does
pub record ArePrimaries (p : Plain) (primaries : Primaries) : Type 0 where
  pub there : (keyspace : List ℕ) → has_primaries primaries keyspace ≡ has_keyspace p keyspace
  pub count : length primaries ≡ length p.topology.keyspaces
  pub cuts : (keyspace : List ℕ) → (shards_of primaries keyspace).cuts ≡ cuts_of p keyspace
  pub ascend : (keyspace : List ℕ) → AreCuts (cuts_of p keyspace)
  pub shards : (keyspace : List ℕ) → has_keyspace p keyspace ≡ true → count_of primaries keyspace ≡ shard_count (cuts_of p keyspace)
  pub tables : (keyspace : List ℕ) (shard : ℕ) → shard < count_of primaries keyspace → (table : List ℕ)
      → primary.has_table (primary_of primaries keyspace shard) table ≡ has_table p keyspace table
  pub denials : (keyspace : List ℕ) (shard : ℕ) → shard < count_of primaries keyspace → (table : List ℕ)
      → is_denied_at (primary_of primaries keyspace shard) table ≡ refuses p keyspace shard table

-- a lane of a live workflow as a workflow has it: the key range of its shard, and its streams
abbrev pub lane_state : Live → Lane → LaneState
lane_state live lane = record {
  range = range_at live.cuts lane.shard;
  forward = option_map (stream_of live lane) (slot_of live lane forward);
  back = option_map (stream_of live lane) (slot_of live lane back);
}

-- a workflow stands for a live one: its name, sides and tables, the types that it has switched, the way that is open, and its lanes are
-- those of the live one, and what it keeps of the rules is what the topology says in its part as if no workflow were live
pub record StandsFor (p : Plain) (live : Live) (w : WorkflowState) : Type 0 where
  pub sides : HasSides live (live_of w)
  pub switched : w.switched ≡ live.switched
  pub way : w.way ≡ live.way
  pub kept : IsKept p.topology live w.kept
  pub lanes : w.lanes ≡ map (lane_state live) live.lanes

-- the same where there may be none
abbrev pub StandsForAny : Plain → Option Live → Option WorkflowState → Type 0
StandsForAny p None None = ⊤
StandsForAny p (Some live) (Some w) = StandsFor p live w
StandsForAny p live w = ⊥

-- the workflows are those that are live, by their names and in their order
pub record AreWorkflows (p : Plain) (workflows : Workflows) : Type 0 where
  pub each : (name : List ℕ) → StandsForAny p (live_at p name) (workflow_at workflows name)
  pub names : keys_of workflows ≡ map (λ live. live.name) p.lives

-- a base, with watchers of these scopes, stands for a state that a run reaches
pub record StandsWith (p : Plain) (scopes : List Scope) (base : BaseState) : Type 0 where
  pub reached : IsReached p
  pub scopes_are : p.scopes ≡ scopes
  pub topology : TopologyStands p base.topology
  pub rows : RowsStand p (primary_of base.primaries)
  pub primaries : ArePrimaries p base.primaries
  pub workflows : AreWorkflows p base.workflows

-- the same with the watchers that the state has
abbrev pub Stands : Plain → BaseState → Type 0
Stands p base = StandsWith p p.scopes base

-- what an event does leads from each state that the base stands for to the next one: the answer is one that the event may get there
abbrev pub Steps : List Scope → BaseState → Event → Answer → BaseState → Type 0
Steps scopes old event answer new = (p : Plain) → StandsWith p scopes old
    → Answers p event answer × StandsWith (next p event answer) scopes new

-- ---- what is true of every base

-- a state that it stands for, reached by events that bring names alone
pub record HasState (base : BaseState) : Type 0 where
  pub state : Plain
  pub reached : IsReached state
  pub named : AllByRecursion BringsNames reached.events
  pub stands : Stands state base

-- there is one
abbrev pub IsBase : BaseState → Type 0
IsBase base = ∥ HasState base ∥₁
