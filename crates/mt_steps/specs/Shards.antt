-- The shards of a workflow's target, and what a step does for each of them.
use Rattle.std.specs.Prelude.{◌≡◌, ℕ, ◌-◌, List, [], ◌∷◌, length, slice_index_or, slice_set}
use Rattle.std.specs.List.{range_with_len}
use Rattle.mt_plain.specs.Events.{Way}
use Rattle.mt_plain.specs.Plain.{next_place, shard_at_place}
use Rattle.mt_primary.specs.Primary.{PrimaryState, empty_primary}
use Rattle.mt_workflow.specs.Workflows.{LaneState, WorkflowState}

-- the numbers of the shards of a workflow's target (this profile's own)
abbrev pub shards_of : WorkflowState → List ℕ
shards_of w = range_with_len 0 (length w.lanes)

-- the primary of a shard of the target (this profile's own)
abbrev pub target_at : List PrimaryState → (shard : ℕ) → PrimaryState
target_at targets shard = slice_index_or targets shard empty_primary

-- no other primary of the target than that of a shard is changed (this profile's own)
abbrev pub IsChangedAt : (shard : ℕ) → List PrimaryState → List PrimaryState → Type 0
IsChangedAt shard old new = new ≡ slice_set old shard (target_at new shard)

-- the shard that the next place is for, and that of the place that was done last (How traffic is switched)
abbrev pub next_shard : Way → ℕ
next_shard way = shard_at_place way (next_place way)

abbrev pub last_shard : Way → ℕ
last_shard way = shard_at_place way (next_place way - 1)

-- the lanes, each changed with what is listed for its shard (this profile's own)
abbrev pub with_each : {A : Type 0} → (A → LaneState → LaneState) → List A → List LaneState → List LaneState
with_each change [] lanes = lanes
with_each change (x ∷ xs) [] = []
with_each change (x ∷ xs) (lane ∷ lanes) = change x lane ∷ with_each change xs lanes
