-- How a shard of a workflow's target is found by its range (this profile's own).
use Rattle.std.specs.Prelude.{ℕ, position, Option, None, Some, Result, Ok, Err}
use Rattle.mt_names.specs.Shards.{KeyRange, same_range}
use Rattle.mt_event.specs.declared.reason.Reason.{Reason}
use Rattle.mt_event.specs.Reasons.{reason_from}
use Rattle.mt_plain.specs.Events as plain
use Rattle.mt_workflow.specs.Workflows.{WorkflowState}

-- the shard at a place, or none
abbrev pub shard_or_none : Option ℕ → Result ℕ plain.Refusal
shard_or_none None = Err plain.no_shard
shard_or_none (Some place) = Ok place

-- the shard of the workflow whose range is written so
abbrev pub shard_in : Option WorkflowState → KeyRange → Result ℕ plain.Refusal
shard_in None range = Err plain.no_workflow
shard_in (Some w) range = shard_or_none (position (λ lane. same_range range lane.range) w.lanes)

-- the same as the code tells it
abbrev pub shard_from : Result ℕ Reason → Result ℕ plain.Refusal
shard_from (Ok shard) = Ok shard
shard_from (Err reason) = Err (reason_from reason)
