-- The events that are owed to the workflows of a core (this profile's own).
use Rattle.std.specs.Prelude.{ℕ, sum_by}
use Rattle.mt_plain.specs.Refuse.{owed_by}
use Rattle.mt_stands.specs.Base.{Workflows}
use Rattle.mt_workflow.specs.Workflows.{live_of}

-- those owed to all, so that each can be given up
abbrev pub owed_to : Workflows → ℕ
owed_to workflows = sum_by (λ w. owed_by (live_of w.1)) workflows
