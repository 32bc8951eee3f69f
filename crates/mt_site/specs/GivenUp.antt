-- What must be taken, so that a move can always be given up (this profile's own).
use Rattle.std.specs.Prelude.{◌≡◌, true, false, ◌||◌, ◌==◌, None, Some}
use Rattle.mt_plain.specs.Events.{Event, cancel, undo, Way}
use Rattle.mt_plain.specs.Plain.{stands_done, write_journal}
use Rattle.mt_workflow.specs.Workflows.{WorkflowState}
use Rattle.mt_stands.specs.Base.{workflow_at}
use Rattle.mt_stands.specs.Ways.{CoreState}

-- an undo with the right number, before the journal; and a Cancel where nothing is switched and no way is open
abbrev pub CanBeGivenUp : CoreState → Event → Type 0
CanBeGivenUp s (undo workflow at) =
    (w : WorkflowState) × (way : Way) × (workflow_at s.base.workflows workflow ≡ Some w) × (w.way ≡ Some way)
    × (stands_done way write_journal ≡ false) × ((at == way.done) ≡ true)
CanBeGivenUp s (cancel workflow) =
    (w : WorkflowState) × (workflow_at s.base.workflows workflow ≡ Some w) × (w.way ≡ None)
    × ((w.switched.primary || w.switched.replica || w.switched.rdonly) ≡ false)
CanBeGivenUp s other = ⊥
