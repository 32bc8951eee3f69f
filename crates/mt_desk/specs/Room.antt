-- The places that the history keeps free, so that each move can always be given up (this profile's own).
use Rattle.std.specs.Prelude.{ℕ, ◌+◌, ◌≤◌, Bool, true, false, not, ◌==◌, ◌&&◌, ◌||◌, is_some}
use Rattle.std.specs.Option.{option_map_or}
use Rattle.mt_plain.specs.Events.{Event, cancel, undo, Way}
use Rattle.mt_plain.specs.Plain.{stands_done, write_journal}
use Rattle.mt_workflow.specs.Workflows.{WorkflowState}
use Rattle.mt_site.specs.Owed.{owed_to}
use Rattle.mt_stands.specs.Base.{workflow_at}
use Rattle.mt_stands.specs.Ways.{CoreState}

-- an undo has the right number, and the journal isn't written
abbrev pub can_undo : (at : ℕ) → Way → Bool
can_undo at way = not (stands_done way write_journal) && (at == way.done)

-- no way is open, and nothing is switched
abbrev pub can_cancel : WorkflowState → Bool
can_cancel w = not (is_some w.way) && not (w.switched.primary || w.switched.replica || w.switched.rdonly)

-- whether an event gives a move up, as must always be done
abbrev pub gives_up : CoreState → Event → Bool
gives_up s (undo workflow at) = option_map_or (λ w. option_map_or (can_undo at) w.way false) (workflow_at s.base.workflows workflow) false
gives_up s (cancel workflow) = option_map_or can_cancel (workflow_at s.base.workflows workflow) false
gives_up s other = false

-- beside the lines there is a place for each event that is owed
abbrev pub HasRoom : (lines : ℕ) → (now : CoreState) → (places : ℕ) → Type 0
HasRoom lines now places = lines + owed_to now.base.workflows ≤ places

-- an undo or a Cancel, whose answer always stands in place
abbrev pub is_undo_or_cancel : Event → Bool
is_undo_or_cancel (undo workflow at) = true
is_undo_or_cancel (cancel workflow) = true
is_undo_or_cancel other = false
