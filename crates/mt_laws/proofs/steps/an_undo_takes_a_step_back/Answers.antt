-- As many steps stand done again, and between them no event changes the workflow's way.
use Rattle.mt_laws.proofs.StepUndoneLemmas.{undone_refuses, undone_serves, undone_streams}
use Rattle.mt_laws.proofs.steps.an_undo_takes_a_step_back.Goals as goal

pub returns : goal.returns
returns c = record { served = undone_serves; refused = undone_refuses; streams = undone_streams }
