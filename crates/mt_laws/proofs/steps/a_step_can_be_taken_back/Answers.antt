-- Computed, event by event.
use Rattle.mt_laws.proofs.StepWitnessLemmas.{a_step_back}
use Rattle.mt_laws.proofs.steps.a_step_can_be_taken_back.Goals as goal

pub returns : goal.returns
returns c = a_step_back
