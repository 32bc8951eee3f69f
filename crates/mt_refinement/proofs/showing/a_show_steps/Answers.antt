-- What is shown is the live workflow's.
use Rattle.mt_refinement.proofs.ShowLemmas.{show_steps}
use Rattle.mt_refinement.proofs.showing.a_show_steps.Goals as goal

pub returns : goal.returns
returns c = show_steps
