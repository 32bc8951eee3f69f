-- By the event, and where it is a step or an undo by the number of the step.
use Rattle.mt_laws.proofs.InUseLemmas.{in_use_goes_on}
use Rattle.mt_laws.proofs.streams.what_is_in_use_goes_on.Goals as goal

pub returns : goal.returns
returns c = in_use_goes_on
