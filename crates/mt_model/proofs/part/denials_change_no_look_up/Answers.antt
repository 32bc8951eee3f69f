-- Look-ups read tables and rules.
use Rattle.mt_model.proofs.PlaceLemmas.{resolution-denied}
use Rattle.mt_model.proofs.part.denials_change_no_look_up.Goals as goal

pub returns : goal.returns
returns c = resolution-denied
