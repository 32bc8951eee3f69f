-- One write after the other, taken back from the last.
use Rattle.mt_model.proofs.PlaceLemmas.{with_entries-back}
use Rattle.mt_model.proofs.part.taken_back_in_reverse.Goals as goal

pub returns : goal.returns
returns c = with_entries-back
