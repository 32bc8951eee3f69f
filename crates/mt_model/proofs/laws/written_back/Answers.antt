-- What stood before, written again.
use Rattle.mt_model.proofs.TopologyLemmas.{with_entry-back}
use Rattle.mt_model.proofs.laws.written_back.Goals as goal

pub returns : goal.returns
returns c = with_entry-back
