use Rattle.mt_routes.proofs.DifferenceLemmas.{written-agree}
use Rattle.mt_routes.proofs.laws.what_is_written_agrees.Goals as goal

pub returns : goal.returns
returns c = written-agree
