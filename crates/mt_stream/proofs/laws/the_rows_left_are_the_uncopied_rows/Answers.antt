use Rattle.mt_stream.proofs.UncopiedLemmas.{left-uncopied}
use Rattle.mt_stream.proofs.laws.the_rows_left_are_the_uncopied_rows.Goals as goal

pub returns : goal.returns
returns c = left-uncopied
