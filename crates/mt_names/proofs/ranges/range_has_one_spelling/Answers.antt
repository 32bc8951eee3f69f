-- What is read has the text that it was read from.
use Rattle.mt_names.proofs.RangeTextLemmas.{range_from_read}
use Rattle.mt_names.proofs.ranges.range_has_one_spelling.Goals as goal

pub returns : goal.returns
returns c = λ text range e. (range_from_read text range e).1
