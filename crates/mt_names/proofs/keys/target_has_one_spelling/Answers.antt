-- What is read has the text that it was read from.
use Rattle.mt_names.proofs.KeyLemmas.{target_from_read}
use Rattle.mt_names.proofs.keys.target_has_one_spelling.Goals as goal

pub returns : goal.returns
returns c = λ text target e. (target_from_read text target e).1
