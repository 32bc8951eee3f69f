-- What is read has the text that it was read from.
use Rattle.mt_names.proofs.KeyLemmas.{key_from_read}
use Rattle.mt_names.proofs.keys.key_has_one_spelling.Goals as goal

pub returns : goal.returns
returns c = λ text key e. (key_from_read text key e).1
