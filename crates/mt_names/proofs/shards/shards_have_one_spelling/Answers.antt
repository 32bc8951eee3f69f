-- What is read has the text that it was read from.
use Rattle.mt_names.proofs.ShardLemmas.{shards_from_read}
use Rattle.mt_names.proofs.shards.shards_have_one_spelling.Goals as goal

pub returns : goal.returns
returns c = λ text cuts e. (shards_from_read text cuts e).1
