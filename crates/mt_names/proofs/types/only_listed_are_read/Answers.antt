use Rattle.mt_names.proofs.TypeLemmas.{only_listed}
use Rattle.mt_names.proofs.types.only_listed_are_read.Goals as goal

pub returns : goal.returns
returns c = only_listed
