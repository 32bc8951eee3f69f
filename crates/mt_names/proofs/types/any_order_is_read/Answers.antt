use Rattle.mt_names.proofs.TypeLemmas.{list_is_read}
use Rattle.mt_names.proofs.types.any_order_is_read.Goals as goal

pub returns-clause-list : goal.returns-clause-list
returns-clause-list c = list_is_read
