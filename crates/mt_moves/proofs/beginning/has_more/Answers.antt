-- By the types of what is left.
use Rattle.mt_moves.proofs.TypeLemmas.{some_type}
use Rattle.mt_names.specs.declared.types.TabletType.TheVariants.{Primary, Replica, Rdonly}
use Rattle.mt_moves.proofs.beginning.has_more.Goals as goal

pub returns : goal.returns
returns c = some_type c.without.result c.is_empty.result _ _ _ c.is_empty.ensures (c.without.ensures Primary) (c.without.ensures Replica) (c.without.ensures Rdonly)
