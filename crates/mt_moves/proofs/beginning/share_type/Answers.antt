-- By the types that both have.
use Rattle.mt_moves.proofs.TypeLemmas.{some_type}
use Rattle.mt_names.specs.declared.types.TabletType.TheVariants.{Primary, Replica, Rdonly}
use Rattle.mt_moves.proofs.beginning.share_type.Goals as goal

pub returns : goal.returns
returns c = some_type c.both.result c.is_empty.result _ _ _ c.is_empty.ensures (c.both.ensures Primary) (c.both.ensures Replica) (c.both.ensures Rdonly)
