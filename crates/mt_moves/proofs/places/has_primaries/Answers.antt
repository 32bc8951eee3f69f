-- What stands at a place is there.
use Rattle.std.proofs.Common.{◌∙◌}
use Rattle.mt_moves.proofs.PrimaryLemmas.{there-or-not}
use Rattle.mt_moves.proofs.places.has_primaries.Goals as goal

pub returns : goal.returns
returns c = c.is_some.ensures ∙ there-or-not c.args.primaries.now c.args.keyspace.now c.place.result c.place.ensures.found
