use Rattle.mt_laws.proofs.PositionLemmas.{position_never_falls, position_within}
use Rattle.mt_laws.proofs.streams.positions_never_fall.Goals as goal

pub returns : goal.returns
returns c = record { within = position_within; never_fall = position_never_falls }
