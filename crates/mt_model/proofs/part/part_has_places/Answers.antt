-- Both sides are there.
use Rattle.mt_model.proofs.PartLemmas.{part_places}
use Rattle.mt_model.proofs.part.part_has_places.Goals as goal

pub returns : goal.returns
returns c = part_places
