use Rattle.mt_routes.proofs.Lists.{fronts_never_fall}
use Rattle.mt_routes.proofs.laws.fronts_never_fall.Goals as goal

pub returns : goal.returns
returns c = fronts_never_fall
