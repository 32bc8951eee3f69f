use Rattle.mt_routes.proofs.TopologyLemmas.{refused-in-two-ways}
use Rattle.mt_routes.proofs.laws.look_ups_are_refused_in_two_ways.Goals as goal

pub returns : goal.returns
returns c = refused-in-two-ways
