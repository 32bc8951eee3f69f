use Rattle.mt_routes.proofs.TopologyLemmas.{led-as-resolved}
use Rattle.mt_routes.proofs.laws.routes_lead_as_their_topology.Goals as goal

pub returns : goal.returns
returns c = led-as-resolved
