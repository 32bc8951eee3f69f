use Rattle.mt_routes.proofs.RouteLemmas.{routes-are-routes}
use Rattle.mt_routes.proofs.laws.routes_of_a_topology_say_each_of_themselves.Goals as goal

pub returns : goal.returns
returns c = routes-are-routes
