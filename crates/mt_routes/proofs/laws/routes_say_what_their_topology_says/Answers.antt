use Rattle.mt_routes.proofs.RouteLemmas.{listed-led}
use Rattle.mt_routes.proofs.TopologyLemmas.{target-led}
use Rattle.mt_routes.proofs.laws.routes_say_what_their_topology_says.Goals as goal

pub returns-clause-rules : goal.returns-clause-rules
returns-clause-rules c = target-led

pub returns-clause-tables : goal.returns-clause-tables
returns-clause-tables c = listed-led
