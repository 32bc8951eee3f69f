-- Both ways; and no key twice.
use Rattle.mt_model.proofs.RouteLemmas.{routes_apart, routes_said, said_is_route}
use Rattle.mt_model.proofs.part.routes_are_what_stands.Goals as goal

pub returns-clause-each : goal.returns-clause-each
returns-clause-each c = λ t e distinct. (routes_said t e distinct, said_is_route t e)

pub returns-clause-once : goal.returns-clause-once
returns-clause-once c = routes_apart
