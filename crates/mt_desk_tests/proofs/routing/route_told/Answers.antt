-- The list of the router begins with what it learnt, before the look-up and behind it.
use Rattle.mt_desk_tests.proofs.PrefixLemmas.{prefix_more}
use Rattle.mt_desk_tests.proofs.routing.route_told.Goals as goal

pub returns-in-Ok-route : goal.returns-in-Ok-route
returns-in-Ok-route g c =
    (c.in-Ok.told, c.in-Ok.ensures.tells, prefix_more c.in-Ok.told c.learn.new.self c.route.new.self c.learn.ensures.told c.route.ensures.grows, c.in-Ok-route.ensures.answer)
