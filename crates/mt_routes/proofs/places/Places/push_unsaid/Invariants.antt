-- What was added of the routes so far.
use Rattle.std.proofs.Common.{◌≡◌, ◌++◌, filter, not, take}
use Rattle.mt_routes.specs.Differences.{is_said}
use Rattle.mt_routes.proofs.places.Places.push_unsaid.Given as goal

abbrev pub invariant-loop-route : goal.invariant-loop-route
invariant-loop-route l = l.list.items ≡ l.fn.list.items ++ filter (λ e. not (is_said l.self e)) (take l.route-index l.routes)
