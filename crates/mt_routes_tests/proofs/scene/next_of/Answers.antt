-- What is written is all that the routes say otherwise.
use Rattle.std.proofs.Common.{subst, sym}
use Rattle.mt_routes.specs.Differences.{AreDifferences}
use Rattle.mt_routes.specs.Publications.{last_routes}
use Rattle.mt_routes_tests.proofs.scene.next_of.Goals as goal

pub new-requires-clause-agrees : goal.new-requires-clause-agrees
new-requires-clause-agrees g c =
    let before = last_routes c.args.told.now in
    let routes = c.in_ok-entries.entries.items in
    c.in_ok-places.ensures routes
    (subst (AreDifferences before routes) (sym c.deref-2.ensures.value)
    (subst (λ r. AreDifferences before r c.in_ok-differences.differences.items) c.deref.ensures.value c.in_ok-differences.ensures.entries))
