-- What the notice says is all that the routes say otherwise.
use Rattle.std.proofs.Common.{◌≡◌, rules, subst, sym}
use Rattle.mt_routes.specs.Differences.{AreDifferences}
use Rattle.mt_routes.specs.Publications.{last_routes}
use Rattle.mt_desk.proofs.tell.next_of.Goals as goal

pub new-requires-clause-agrees : goal.new-requires-clause-agrees
new-requires-clause-agrees g c =
    let before = last_routes c.args.told.now in
    let routes = c.in_ok-entries.entries.items in
    let written : c.as_slice.result.now ≡ c.in_ok-entries.notice = search rules in
    c.in-Ok.ensures routes
    (subst (AreDifferences before routes) (sym written)
    (subst (λ r. AreDifferences before r c.in_ok-entries.notice) (sym c.in_ok-entries.ensures.routes) c.in_ok-entries.ensures.changes.0))
