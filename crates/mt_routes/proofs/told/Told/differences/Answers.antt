-- The routes that are kept agree with the list's last publication.
use Rattle.std.proofs.Common.{subst, sym}
use Rattle.mt_routes.specs.Differences.{AreDifferences}
use Rattle.mt_routes.specs.Places.{Agrees}
use Rattle.mt_routes.specs.Publications.{last_routes}
use Rattle.mt_routes.proofs.DifferenceLemmas.{if_ok}
use Rattle.mt_routes.proofs.told.Told.differences.Goals as goal

pub returns-clause-entries : goal.returns-clause-entries
returns-clause-entries g c =
    let before = last_routes c.self.inside.seen.log in
    let routes = c.args.routes.now in
    if_ok c.differences.result
    (λ list say. subst (λ l. AreDifferences (last_routes l) routes list.items) c.self.view_is (say before (subst (λ p. Agrees p before) (sym c.deref.ensures) c.self.invariant.4.agrees)))
    c.differences.ensures.entries
