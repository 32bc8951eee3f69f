-- The routes that are kept show the list's last publication.
use Rattle.std.proofs.Common.{◌≡◌, Ok, Err, ap, subst, sym, ◌∙◌}
use Rattle.std.specs.Arc.{arc_value}
use Rattle.mt_routes.specs.LookUp.{LastLeads}
use Rattle.mt_routes.specs.Places.{ArePlaces, found_in}
use Rattle.mt_routes.proofs.LookUpLemmas.{leads}
use Rattle.mt_routes.proofs.told.Told.find.Goals as goal

pub returns-in-Ok : goal.returns-in-Ok
returns-in-Ok g c =
    let key = c.args.key.now in
    let type = c.args.tablet_type in
    let front = c.self.inside.front.0 in
    let places = arc_value c.self.inside.routes in
    let are : ArePlaces places = subst ArePlaces c.deref.ensures c.facts.ensures in
    let found : Ok c.in-Ok.target ≡ found_in places key type = sym c.in-Ok.is ∙ (c.find.ensures ∙ ap (λ p. found_in p key type) c.deref-2.ensures) in
    subst (λ list. LastLeads list key type front (Ok c.in-Ok.target)) c.self.view_is
    (leads c.self.inside.seen.log places front key type (Ok c.in-Ok.target) are c.self.invariant.4 c.self.invariant.1 found)

pub returns-in-Err : goal.returns-in-Err
returns-in-Err g c =
    let key = c.args.key.now in
    let type = c.args.tablet_type in
    let front = c.self.inside.front.0 in
    let places = arc_value c.self.inside.routes in
    let are : ArePlaces places = subst ArePlaces c.deref.ensures c.facts.ensures in
    let found : Err c.in-Err.why ≡ found_in places key type = sym c.in-Err.is ∙ (c.find.ensures ∙ ap (λ p. found_in p key type) c.deref-2.ensures) in
    subst (λ list. LastLeads list key type front (Err c.in-Err.why)) c.self.view_is
    (leads c.self.inside.seen.log places front key type (Err c.in-Err.why) are c.self.invariant.4 c.self.invariant.1 found)
