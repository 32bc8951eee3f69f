-- What is said otherwise is written to a copy of routes that agree with the list's last publication.
use Rattle.std.proofs.Common.{◌≡◌, ap, fold, subst, sym, ◌∙◌}
use Rattle.std.specs.Arc.{arc_value}
use Rattle.mt_routes.specs.Differences.{AreDifferences}
use Rattle.mt_routes.specs.LookUp.{said_by}
use Rattle.mt_routes.specs.Places.{ArePlaces, said_in, standing, with_entry}
use Rattle.mt_routes.specs.Publications.{last_routes}
use Rattle.mt_routes.proofs.DifferenceLemmas.{written-to-copy}
use Rattle.mt_routes.proofs.told.Told.written.Goals as goal

pub returns : goal.returns
returns g c = λ routes differ key.
    let places = arc_value c.self.inside.routes in
    let entries = c.args.entries.now in
    let before = last_routes c.self.inside.seen.log in
    let are : ArePlaces places = subst ArePlaces c.deref.ensures c.facts.ensures in
    let differ_so : AreDifferences before routes entries = subst (λ l. AreDifferences (last_routes l) routes entries) (sym c.self.view_is) differ in
    let is : c.write_all.new.self ≡ fold with_entry (standing places) entries = c.in_ok-write_all.ensures ∙ ap (λ p. fold with_entry p entries) (c.in_ok-places.ensures ∙ ap standing c.deref-2.ensures) in
    subst (λ p. said_in p key ≡ said_by routes key) (sym is) (written-to-copy places before routes entries are c.self.invariant.4.agrees differ_so key)
