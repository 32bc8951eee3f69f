-- All of the routes are written to no places.
use Rattle.std.proofs.Common.{◌≡◌, ap, fold, subst, sym, ◌∙◌}
use Rattle.mt_routes.specs.LookUp.{said_by}
use Rattle.mt_routes.specs.Places.{no_places, said_in, with_entry}
use Rattle.mt_routes.proofs.DifferenceLemmas.{all-agree}
use Rattle.mt_routes.proofs.places.Places.of.Goals as goal

pub returns : goal.returns
returns c = λ key.
    let routes = c.args.routes.now in
    let is : c.write_all.new.self ≡ fold with_entry no_places routes = c.in_ok-write_all.ensures ∙ ap (λ p. fold with_entry p routes) c.new-places.ensures in
    subst (λ p. said_in p key ≡ said_by routes key) (sym is) (all-agree routes c.requires key)
