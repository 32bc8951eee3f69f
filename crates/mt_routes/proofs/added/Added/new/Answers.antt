-- The last publication of the list is the one that was added.
use Rattle.std.proofs.Common.{◌≡◌, ◌∙◌, ◌++◌, ◌∷◌, [], List, ap, subst, sym}
use Rattle.std.specs.Arc.{arc_value}
use Rattle.mt_routes.specs.declared.publication.Publication.{Publication}
use Rattle.mt_routes.specs.Places.{Agrees, PlacesState, Shows}
use Rattle.mt_routes.specs.Publications.{last_front, publication}
use Rattle.mt_routes.proofs.Lists.{front-added, shows-added}
use Rattle.mt_routes.proofs.added.Added.new.Goals as goal

pub new-requires-clause-front : goal.new-requires-clause-front
new-requires-clause-front g c =
    let next = c.next.inside in
    let before = c.requires.last.0 in
    let is : c.args.seen.log ≡ before ++ publication next.front.0 next.entries.items ∷ [] = c.requires.last.1 ∙ ap (λ e. before ++ e ∷ []) (sym c.next.view_is) in
    sym (ap last_front is ∙ front-added before (publication next.front.0 next.entries.items))

pub new-requires-clause-shows : goal.new-requires-clause-shows
new-requires-clause-shows g c =
    let next = c.next.inside in
    let before = c.requires.last.0 in
    let is : c.args.seen.log ≡ before ++ publication next.front.0 next.entries.items ∷ [] = c.requires.last.1 ∙ ap (λ e. before ++ e ∷ []) (sym c.next.view_is) in
    shows-added before (publication next.front.0 next.entries.items) c.args.seen.log (arc_value next.told) is c.next.invariant.0 c.next.invariant.3

pub invariant_of-result : goal.invariant_of-result
invariant_of-result g c =
    let next = c.next.inside in
    let before = c.requires.last.0 in
    let is : c.args.seen.log ≡ before ++ publication next.front.0 next.entries.items ∷ [] = c.requires.last.1 ∙ ap (λ e. before ++ e ∷ []) (sym c.next.view_is) in
    let shows : (places : PlacesState) → Agrees places next.entries.items → Shows c.new.result places = λ places agrees. subst (λ list. Shows list places) (sym c.new.ensures) (shows-added before (publication next.front.0 next.entries.items) c.args.seen.log places is c.next.invariant.0 agrees) in
    (shows (arc_value next.kept) c.next.invariant.1, shows (arc_value next.shown) c.next.invariant.2)
