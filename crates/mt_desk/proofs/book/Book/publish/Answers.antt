-- The routes of the topology are the view after all lines, and no publication has a front beyond these. One more is shown.
use Rattle.std.proofs.Common.{◌≡◌, ◌∙◌, ◌+◌, ◌≤◌, ◌++◌, ◌∷◌, [], ap, arith, length, length-append, subst, sym}
use Rattle.mt_model.specs.Topology.{routes_of}
use Rattle.mt_routes.specs.Publications.{last_front, publication}
use Rattle.mt_desk.specs.Fronts.{AreFronts}
use Rattle.mt_desk.proofs.FrontLemmas.{fronts_added, last_front_within}
use Rattle.mt_desk.proofs.book.Book.publish.Goals as goal

pub added-requires : goal.added-requires
added-requires g c =
    let book = c.args.self.now in
    subst (λ p. last_front book.told ≤ p.front) (sym c.requires) (last_front_within g.D.DeskName.scopes g.D.DeskName.opening book.history.items book.told book.fronts)

pub invariant_of-self : goal.invariant_of-self
invariant_of-self g c =
    let scopes = g.D.DeskName.scopes in
    let opening = g.D.DeskName.opening in
    let book = c.args.self.now in
    let lines = book.history.items in
    let all = publication (length lines) (routes_of book.core.base.topology) in
    let listed : c.show-kept.result.0 ≡ book.told ++ all ∷ [] = c.show-kept.ensures.kept ∙ (c.added.ensures ∙ ap (λ p. book.told ++ p ∷ []) c.requires) in
    let longer : length c.show-kept.result.0 ≡ length book.told + 1 = omega (arith, ap length listed, length-append book.told (all ∷ [])) in
    record {
      legal = book.legal;
      purged = book.purged;
      room = book.room;
      fronts = subst (λ list. ∥ AreFronts scopes opening lines list ∥₁) (sym listed)
          (fronts_added c.routes_of_what_is_served_are_a_view.ensures.routes scopes opening book.core lines book.told book.legal book.fronts);
      shown = omega (arith, c.show-kept.ensures.shows, ap length c.show-kept.ensures.kept, longer, book.shown);
    }
