-- The list was made longer by the last publication, which is of all lines.
use Rattle.std.proofs.Common.{◌≡◌, ◌∙◌, ◌++◌, ◌∷◌, [], List, ap, length, rules, subst, sym}
use Rattle.mt_model.specs.Topology.{routes_of}
use Rattle.mt_model.specs.declared.entries.Entry.{Entry}
use Rattle.mt_model.specs.declared.entries.Scope.TheVariants.{Routes}
use Rattle.mt_routes.specs.Publications.{last_routes, publication}
use Rattle.mt_watch.specs.Asking.{IsTold}
use Rattle.mt_desk.specs.Fronts.{AreFronts, Changes}
use Rattle.mt_desk.proofs.FrontLemmas.{tells}
use Rattle.mt_desk.proofs.book.Book.tell.Goals as goal

pub returns-clause-asks : goal.returns-clause-asks
returns-clause-asks g c =
    subst (λ t. (change : List Entry) × Changes (last_routes c.args.self.now.told) t change × IsTold (g.W.Asks.scopes c.args.watchers.now) (g.W.Asks.may_answer c.args.watchers.now) Routes change change)
    c.topology.ensures c.in_ok-next.ensures.asks

pub returns-clause-tells : goal.returns-clause-tells
returns-clause-tells g c =
    let scopes = g.D.DeskName.scopes in
    let opening = g.D.DeskName.opening in
    let book = c.args.self.now in
    let next : c.in_ok-next.next ≡ publication (length book.history.items) (routes_of book.core.base.topology) = search rules in
    tells scopes opening book.core book.history.items book.told c.publish.result
    (c.publish.ensures.is ∙ (c.publish.ensures.told ∙ ap (λ p. book.told ++ p ∷ []) next)) book.legal
    (subst (λ l. ∥ AreFronts scopes opening book.history.items l ∥₁) (sym c.publish.ensures.is)
    (subst (λ h. ∥ AreFronts scopes opening h.items c.publish.new.self.told ∥₁) c.publish.ensures.history c.publish.new.self.fronts))
