-- No line leads nowhere, there is a place for each event that is owed, and the first publication is of no line.
use Rattle.std.proofs.Common.{◌≡◌, ◌∙◌, [], ◌∷◌, ap, sym, subst}
use Rattle.mt_model.specs.Topology.{routes_of}
use Rattle.mt_routes.specs.Publications.{publication}
use Rattle.mt_stands.specs.Ways.{CoreState}
use Rattle.mt_desk.specs.Fronts.{AreFronts}
use Rattle.mt_desk.specs.Histories.{Leads}
use Rattle.mt_desk.proofs.FrontLemmas.{first_front}
use Rattle.mt_desk.proofs.LeadsLemmas.{kept_nowhere, purged_opened}
use Rattle.mt_desk.proofs.book.Book.begun.Goals as goal

pub invariant_of-result : goal.invariant_of-result
invariant_of-result g c =
    let scopes = g.D.DeskName.scopes in
    let opening = g.D.DeskName.opening in
    let core = c.args.core in
    let history = c.args.history in
    let first : c.args.list.2 ≡ publication 0 (routes_of opening.base.topology) ∷ [] = c.requires.first ∙ ap (λ (s : CoreState). publication 0 (routes_of s.base.topology) ∷ []) c.requires.opening in
    record {
      legal = subst (λ lines. ∥ Leads scopes opening lines core ∥₁) (sym c.requires.none) (kept_nowhere scopes opening core c.requires.opening c.requires.stood);
      purged = purged_opened opening core c.requires.opening;
      room = c.requires.room;
      fronts = subst (λ lines. ∥ AreFronts scopes opening lines c.args.list.2 ∥₁) (sym c.requires.none)
          (subst (λ list. ∥ AreFronts scopes opening [] list ∥₁) (sym first) (first_front c.routes_of_what_is_served_are_a_view.ensures.routes scopes opening));
      shown = c.requires.shown;
    }
