use Rattle.std.proofs.Common.{◌≡◌, Contains, rules, sym, subst}
use Rattle.std.proofs.lemmas.Fn.{always_returns_same}
use Rattle.std.proofs.lemmas.List.Sorted.{Contains-permutation, IsPermutation-sym}
use Rattle.mt_routes.specs.Differences.{differences}
use Rattle.mt_routes.specs.Turns.{turn_of}
use Rattle.mt_routes.proofs.DifferenceLemmas.{are-differences}
use Rattle.mt_routes.proofs.places.Places.differences.Goals as goal

pub returns-clause-entries : goal.returns-clause-entries
returns-clause-entries g c before agrees e =
    let places = c.args.self.now in
    let routes = c.args.routes.now in
    let list = c.push_differences.new.list.items in
    let sorted = c.sort_unstable_by_key.new.self.items in
    let has_rule = g.S.Standing.rules c.args.standing.now in
    let has_table = g.S.Standing.tables c.args.standing.now in
    let all : list ≡ differences has_rule has_table places routes = search rules in
    let there = c.sort_unstable_by_key.ensures.permutation in
    let are = are-differences places routes before c.facts.ensures c.requires.routes has_rule has_table c.requires.rules c.requires.tables agrees e in (
      (λ h. are.0 (subst (λ l. Contains l e) all (Contains-permutation sorted list e (IsPermutation-sym list sorted there) h))),
      (λ d. Contains-permutation list sorted e there (subst (λ l. Contains l e) (sym all) (are.1 d))),
    )

pub returns-clause-order : goal.returns-clause-order
returns-clause-order g c = c.sort_unstable_by_key.ensures.sorted turn_of (always_returns_same _ (λ a r. r ≡ turn_of a.0.now) _ (λ a r f called. search rules))
