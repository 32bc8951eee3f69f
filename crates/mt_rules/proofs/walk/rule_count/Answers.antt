-- Those of one name more; all of them.
use Rattle.std.proofs.Common.{◌≡◌, ◌≤◌, ◌+◌, ap, arith, ◌∙◌}
use Rattle.mt_model.specs.Limits.{most_rules}
use Rattle.mt_rules.specs.Places.{listed, ruled_count, rules_in}
use Rattle.mt_rules.proofs.RouteLemmas.{routes_few}
use Rattle.mt_rules.proofs.WalkLemmas.{all_number, four_number, number}
use Rattle.mt_rules.proofs.walk.rule_count.Goals as goal

module _ (c : goal.After-rule_count-count) where
  -- what is left is that of this name, and of the others
  split : number (listed c.loop-places.places-iterator) ≡ ruled_count c.in-Some.places.now + number (listed c.next.new.self)
  split = ap (λ l. number (listed l)) c.in-Some.ensures.steps ∙ four_number c.in-Some.field-0-0.now c.in-Some.places.now (listed c.next.new.self)

  few : number (listed c.args.names.now.entries) ≤ most_rules
  few =
      let all = all_number c.args.names.now.entries c.len-distinct.ensures.unique in
      omega (arith, all, routes_few (rules_in c.args.names.now.entries), c.requires)

pub overflow_add-count : goal.overflow_add-count
overflow_add-count c = omega (arith, split c, few c, c.loop-places.invariant, c.rule_count-count.ensures)

pub returns-clause-value : goal.returns-clause-value
returns-clause-value c =
    let none : number (listed c.loop-places.places-iterator) ≡ 0 = ap (λ l. number (listed l)) c.in-None.ensures.steps.0 in
    let all = all_number c.args.names.now.entries c.len-distinct.ensures.unique in
    omega (arith, none, all, c.loop-places.invariant)

pub returns-clause-within : goal.returns-clause-within
returns-clause-within c =
    let is = returns-clause-value c in
    omega (arith, is, routes_few (rules_in c.args.names.now.entries), c.requires)
