-- There are as many places.
use Rattle.std.proofs.Common.{◌≡◌, ◌≤◌, length, ap, subst, sym, ◌∙◌}
use Rattle.std.proofs.lemmas.Map.{length-set_value}
use Rattle.std.specs.Map.{set_value}
use Rattle.mt_names.specs.Same.{same_key}
use Rattle.mt_model.specs.Limits.{most_rules}
use Rattle.mt_rules.specs.Rules.{lent_rule, of_type}
use Rattle.mt_rules.proofs.rules.RoutingRules.exchange_two.Goals as goal

pub invariant_of-self : goal.invariant_of-self
invariant_of-self c =
    let first = same_key (of_type c.args.name.now c.args.types.0) in
    let second = same_key (of_type c.args.name.now c.args.types.1) in
    let once = set_value first c.self.inside.places (lent_rule c.args.rules.0) in
    let is : length c.exchange_two.new.self ≡ length c.self.inside.places =
    ap length c.exchange_two.ensures.after ∙ length-set_value second once (lent_rule c.args.rules.1) ∙ length-set_value first c.self.inside.places (lent_rule c.args.rules.0) in
    subst (λ n. n ≤ most_rules) (sym is) c.self.invariant
