-- There are as many places.
use Rattle.std.proofs.Common.{◌≤◌, length, ap, subst, sym, ◌∙◌}
use Rattle.std.proofs.lemmas.Map.{length-set_value}
use Rattle.mt_names.specs.Same.{same_key}
use Rattle.mt_model.specs.Limits.{most_rules}
use Rattle.mt_rules.specs.Rules.{lent_rule}
use Rattle.mt_rules.proofs.rules.RoutingRules.put.Goals as goal

pub invariant_of-self : goal.invariant_of-self
invariant_of-self c =
    subst (λ n. n ≤ most_rules) (sym (ap length c.put.ensures ∙ length-set_value (same_key c.args.key.now) c.self.inside.places (lent_rule c.args.rule))) c.self.invariant
