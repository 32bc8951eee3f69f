-- There are as many places.
use Rattle.std.proofs.Common.{◌≤◌, length, ap, subst, sym, ◌∙◌}
use Rattle.mt_model.specs.Limits.{most_rules}
use Rattle.mt_rules.specs.Rules.{lent_rule}
use Rattle.mt_rules.proofs.ChangeLemmas.{length-four_set}
use Rattle.mt_rules.proofs.rules.RoutingRules.put_name.Goals as goal

pub invariant_of-self : goal.invariant_of-self
invariant_of-self c =
    subst (λ n. n ≤ most_rules)
    (sym (ap length c.put_name.ensures ∙ length-four_set c.self.inside.places c.args.name.now (lent_rule c.args.plain) (lent_rule c.args.primary) (lent_rule c.args.replica) (lent_rule c.args.rdonly)))
    c.self.invariant
