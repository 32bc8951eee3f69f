-- One place more, where there is room for it.
use Rattle.std.proofs.Common.{◌≡◌, ◌≤◌, ◌<◌, suc, length, Option, Result, Ok, Err, OnOk, OnErr, arith, sym, ap, subst, ◌∙◌}
use Rattle.mt_names.specs.declared.keys.RuleKey.{RuleKey}
use Rattle.mt_names.specs.declared.keys.RuleTarget.{RuleTarget}
use Rattle.mt_model.specs.Limits.{most_rules}
use Rattle.mt_model.specs.Order.{key_before}
use Rattle.mt_model.specs.Topology.{Rules, put_rule}
use Rattle.mt_model.proofs.OrderLemmas.{length-put_by}
use Rattle.mt_rules.specs.Rules.{lent_rule}
use Rattle.mt_rules.proofs.rules.RoutingRules.add_place.Goals as goal

within : {A E : Type 0} (r : Result A E) (old new : Rules) (e : RuleKey × Option RuleTarget) → length old < most_rules → OnOk r (new ≡ put_rule old e) → OnErr r (new ≡ old) → length new ≤ most_rules
within (Ok done) old new e room ok err = let is : length new ≡ suc (length old) = ap length ok ∙ length-put_by key_before old e in omega (arith, is, room)
within (Err fault) old new e room ok err = let is : length new ≡ length old = ap length err in omega (arith, is, room)

pub invariant_of-self : goal.invariant_of-self
invariant_of-self c =
    let room : length c.self.inside.places < most_rules = subst (λ rules. length rules < most_rules) (sym c.self.view_is) c.requires.room in
    within c.add.result c.self.inside.places c.add.new.self (c.args.key.now, lent_rule c.args.rule) room c.add.ensures.ok c.add.ensures.err
