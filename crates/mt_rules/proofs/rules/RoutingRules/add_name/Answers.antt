-- Four places more, where there is room for them.
use Rattle.std.proofs.Common.{◌≡◌, ◌≤◌, ◌+◌, false, fold, length, Result, Ok, Err, OnOk, OnErr, arith, sym, ap, subst, ◌∙◌}
use Rattle.std.specs.List.{AllByRecursion}
use Rattle.mt_names.specs.declared.keys.RuleKey.{RuleKey}
use Rattle.mt_model.specs.Limits.{most_rules}
use Rattle.mt_model.specs.Topology.{Rules, with_rule_place}
use Rattle.mt_rules.specs.Rules.{four_keys, has_rule_place}
use Rattle.mt_rules.proofs.ChangeLemmas.{add_four_length}
use Rattle.mt_rules.proofs.rules.RoutingRules.add_name.Goals as goal

within : {A E : Type 0} (r : Result A E) (old new : Rules) (k : RuleKey) → AllByRecursion (λ key. has_rule_place old key ≡ false) (four_keys k) → length old + 4 ≤ most_rules
    → OnOk r (new ≡ fold with_rule_place old (four_keys k)) → OnErr r (new ≡ old) → length new ≤ most_rules
within (Ok done) old new k lacks room ok err = let is : length new ≡ length old + 4 = ap length ok ∙ add_four_length old k lacks in omega (arith, is, room)
within (Err fault) old new k lacks room ok err = let is : length new ≡ length old = ap length err in omega (arith, is, room)

pub invariant_of-self : goal.invariant_of-self
invariant_of-self c =
    let lacks = subst (λ rules. AllByRecursion (λ key. has_rule_place rules key ≡ false) (four_keys c.args.name.now)) (sym c.self.view_is) c.requires.lacks in
    let room : length c.self.inside.places + 4 ≤ most_rules = subst (λ rules. length rules + 4 ≤ most_rules) (sym c.self.view_is) c.requires.room in
    within c.add_name.result c.self.inside.places c.add_name.new.self c.args.name.now lacks room c.add_name.ensures.ok c.add_name.ensures.err
