-- Another rule.
use Rattle.std.proofs.Common.{◌≡◌, true, length, Some, sym, ap, subst, ◌∙◌}
use Rattle.std.proofs.lemmas.Map.{length-set_value}
use Rattle.std.specs.Map.{set_value}
use Rattle.mt_names.specs.Same.{same_key}
use Rattle.mt_rules.specs.Places.{rules_in, with_name, with_place_at}
use Rattle.mt_rules.specs.Rules.{has_rule_place, lent_rule}
use Rattle.mt_rules.proofs.ChangeLemmas.{put_there}
use Rattle.mt_rules.proofs.places.Places.put.Goals as goal

-- the rules then
then : (c : goal.After-put_at) → rules_in c.put_at.new.names.entries ≡ set_value (same_key c.args.key.now) (rules_in c.self.inside.names.entries) (lent_rule c.args.rule)
then c =
    let old = c.self.inside.names.entries in
    let key = c.args.key.now in
    let rule = lent_rule c.args.rule in
    ap rules_in (c.put_at.ensures ∙ ap (λ n. with_name old n (λ four. with_place_at four key.tablet_type (Some rule))) c.of.ensures)
    ∙ put_there old c.len-distinct.ensures.unique key rule (subst (λ rules. has_rule_place rules key ≡ true) (sym c.self.view_is) c.requires)

pub invariant_of-self : goal.invariant_of-self
invariant_of-self c =
    c.self.invariant ∙ sym (ap length (then c) ∙ length-set_value (same_key c.args.key.now) (rules_in c.self.inside.names.entries) (lent_rule c.args.rule))

pub returns : goal.returns
returns c = then c ∙ ap (λ rules. set_value (same_key c.args.key.now) rules (lent_rule c.args.rule)) c.self.view_is
