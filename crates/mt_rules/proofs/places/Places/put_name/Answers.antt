-- Four other rules.
use Rattle.std.proofs.Common.{◌≡◌, true, length, Some, sym, ap, subst, ◌∙◌}
use Rattle.std.specs.List.{AllByRecursion}
use Rattle.mt_rules.specs.Places.{rules_in, with_name}
use Rattle.mt_rules.specs.Rules.{four_keys, four_rules, has_rule_place, lent_rule, with_rules_set}
use Rattle.mt_rules.proofs.ChangeLemmas.{length-four_set, put_four}
use Rattle.mt_rules.proofs.places.Places.put_name.Goals as goal

-- the rules then
then : (c : goal.After-put_all_at) → rules_in c.put_all_at.new.names.entries
    ≡ with_rules_set (rules_in c.self.inside.names.entries) (four_rules c.args.key.now (lent_rule c.args.plain) (lent_rule c.args.primary) (lent_rule c.args.replica) (lent_rule c.args.rdonly))
then c =
    let old = c.self.inside.names.entries in
    let key = c.args.key.now in
    ap rules_in
    (c.put_all_at.ensures
    ∙ ap (λ n. with_name old n (λ four. record { all = Some (lent_rule c.args.plain); primary = Some (lent_rule c.args.primary); replica = Some (lent_rule c.args.replica); rdonly = Some (lent_rule c.args.rdonly) })) c.of-name.ensures)
    ∙ put_four old c.len-distinct.ensures.unique key (lent_rule c.args.plain) (lent_rule c.args.primary) (lent_rule c.args.replica) (lent_rule c.args.rdonly)
    (subst (λ rules. AllByRecursion (λ key. has_rule_place rules key ≡ true) (four_keys key)) (sym c.self.view_is) c.requires)

pub invariant_of-self : goal.invariant_of-self
invariant_of-self c =
    c.self.invariant
    ∙ sym (ap length (then c) ∙ length-four_set (rules_in c.self.inside.names.entries) c.args.key.now (lent_rule c.args.plain) (lent_rule c.args.primary) (lent_rule c.args.replica) (lent_rule c.args.rdonly))

pub returns : goal.returns
returns c =
    then c
    ∙ ap (λ rules. with_rules_set rules (four_rules c.args.key.now (lent_rule c.args.plain) (lent_rule c.args.primary) (lent_rule c.args.replica) (lent_rule c.args.rdonly))) c.self.view_is
