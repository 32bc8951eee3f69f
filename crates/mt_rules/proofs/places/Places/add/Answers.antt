-- A place more.
use Rattle.std.proofs.Common.{◌≡◌, true, false, suc, ◌+◌, length, is_some, Some, arith, rules, sym, ap, subst, ◌∙◌}
use Rattle.std.specs.Map.{lookup}
use Rattle.mt_model.specs.Order.{key_before}
use Rattle.mt_model.specs.Topology.{put_rule}
use Rattle.mt_model.proofs.OrderLemmas.{length-put_by}
use Rattle.mt_rules.specs.Places.{rules_in, same_name, with_name, with_place_at}
use Rattle.mt_rules.specs.Rules.{has_rule_place, lent_rule}
use Rattle.mt_rules.proofs.ChangeLemmas.{add_there, on_err}
use Rattle.mt_rules.proofs.PlacesLemmas.{same_rules}
use Rattle.mt_rules.proofs.places.Places.add.Goals as goal

pub invariant_of-self : goal.invariant_of-self
invariant_of-self c =
    c.self.invariant ∙ sym (ap length (same_rules c.make_name.new.names.entries c.self.inside.names.entries c.make_name.ensures.after c.make_name.ensures.before c.make_name.ensures.places))

pub returns-in_err-make_name-clause-err : goal.returns-in_err-make_name-clause-err
returns-in_err-make_name-clause-err c =
    on_err c.from_residual.result (rules_in c.make_name.new.names.entries ≡ c.args.self.now)
    (same_rules c.make_name.new.names.entries c.self.inside.names.entries c.make_name.ensures.after c.make_name.ensures.before c.make_name.ensures.places ∙ c.self.view_is)

-- the rules then
then : (c : goal.After-self-1) → rules_in c.put_at.new.names.entries ≡ put_rule (rules_in c.self.inside.names.entries) (c.args.key.now, lent_rule c.args.rule)
then c =
    let old = c.self.inside.names.entries in
    let mid = c.make_name.new.names.entries in
    let key = c.args.key.now in
    let rule = lent_rule c.args.rule in
    let lacks : has_rule_place (rules_in old) key ≡ false = subst (λ rules. has_rule_place rules key ≡ false) (sym c.self.view_is) c.requires.lacks in
    ap rules_in (c.put_at.ensures ∙ ap (λ n. with_name mid n (λ four. with_place_at four key.tablet_type (Some rule))) c.of-name.ensures)
    ∙ add_there old mid c.make_name.ensures.before c.make_name.ensures.after c.make_name.ensures.places key rule
    (subst (λ n. is_some (lookup (same_name n) mid) ≡ true) c.of-name.ensures c.in_ok-make_name.ensures.room) lacks

pub invariant_of-self-2 : goal.invariant_of-self-2
invariant_of-self-2 c =
    let is : length (rules_in c.put_at.new.names.entries) ≡ suc (length (rules_in c.self.inside.names.entries)) =
    ap length (then c) ∙ length-put_by key_before (rules_in c.self.inside.names.entries) (c.args.key.now, lent_rule c.args.rule) in
    let len : c.in-Some.len ≡ c.self.inside.len + 1 = search (rules, arith) in
    omega (arith, is, c.self.invariant, len)

pub returns-clause-ok : goal.returns-clause-ok
returns-clause-ok c = then c ∙ ap (λ rules. put_rule rules (c.args.key.now, lent_rule c.args.rule)) c.self.view_is
