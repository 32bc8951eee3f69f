-- Four places more.
use Rattle.std.proofs.Common.{◌≡◌, true, false, ◌+◌, fold, length, is_some, None, Some, arith, rules, sym, ap, subst, ◌∙◌}
use Rattle.std.specs.List.{AllByRecursion}
use Rattle.std.specs.Map.{lookup}
use Rattle.mt_model.specs.Topology.{with_rule_place}
use Rattle.mt_rules.specs.Places.{rules_in, same_name, with_name}
use Rattle.mt_rules.specs.Rules.{four_keys, has_rule_place}
use Rattle.mt_rules.proofs.ChangeLemmas.{add_four, add_four_length, on_err}
use Rattle.mt_rules.proofs.PlacesLemmas.{same_rules}
use Rattle.mt_rules.proofs.places.Places.add_name.Goals as goal

pub invariant_of-self : goal.invariant_of-self
invariant_of-self c =
    c.self.invariant ∙ sym (ap length (same_rules c.make_name.new.names.entries c.self.inside.names.entries c.make_name.ensures.after c.make_name.ensures.before c.make_name.ensures.places))

pub returns-in_err-make_name-clause-err : goal.returns-in_err-make_name-clause-err
returns-in_err-make_name-clause-err c =
    on_err c.from_residual.result (rules_in c.make_name.new.names.entries ≡ c.args.self.now)
    (same_rules c.make_name.new.names.entries c.self.inside.names.entries c.make_name.ensures.after c.make_name.ensures.before c.make_name.ensures.places ∙ c.self.view_is)

-- none of the four has a place
lacks : (c : goal.After-self-1) → AllByRecursion (λ key. has_rule_place (rules_in c.self.inside.names.entries) key ≡ false) (four_keys c.args.key.now)
lacks c = subst (λ rules. AllByRecursion (λ key. has_rule_place rules key ≡ false) (four_keys c.args.key.now)) (sym c.self.view_is) c.requires

-- the rules then
then : (c : goal.After-self-1) → rules_in c.put_all_at.new.names.entries ≡ fold with_rule_place (rules_in c.self.inside.names.entries) (four_keys c.args.key.now)
then c =
    let old = c.self.inside.names.entries in
    let mid = c.make_name.new.names.entries in
    ap rules_in (c.put_all_at.ensures ∙ ap (λ n. with_name mid n (λ four. record { all = Some None; primary = Some None; replica = Some None; rdonly = Some None })) c.of-name.ensures)
    ∙ add_four old mid c.make_name.ensures.before c.make_name.ensures.after c.make_name.ensures.places c.args.key.now
    (subst (λ n. is_some (lookup (same_name n) mid) ≡ true) c.of-name.ensures c.in_ok-make_name.ensures.room) (lacks c)

pub invariant_of-self-2 : goal.invariant_of-self-2
invariant_of-self-2 c =
    let is = ap length (then c) ∙ add_four_length (rules_in c.self.inside.names.entries) c.args.key.now (lacks c) in
    let len : c.in-Some.len ≡ c.self.inside.len + 4 = search (rules, arith) in
    omega (arith, is, c.self.invariant, len)

pub returns-clause-ok : goal.returns-clause-ok
returns-clause-ok c = then c ∙ ap (λ rules. fold with_rule_place rules (four_keys c.args.key.now)) c.self.view_is
