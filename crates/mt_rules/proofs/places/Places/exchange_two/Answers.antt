-- Two other rules.
use Rattle.std.proofs.Common.{◌≡◌, true, length, Some, sym, ap, subst, ◌∙◌}
use Rattle.std.proofs.lemmas.Map.{length-set_value}
use Rattle.std.specs.Map.{lookup, set_value}
use Rattle.mt_names.specs.Same.{same_key}
use Rattle.mt_names.proofs.EntryLemmas.{is_some-set_value}
use Rattle.mt_model.specs.Topology.{rule_at}
use Rattle.mt_rules.specs.Places.{Names, name_of, rules_in, same_name, with_name, with_place_at}
use Rattle.mt_rules.specs.Rules.{has_rule_place, lent_rule, of_type}
use Rattle.mt_rules.proofs.ChangeLemmas.{distinct-with_name, put_there, stood_there}
use Rattle.mt_rules.proofs.PlacesLemmas.{AreDistinct}
use Rattle.mt_rules.proofs.places.Places.exchange_two.Goals as goal

module _ (c : goal.After-exchange_at-2) where
  abbrev old : Names
  old = c.self.inside.names.entries

  abbrev mid : Names
  mid = c.exchange_at.new.names.entries

  has : has_rule_place (rules_in old) (of_type c.args.key.now c.args.types.0) ≡ true
  has = subst (λ rules. has_rule_place rules (of_type c.args.key.now c.args.types.0) ≡ true) (sym c.self.view_is) c.requires.first

  made : mid ≡ with_name old (name_of c.args.key.now) (λ four. with_place_at four c.args.types.0 (Some (lent_rule c.args.rules.0)))
  made = c.exchange_at.ensures.after ∙ ap (λ n. with_name old n (λ four. with_place_at four c.args.types.0 (Some (lent_rule c.args.rules.0)))) c.of-name.ensures

  mid_distinct : AreDistinct mid
  mid_distinct = subst AreDistinct (sym made) (distinct-with_name old (name_of c.args.key.now) (λ four. with_place_at four c.args.types.0 (Some (lent_rule c.args.rules.0))) c.len-distinct.ensures.unique)

  once : rules_in mid ≡ set_value (same_key (of_type c.args.key.now c.args.types.0)) (rules_in old) (lent_rule c.args.rules.0)
  once = ap rules_in made ∙ put_there old c.len-distinct.ensures.unique (of_type c.args.key.now c.args.types.0) (lent_rule c.args.rules.0) has

  also : has_rule_place (rules_in mid) (of_type c.args.key.now c.args.types.1) ≡ true
  also =
      ap (λ rules. has_rule_place rules (of_type c.args.key.now c.args.types.1)) once
      ∙ is_some-set_value same_key (rules_in old) (of_type c.args.key.now c.args.types.0) (of_type c.args.key.now c.args.types.1) (lent_rule c.args.rules.0)
      ∙ ap (λ rules. has_rule_place rules (of_type c.args.key.now c.args.types.1)) c.self.view_is ∙ c.requires.second

  twice : rules_in c.exchange_at-2.new.names.entries ≡ set_value (same_key (of_type c.args.key.now c.args.types.1)) (rules_in mid) (lent_rule c.args.rules.1)
  twice =
      ap rules_in (c.exchange_at-2.ensures.after ∙ ap (λ n. with_name mid n (λ four. with_place_at four c.args.types.1 (Some (lent_rule c.args.rules.1)))) c.of-name.ensures)
      ∙ put_there mid mid_distinct (of_type c.args.key.now c.args.types.1) (lent_rule c.args.rules.1) also

pub invariant_of-self : goal.invariant_of-self
invariant_of-self c =
    c.self.invariant
    ∙ sym (ap length (twice c) ∙ length-set_value (same_key (of_type c.args.key.now c.args.types.1)) (rules_in (mid c)) (lent_rule c.args.rules.1)
    ∙ ap length (once c) ∙ length-set_value (same_key (of_type c.args.key.now c.args.types.0)) (rules_in (old c)) (lent_rule c.args.rules.0))

pub returns-clause-first : goal.returns-clause-first
returns-clause-first c =
    stood_there (old c) c.len-distinct.ensures.unique (of_type c.args.key.now c.args.types.0) c.exchange_at.new.before (has c)
    (λ four is. c.exchange_at.ensures.before four (ap (λ n. lookup (same_name n) (old c)) c.of-name.ensures ∙ is))
    ∙ ap (λ rules. rule_at rules (of_type c.args.key.now c.args.types.0)) c.self.view_is

pub returns-clause-second : goal.returns-clause-second
returns-clause-second c =
    stood_there (mid c) (mid_distinct c) (of_type c.args.key.now c.args.types.1) c.exchange_at-2.new.before (also c)
    (λ four is. c.exchange_at-2.ensures.before four (ap (λ n. lookup (same_name n) (mid c)) c.of-name.ensures ∙ is))
    ∙ ap (λ rules. rule_at rules (of_type c.args.key.now c.args.types.1)) (once c)
    ∙ ap (λ rules. rule_at (set_value (same_key (of_type c.args.key.now c.args.types.0)) rules (lent_rule c.args.rules.0)) (of_type c.args.key.now c.args.types.1)) c.self.view_is

pub returns-clause-after : goal.returns-clause-after
returns-clause-after c =
    twice c ∙ ap (λ rules. set_value (same_key (of_type c.args.key.now c.args.types.1)) rules (lent_rule c.args.rules.1)) (once c)
    ∙ ap (λ rules. set_value (same_key (of_type c.args.key.now c.args.types.1)) (set_value (same_key (of_type c.args.key.now c.args.types.0)) rules (lent_rule c.args.rules.0)) (lent_rule c.args.rules.1)) c.self.view_is
