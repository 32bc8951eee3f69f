-- Places without a rule less.
use Rattle.std.proofs.Common.{◌≡◌, ◌+◌, fold, length, reverse, arith, sym, ap, subst, ◌∙◌}
use Rattle.std.specs.Map.{lookup}
use Rattle.std.specs.Option.{option_map_or}
use Rattle.mt_model.specs.Topology.{without_rule_place}
use Rattle.mt_rules.specs.Places.{blank_count, name_of, released_four, rules_in, same_name, with_name}
use Rattle.mt_rules.specs.Rules.{four_keys}
use Rattle.mt_rules.proofs.ChangeLemmas.{distinct-with_name, release_length, release_there}
use Rattle.mt_rules.proofs.PlacesLemmas.{AreDistinct, same_rules}
use Rattle.mt_rules.proofs.places.Places.release_name.Goals as goal

-- the names then hold the rules that those do
then : (c : goal.After-self-1) → rules_in c.drop_if_empty.new.names.entries ≡ rules_in (with_name c.self.inside.names.entries (name_of c.args.key.now) released_four)
then c =
    let old = c.self.inside.names.entries in
    let mid = c.release_at-dropped.new.names.entries in
    let key = c.args.key.now in
    let made : mid ≡ with_name old (name_of key) released_four = c.release_at-dropped.ensures.after ∙ ap (λ n. with_name old n released_four) c.of-name.ensures in
    let distinct : AreDistinct mid = subst AreDistinct (sym made) (distinct-with_name old (name_of key) released_four c.len-distinct.ensures.unique) in
    same_rules c.drop_if_empty.new.names.entries mid (c.drop_if_empty.ensures.distinct distinct) distinct c.drop_if_empty.ensures.places ∙ ap rules_in made

-- how many there are
number : (c : goal.After-self-1) → length (rules_in c.drop_if_empty.new.names.entries) + c.release_at-dropped.result ≡ length (rules_in c.self.inside.names.entries)
number c =
    let old = c.self.inside.names.entries in
    let all = release_length old c.len-distinct.ensures.unique c.args.key.now in
    let count = c.release_at-dropped.ensures.count ∙ ap (λ n. option_map_or blank_count (lookup (same_name n) old) 0) c.of-name.ensures in
    let same = ap length (then c) in
    omega (arith, all, count, same)

pub overflow_sub-self : goal.overflow_sub-self
overflow_sub-self c =
    let old = c.self.inside.names.entries in
    let all = release_length old c.len-distinct.ensures.unique c.args.key.now in
    let count = c.release_at-dropped.ensures.count ∙ ap (λ n. option_map_or blank_count (lookup (same_name n) old) 0) c.of-name.ensures in
    omega (arith, all, count, c.self.invariant)

pub invariant_of-self : goal.invariant_of-self
invariant_of-self c = let all = number c in omega (arith, all, c.self.invariant)

pub returns : goal.returns
returns c = then c ∙ release_there c.self.inside.names.entries c.len-distinct.ensures.unique c.args.key.now ∙ ap (λ rules. fold without_rule_place rules (reverse (four_keys c.args.key.now))) c.self.view_is
