-- A place less.
use Rattle.std.proofs.Common.{◌≡◌, true, None, suc, length, arith, sym, ap, subst, ◌∙◌}
use Rattle.std.specs.Map.{remove_entry}
use Rattle.mt_names.specs.Same.{same_key}
use Rattle.mt_rules.specs.declared.four.FourPlaces.{FourPlaces}
use Rattle.mt_rules.specs.Places.{name_of, rules_in, with_name, with_place_at}
use Rattle.mt_rules.specs.Rules.{has_rule_place}
use Rattle.mt_rules.proofs.ChangeLemmas.{distinct-with_name, remove_there, removed_length}
use Rattle.mt_rules.proofs.PlacesLemmas.{AreDistinct, same_rules}
use Rattle.mt_rules.proofs.places.Places.remove.Goals as goal

has : (c : goal.After-self-1) → has_rule_place (rules_in c.self.inside.names.entries) c.args.key.now ≡ true
has c = subst (λ rules. has_rule_place rules c.args.key.now ≡ true) (sym c.self.view_is) c.requires

-- the rules then
then : (c : goal.After-self-1) → rules_in c.drop_if_empty.new.names.entries ≡ remove_entry (same_key c.args.key.now) (rules_in c.self.inside.names.entries)
then c =
    let old = c.self.inside.names.entries in
    let mid = c.remove_at.new.names.entries in
    let key = c.args.key.now in
    let change : FourPlaces → FourPlaces = λ four. with_place_at four key.tablet_type None in
    let made : mid ≡ with_name old (name_of key) change = c.remove_at.ensures ∙ ap (λ n. with_name old n change) c.of-name.ensures in
    let distinct : AreDistinct mid = subst AreDistinct (sym made) (distinct-with_name old (name_of key) change c.len-distinct.ensures.unique) in
    same_rules c.drop_if_empty.new.names.entries mid (c.drop_if_empty.ensures.distinct distinct) distinct c.drop_if_empty.ensures.places
    ∙ ap rules_in made ∙ remove_there old c.len-distinct.ensures.unique key (has c)

pub invariant_of-self : goal.invariant_of-self
invariant_of-self c =
    let is : suc (length (rules_in c.drop_if_empty.new.names.entries)) ≡ length (rules_in c.self.inside.names.entries) =
    ap (λ l. suc (length l)) (then c) ∙ removed_length (rules_in c.self.inside.names.entries) c.args.key.now (has c) in
    omega (arith, is, c.self.invariant)

pub returns : goal.returns
returns c = then c ∙ ap (λ rules. remove_entry (same_key c.args.key.now) rules) c.self.view_is
