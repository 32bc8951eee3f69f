-- The places sorted by the codes of their keys are all places in order.
use Rattle.std.proofs.Common.{map, rules, subst, ◌∙◌}
use Rattle.std.proofs.lemmas.List.Sorted.{IsPermutation-map, answers_always}
use Rattle.std.specs.List.Sorted.{IsPermutation}
use Rattle.mt_model.specs.Order.{key_code}
use Rattle.mt_rules.specs.Places.{listed}
use Rattle.mt_rules.specs.Walk.{listed_entry}
use Rattle.mt_rules.proofs.AscendLemmas.{Rises, ranks, rises_from_sorted}
use Rattle.mt_rules.proofs.ListLemmas.{map_twice}
use Rattle.mt_rules.proofs.WalkLemmas.{coded, sorted_names}
use Rattle.mt_rules.proofs.walk.in_order.Goals as goal

pub returns-clause-entries : goal.returns-clause-entries
returns-clause-entries c =
    let before = c.in_ok-list.list.items in
    let after = c.sort_unstable_by.new.self.items in
    let names = c.names.result.now.entries in
    let rises = rises_from_sorted (λ place. coded (listed_entry place)) after
    (c.sort_unstable_by.ensures.sorted _ (ranks (λ place. key_code (listed_entry place).0)) (answers_always _ _ _ (λ f a r g k. search rules))) in
    let same : IsPermutation (listed names) (map listed_entry after) =
    subst (λ l. IsPermutation l (map listed_entry after)) c.in_ok-list.ensures (IsPermutation-map listed_entry before after c.sort_unstable_by.ensures.permutation) in
    sorted_names names (map listed_entry after) c.names.ensures.distinct same (subst Rises (map_twice coded listed_entry after) rises) ∙ c.names.ensures.rules
