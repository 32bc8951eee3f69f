-- What was sorted by texts that differ.
use Rattle.std.proofs.Common.{ap, fold, [], map, rules, subst, sym, ◌∙◌}
use Rattle.std.proofs.lemmas.List.Sorted.{IsPermutation-map, answers_always}
use Rattle.std.specs.List.{IsDistinct}
use Rattle.mt_names.specs.Names.{same_text}
use Rattle.mt_model.specs.Documents.{put_by_text}
use Rattle.mt_rules.specs.Written.{written_text}
use Rattle.mt_rules.proofs.AscendLemmas.{ranks, rises_from_sorted, sorted_is_put}
use Rattle.mt_rules.proofs.ListLemmas.{map_twice}
use Rattle.mt_rules.proofs.text.items_in_order.Goals as goal

pub returns : goal.returns
returns c =
    let before = c.in_ok-lent.lent.items in
    let after = c.sort_unstable_by.new.self.items in
    let given = map_twice written_text (λ item. item.now) before ∙ ap (map written_text) c.in_ok-lent.ensures in
    let rises = rises_from_sorted (λ item. written_text item.now) after (c.sort_unstable_by.ensures.sorted _ (ranks (λ item. item.now.key.bytes)) (answers_always _ _ _ (λ f a r g k. search rules))) in
    sorted_is_put (map (λ item. written_text item.now) before) (map (λ item. written_text item.now) after) (IsPermutation-map (λ item. written_text item.now) before after c.sort_unstable_by.ensures.permutation) rises
    (subst (λ texts. IsDistinct same_text (map (λ x. x.0) texts)) (sym given) c.requires) ∙ ap (fold put_by_text []) given
