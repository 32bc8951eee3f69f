-- The texts of the rules in their order, and that the rules stand well.
use Rattle.std.proofs.Common.{◌≡◌, ◌++◌, [], ap, fold, map, rules, string_bytes, subst, sym, ◌∙◌}
use Rattle.std.proofs.lemmas.Result.{on_ok_weaker}
use Rattle.std.specs.List.{IsDistinct}
use Rattle.mt_names.specs.Names.{same_text}
use Rattle.mt_model.specs.Documents.{array, put_by_text}
use Rattle.mt_rules.specs.Written.{texts_of, written_text}
use Rattle.mt_rules.proofs.WrittenLemmas.{distinct_texts, texts_sorted, well_sorted}
use Rattle.mt_rules.proofs.text.push_rules.Goals as goal

pub push_sorted-requires : goal.push_sorted-requires
push_sorted-requires c =
    let is : c.deref.result.now ≡ c.in_ok-rules.rules.items = search rules in
    let given : map written_text c.deref.result.now ≡ texts_of c.args.places.now = ap (map written_text) is ∙ c.in_ok-rules.ensures.texts in
    subst (λ texts. IsDistinct same_text (map (λ x. x.0) texts)) (sym given) (distinct_texts c.args.places.now c.in_ok-rules.ensures.distinct c.in_ok-rules.ensures.named)

pub returns-clause-text : goal.returns-clause-text
returns-clause-text c =
    let is : c.deref.result.now ≡ c.in_ok-rules.rules.items = search rules in
    let given : map written_text c.deref.result.now ≡ texts_of c.args.places.now = ap (map written_text) is ∙ c.in_ok-rules.ensures.texts in
    on_ok_weaker c.push_sorted.result
    (λ ok. ok ∙ ap (λ l. string_bytes c.args.text.now ++ array (map (λ x. x.1) (fold put_by_text [] l))) given ∙ ap (λ l. string_bytes c.args.text.now ++ array l) (texts_sorted c.args.places.now)) c.push_sorted.ensures

pub returns-clause-sorted : goal.returns-clause-sorted
returns-clause-sorted c =
    on_ok_weaker c.push_sorted.result (λ ok. well_sorted c.args.places.now c.in_ok-rules.ensures.distinct c.in_ok-rules.ensures.named) c.push_sorted.ensures
