-- The text of the document, and what it says.
use Rattle.std.proofs.Common.{◌≡◌, [], ap, fold, map, rules, string_bytes, subst, sym, ◌∙◌}
use Rattle.std.proofs.lemmas.Result.{IfOk-weaker}
use Rattle.std.proofs.lemmas.Str.{IsUtf8-string_bytes}
use Rattle.std.specs.List.{IsDistinct}
use Rattle.mt_names.specs.Names.{same_text}
use Rattle.mt_model.specs.Documents.{put_by_text}
use Rattle.mt_rules.specs.Written.{texts_of, written_text}
use Rattle.mt_rules.proofs.TextLemmas.{compact_text-document}
use Rattle.mt_rules.proofs.WrittenLemmas.{distinct_texts, text_says, well_sorted, written_is}
use Rattle.mt_rules.proofs.write.text_of_rules.Goals as goal

pub document_of-requires : goal.document_of-requires
document_of-requires c =
    let is : c.deref.result.now ≡ c.in_ok-rules.rules.items = search rules in
    let given : map written_text c.deref.result.now ≡ texts_of c.args.places.now = ap (map written_text) is ∙ c.in_ok-rules.ensures.texts in
    subst (λ texts. IsDistinct same_text (map (λ x. x.0) texts)) (sym given) (distinct_texts c.args.places.now c.in_ok-rules.ensures.distinct c.in_ok-rules.ensures.named)

pub returns-clause-text : goal.returns-clause-text
returns-clause-text c =
    let is : c.deref.result.now ≡ c.in_ok-rules.rules.items = search rules in
    let given : map written_text c.deref.result.now ≡ texts_of c.args.places.now = ap (map written_text) is ∙ c.in_ok-rules.ensures.texts in
    let texts = map written_text c.deref.result.now in
    IfOk-weaker c.document_of.result _ _ (λ text ok. ok ∙ written_is c.args.places.now (fold put_by_text [] texts) (ap (fold put_by_text []) given)) c.document_of.ensures

pub returns-clause-value : goal.returns-clause-value
returns-clause-value c =
    let places = c.args.places.now in
    let sorted = well_sorted places c.in_ok-rules.ensures.distinct c.in_ok-rules.ensures.named in
    IfOk-weaker c.document_of.result _ _ (λ text ok. ok ∙ sym (compact_text-document places sorted.named)) (returns-clause-text c)

pub returns-clause-says : goal.returns-clause-says
returns-clause-says c =
    let is : c.deref.result.now ≡ c.in_ok-rules.rules.items = search rules in
    let given : map written_text c.deref.result.now ≡ texts_of c.args.places.now = ap (map written_text) is ∙ c.in_ok-rules.ensures.texts in
    let places = c.args.places.now in
    let texts = map written_text c.deref.result.now in
    let sorted = well_sorted places c.in_ok-rules.ensures.distinct c.in_ok-rules.ensures.named in
    IfOk-weaker c.document_of.result _ _
    (λ text ok. text_says places (string_bytes text) (ok ∙ written_is places (fold put_by_text [] texts) (ap (fold put_by_text []) given)) sorted c.requires (IsUtf8-string_bytes text)) c.document_of.ensures
