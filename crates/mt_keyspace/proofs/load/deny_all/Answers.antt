-- A denial more, or a fault.
use Rattle.std.proofs.Common.{◌≡◌, ◌+◌, Ok, Err, ap, subst, sym, drop, ◌∙◌}
use Rattle.std.proofs.lemmas.List.{at_drop_more}
use Rattle.std.proofs.lemmas.Result.{err_from_is_err_and}
use Rattle.serde_json.specs.Data.{item}
use Rattle.serde_json.specs.View.{view, items_view}
use Rattle.mt_keyspace.specs.Load.{IsUnlessMemory, answer_with, denials_of, or_bad_dump, with_denial_of}
use Rattle.mt_keyspace.proofs.LoadLemmas.{denials_of-refused, denials_of-taken}
use Rattle.mt_keyspace.proofs.load.deny_all.Goals as goal

pub returns-in_err-deny_value-clause-answer : goal.returns-in_err-deny_value-clause-answer
returns-in_err-deny_value-clause-answer c =
    let all = c.args.drafts.now.entries in
    let now = c.values.drafts.entries in
    let new = c.deny_value.new.drafts.entries in
    let value = view c.value-item.result in
    let rest = items_view (drop (c.values.value-index + 1) c.args.list.now) in
    let left : items_view (drop c.values.value-index c.args.list.now) ≡ item value rest = at_drop_more items_view c.args.list.now c.values.value-index c.value-item.result c.values-test.true ∙ ap (λ v. item (view v) rest) (sym c.value-item.is) in
    let p = err_from_is_err_and c.from_residual.result c.from_residual.ensures.1 in
    let same : p.0 ≡ c.in_err-deny_value.field-0.0 = search (p.2) in
    let refused : IsUnlessMemory (answer_with new (Err c.in_err-deny_value.field-0.0)) (or_bad_dump (with_denial_of now value)) =
    subst (λ r. IsUnlessMemory (answer_with new r) (or_bad_dump (with_denial_of now value))) c.in_err-deny_value.was c.deny_value.ensures.answer in
    let whole : denials_of now (item value rest) ≡ denials_of all (items_view c.args.list.now) = sym (c.values.invariant.0 ∙ ap (denials_of now) left) in
    subst (λ r. IsUnlessMemory (answer_with new r) (or_bad_dump (denials_of all (items_view c.args.list.now)))) (sym (p.1 ∙ ap Err same))
    (subst (λ due. IsUnlessMemory (Err c.in_err-deny_value.field-0.0) (or_bad_dump due)) whole (denials_of-refused now new value rest c.in_err-deny_value.field-0.0 refused))

pub values-preserved : goal.values-preserved
values-preserved c =
    let now = c.values.drafts.entries in
    let new = c.deny_value.new.drafts.entries in
    let value = view c.value-item.result in
    let rest = items_view (drop (c.values.value-index + 1) c.args.list.now) in
    let left : items_view (drop c.values.value-index c.args.list.now) ≡ item value rest = at_drop_more items_view c.args.list.now c.values.value-index c.value-item.result c.values-test.true ∙ ap (λ v. item (view v) rest) (sym c.value-item.is) in
    let taken : IsUnlessMemory (answer_with new (Ok tt)) (or_bad_dump (with_denial_of now value)) =
    subst (λ r. IsUnlessMemory (answer_with new r) (or_bad_dump (with_denial_of now value))) c.in_ok-deny_value.was c.deny_value.ensures.answer in
    (c.values.invariant.0 ∙ ap (denials_of now) left ∙ denials_of-taken now new value rest taken, c.deny_value.ensures.distinct)
