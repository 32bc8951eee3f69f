-- The fault of a keyspace is that of the list.
use Rattle.std.proofs.Common.{◌≡◌, ◌+◌, [], Err, ap, subst, sym, drop, ◌∙◌}
use Rattle.std.proofs.lemmas.List.{at_drop_more}
use Rattle.std.proofs.lemmas.Result.{err_from_is_err_and}
use Rattle.serde_json.specs.Data.{item}
use Rattle.serde_json.specs.View.{view, items_view}
use Rattle.mt_keyspace.specs.Load.{IsUnlessMemory, answer_with, keyspaces_of, listed, or_bad_dump, with_keyspace_of}
use Rattle.mt_keyspace.proofs.LoadLemmas.{keyspaces_of-refused}
use Rattle.mt_keyspace.proofs.load.drafts_of.Goals as goal

pub returns-in_err-add_draft_of-clause-answer : goal.returns-in_err-add_draft_of-clause-answer
returns-in_err-add_draft_of-clause-answer c =
    let version = c.args.version in
    let all = items_view c.args.list.now in
    let now = c.values.drafts.entries in
    let new = c.add_draft_of.new.drafts.entries in
    let value = view c.value-item.result in
    let rest = items_view (drop (c.values.value-index + 1) c.args.list.now) in
    let left : items_view (drop c.values.value-index c.args.list.now) ≡ item value rest = at_drop_more items_view c.args.list.now c.values.value-index c.value-item.result c.values-test.true ∙ ap (λ v. item (view v) rest) (sym c.value-item.is) in
    let p = err_from_is_err_and c.from_residual.result c.from_residual.ensures.1 in
    let same : p.0 ≡ c.in_err-add_draft_of.field-0.0 = search (p.2) in
    let refused : IsUnlessMemory (answer_with new (Err c.in_err-add_draft_of.field-0.0)) (or_bad_dump (with_keyspace_of version now value)) =
    subst (λ r. IsUnlessMemory (answer_with new r) (or_bad_dump (with_keyspace_of version now value))) c.in_err-add_draft_of.was c.add_draft_of.ensures.answer in
    let whole : keyspaces_of version now (item value rest) ≡ keyspaces_of version [] all = sym (c.values.invariant.0 ∙ ap (keyspaces_of version now) left) in
    subst (λ r. IsUnlessMemory (listed r) (or_bad_dump (keyspaces_of version [] all))) (sym (p.1 ∙ ap Err same))
    (subst (λ due. IsUnlessMemory (Err c.in_err-add_draft_of.field-0.0) (or_bad_dump due)) whole (keyspaces_of-refused version now new value rest c.in_err-add_draft_of.field-0.0 refused))
