-- A range more, or a fault.
use Rattle.std.proofs.Common.{◌≡◌, ◌+◌, [], Ok, Err, ap, subst, sym, drop, ◌∙◌}
use Rattle.std.proofs.lemmas.List.{at_drop_more}
use Rattle.std.proofs.lemmas.Result.{err_from_is_err_and}
use Rattle.serde_json.specs.Data.{item}
use Rattle.serde_json.specs.View.{view, items_view}
use Rattle.mt_keyspace.specs.Load.{answer_with, or_bad_dump, ranges_read, ranges_read_of, with_range_of}
use Rattle.mt_keyspace.proofs.LoadLemmas.{ranges_read-refused, ranges_read-taken}
use Rattle.mt_keyspace.proofs.load.ranges_of.Goals as goal

pub returns-in_err-add_range_of : goal.returns-in_err-add_range_of
returns-in_err-add_range_of c =
    let all = items_view c.args.list.now in
    let now = c.values.ranges.items in
    let new = c.add_range_of.new.ranges.items in
    let value = view c.value-item.result in
    let rest = items_view (drop (c.values.value-index + 1) c.args.list.now) in
    let left : items_view (drop c.values.value-index c.args.list.now) ≡ item value rest = at_drop_more items_view c.args.list.now c.values.value-index c.value-item.result c.values-test.true ∙ ap (λ v. item (view v) rest) (sym c.value-item.is) in
    let p = err_from_is_err_and c.from_residual.result c.from_residual.ensures.1 in
    let same : p.0 ≡ c.in_err-add_range_of.field-0.0 = search (p.2) in
    let refused : Err c.in_err-add_range_of.field-0.0 ≡ or_bad_dump (with_range_of now value) =
    subst (λ r. answer_with new r ≡ or_bad_dump (with_range_of now value)) c.in_err-add_range_of.was c.add_range_of.ensures in
    let whole : ranges_read now (item value rest) ≡ ranges_read [] all = sym (c.values.invariant ∙ ap (ranges_read now) left) in
    ap ranges_read_of (p.1 ∙ ap Err same) ∙ ranges_read-refused now value rest c.in_err-add_range_of.field-0.0 refused ∙ ap or_bad_dump whole

pub values-preserved : goal.values-preserved
values-preserved c =
    let now = c.values.ranges.items in
    let new = c.add_range_of.new.ranges.items in
    let value = view c.value-item.result in
    let rest = items_view (drop (c.values.value-index + 1) c.args.list.now) in
    let left : items_view (drop c.values.value-index c.args.list.now) ≡ item value rest = at_drop_more items_view c.args.list.now c.values.value-index c.value-item.result c.values-test.true ∙ ap (λ v. item (view v) rest) (sym c.value-item.is) in
    let taken : Ok new ≡ or_bad_dump (with_range_of now value) = subst (λ r. answer_with new r ≡ or_bad_dump (with_range_of now value)) c.in_ok-add_range_of.was c.add_range_of.ensures in
    c.values.invariant ∙ ap (ranges_read now) left ∙ ranges_read-taken now new value rest taken
