-- One range more is written, or all are, and the end is.
use Rattle.std.proofs.Common.{◌≡◌, ◌+◌, [], ◌∷◌, ◌++◌, ap, drop, map, refl, string_bytes, subst, sym, ◌∙◌}
use Rattle.std.proofs.lemmas.List.{drop_all, drop_more}
use Rattle.std.specs.List.{AllByRecursion}
use Rattle.mt_names.specs.Shards.{range_text}
use Rattle.mt_names.specs.Types.{comma}
use Rattle.mt_model.specs.Documents.{quoted}
use Rattle.mt_rules.specs.Written.{rest_text}
use Rattle.mt_rules.proofs.ListLemmas.{closed}
use Rattle.mt_rules.proofs.WrittenLemmas.{one_more}
use Rattle.mt_keyspace.specs.Values.{IsReadRange}
use Rattle.mt_keyspace.proofs.text.push_ranges.Goals as goal

pub shards-preserved : goal.shards-preserved
unfolding lib.Utf8.encode
shards-preserved c =
    let ranges = c.args.ranges.now in
    let range = c.range-item.result in
    let left = drop (c.shards.range-index + 1) ranges in
    let step : drop c.shards.range-index ranges ≡ range ∷ left = drop_more ranges c.shards.range-index range c.shards-test.true ∙ ap (λ x. x ∷ left) (sym c.range-item.is) in
    let whole = string_bytes c.push_str.new.self ++ rest_text [] (map quoted (map range_text ranges)) in
    let before = subst (λ l. string_bytes c.shards.text ++ rest_text c.shards.before.now (map quoted (map range_text l)) ≡ whole) step c.shards.invariant.0 in (
      one_more (string_bytes c.shards.text) (string_bytes c.push_str-in-shards.new.self) (string_bytes c.push_range.new.text) c.shards.before.now (quoted (range_text range))
          (rest_text (comma ∷ []) (map quoted (map range_text left))) whole c.in_ok-push_str-2.ensures.bytes
          c.in_ok-push_range.ensures.text before,
      (44 ∷ [], (refl, refl)),
      λ later. c.shards.invariant.2 (subst (AllByRecursion IsReadRange) (sym step) (c.push_range.ensures.read, later)),
    )

pub returns-clause-text : goal.returns-clause-text
returns-clause-text c =
    let ranges = c.args.ranges.now in
    let texts = map quoted (map range_text ranges) in
    let all = subst (λ l. string_bytes c.shards.text ++ rest_text c.shards.before.now (map quoted (map range_text l)) ≡ string_bytes c.push_str.new.self ++ rest_text [] texts)
    (drop_all c.shards.range-index ranges c.shards-test.false) c.shards.invariant.0 in
    closed (string_bytes c.args.text.now) (string_bytes c.push_str.new.self) (string_bytes c.shards.text) (string_bytes c.push_str-2.new.self) texts c.in_ok-push_str.ensures.bytes all c.in_ok-push_str-3.ensures.bytes

pub returns-clause-read : goal.returns-clause-read
returns-clause-read c =
    c.shards.invariant.2 (subst (AllByRecursion IsReadRange) (sym (drop_all c.shards.range-index c.args.ranges.now c.shards-test.false)) tt)
