-- One item more is written, or all are, and the end is.
use Rattle.std.proofs.Common.{◌≡◌, ◌+◌, [], ◌∷◌, ◌++◌, ap, drop, map, refl, string_bytes, subst, sym, ◌∙◌}
use Rattle.std.proofs.lemmas.List.{drop_all, drop_more}
use Rattle.mt_names.specs.Types.{comma}
use Rattle.mt_rules.specs.Written.{rest_text, written_text}
use Rattle.mt_rules.proofs.ListLemmas.{closed}
use Rattle.mt_rules.proofs.WrittenLemmas.{one_more}
use Rattle.mt_rules.proofs.text.push_list.Goals as goal

pub items-preserved : goal.items-preserved
unfolding lib.Utf8.encode
items-preserved c =
    let items = c.args.items.now in
    let item = c.item-item.result in
    let left = drop (c.items.item-index + 1) items in
    let step : drop c.items.item-index items ≡ item ∷ left = drop_more items c.items.item-index item c.items-test.true ∙ ap (λ x. x ∷ left) (sym c.item-item.is) in
    let whole = string_bytes c.push_str.new.self ++ rest_text [] (map (λ x. x.1) (map (λ item. written_text item.now) items)) in
    let before = subst (λ l. string_bytes c.items.text ++ rest_text c.items.before.now (map (λ x. x.1) (map (λ item. written_text item.now) l)) ≡ whole) step c.items.invariant.0 in (
      one_more (string_bytes c.items.text) (string_bytes c.push_str-in-items.new.self) (string_bytes c.push_to.new.text) c.items.before.now (written_text item.now).1
          (rest_text (comma ∷ []) (map (λ x. x.1) (map (λ item. written_text item.now) left))) whole c.in_ok-push_str-2.ensures.bytes
          c.in_ok-push_to.ensures before,
      (44 ∷ [], (refl, refl)),
    )

pub returns : goal.returns
returns c =
    let items = c.args.items.now in
    let texts = map (λ x. x.1) (map (λ item. written_text item.now) items) in
    let all = subst (λ l. string_bytes c.items.text ++ rest_text c.items.before.now (map (λ x. x.1) (map (λ item. written_text item.now) l)) ≡ string_bytes c.push_str.new.self ++ rest_text [] texts)
    (drop_all c.items.item-index items c.items-test.false) c.items.invariant.0 in
    closed (string_bytes c.args.text.now) (string_bytes c.push_str.new.self) (string_bytes c.items.text) (string_bytes c.push_str-2.new.self) texts c.in_ok-push_str.ensures.bytes all c.in_ok-push_str-3.ensures.bytes
