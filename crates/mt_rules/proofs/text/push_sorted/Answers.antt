-- The items in their order, written.
use Rattle.std.proofs.Common.{◌++◌, ap, map, rules, string_bytes, ◌≡◌, ◌∙◌}
use Rattle.std.proofs.lemmas.Result.{on_ok_weaker}
use Rattle.mt_model.specs.Documents.{array}
use Rattle.mt_rules.specs.Written.{written_text}
use Rattle.mt_rules.proofs.text.push_sorted.Goals as goal

pub returns : goal.returns
returns c =
    let given : c.deref.result.now ≡ c.in_ok-lent.lent.items = search rules in
    on_ok_weaker c.push_list.result
    (λ is. is ∙ ap (λ l. string_bytes c.args.text.now ++ array (map (λ x. x.1) l)) (ap (map (λ item. written_text item.now)) given ∙ c.in_ok-lent.ensures)) c.push_list.ensures
