-- The names differ, and in their order the keyspaces are the list.
use Rattle.std.proofs.Common.{◌≡◌, ◌++◌, [], ap, fold, map, rules, string_bytes, subst, sym, ◌∙◌}
use Rattle.std.proofs.lemmas.Result.{on_ok_weaker}
use Rattle.std.specs.List.{IsDistinct}
use Rattle.mt_names.specs.Names.{same_text}
use Rattle.mt_model.specs.Documents.{array, keyspace_text, put_by_text}
use Rattle.mt_rules.specs.Written.{written_text}
use Rattle.mt_keyspace.proofs.TextLemmas.{firsts, items_sorted}
use Rattle.mt_keyspace.proofs.text.push_keyspaces.Goals as goal

pub push_sorted-requires : goal.push_sorted-requires
push_sorted-requires c =
    let given : c.deref.result.now ≡ c.in_ok-items.items.items = search rules in
    subst (λ l. IsDistinct same_text (map (λ x. x.0) l)) (sym (ap (map written_text) given ∙ c.in_ok-items.ensures.texts)) (subst (IsDistinct same_text) (sym (firsts (λ k. k.0) keyspace_text c.args.keyspaces.now.entries)) c.requires)

pub returns-clause-text : goal.returns-clause-text
returns-clause-text c =
    let given : c.deref.result.now ≡ c.in_ok-items.items.items = search rules in
    on_ok_weaker c.push_sorted.result
    (λ e. e ∙ ap (λ l. string_bytes c.args.text.now ++ array l)
    (ap (λ l. map (λ x. x.1) (fold put_by_text [] l)) (ap (map written_text) given ∙ c.in_ok-items.ensures.texts) ∙ items_sorted (λ k. k.0) keyspace_text c.args.keyspaces.now.entries))
    c.push_sorted.ensures
