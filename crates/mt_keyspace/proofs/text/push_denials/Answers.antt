-- The texts differ, and in their order they are the list.
use Rattle.std.proofs.Common.{◌≡◌, ◌++◌, [], ap, flat_map, fold, map, rules, string_bytes, subst, sym, ◌∙◌}
use Rattle.std.proofs.lemmas.List.{map-id}
use Rattle.std.proofs.lemmas.List.Elements.{recursion_from_All}
use Rattle.std.proofs.lemmas.Result.{on_ok_weaker}
use Rattle.std.specs.List.{IsDistinct}
use Rattle.std.specs.Map.{keys_of}
use Rattle.mt_names.specs.Names.{same_text}
use Rattle.mt_model.specs.Documents.{array, denied_texts, put_by_text, quoted}
use Rattle.mt_rules.specs.Written.{written_text}
use Rattle.mt_keyspace.proofs.DifferLemmas.{texts_differ}
use Rattle.mt_keyspace.proofs.TextLemmas.{firsts, items_sorted}
use Rattle.mt_keyspace.proofs.text.push_denials.Goals as goal

pub push_sorted-requires : goal.push_sorted-requires
push_sorted-requires c =
    let given : c.deref.result.now ≡ c.in_ok-items.items.items = search rules in
    let keyspaces = c.args.keyspaces.now.entries in
    let texts = flat_map denied_texts keyspaces in
    let differ : IsDistinct same_text texts =
    texts_differ keyspaces c.requires.distinct.keyspaces (recursion_from_All (λ k. IsDistinct same_text (keys_of k.1.denied)) keyspaces c.requires.distinct.denied) c.in_ok-items.ensures.keyspaces in
    subst (λ l. IsDistinct same_text (map (λ x. x.0) l)) (sym (ap (map written_text) given ∙ c.in_ok-items.ensures.texts)) (subst (IsDistinct same_text) (sym (firsts (λ t. t) quoted texts ∙ map-id texts)) differ)

pub returns-clause-text : goal.returns-clause-text
returns-clause-text c =
    let texts = flat_map denied_texts c.args.keyspaces.now.entries in
    let given : c.deref.result.now ≡ c.in_ok-items.items.items = search rules in
    on_ok_weaker c.push_sorted.result
    (λ e. e ∙ ap (λ l. string_bytes c.args.text.now ++ array l)
    (ap (λ l. map (λ x. x.1) (fold put_by_text [] l)) (ap (map written_text) given ∙ c.in_ok-items.ensures.texts) ∙ items_sorted (λ t. t) quoted texts)) c.push_sorted.ensures
