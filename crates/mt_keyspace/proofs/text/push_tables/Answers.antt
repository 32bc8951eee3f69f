-- The names differ, and in their order they are the list.
use Rattle.std.proofs.Common.{◌≡◌, ◌++◌, [], ap, fold, map, rules, string_bytes, subst, sym, ◌∙◌}
use Rattle.std.proofs.lemmas.Result.{on_ok_weaker}
use Rattle.std.specs.List.{IsDistinct}
use Rattle.mt_names.specs.Names.{IsTableName, same_text}
use Rattle.mt_model.specs.Documents.{array, marked, put_by_text, quoted}
use Rattle.mt_rules.specs.Written.{written_text}
use Rattle.mt_keyspace.specs.Written.{items_behind}
use Rattle.mt_keyspace.proofs.SortLemmas.{marked_differ}
use Rattle.mt_keyspace.proofs.TextLemmas.{all-sorted, firsts, items_sorted}
use Rattle.mt_keyspace.proofs.text.push_tables.Goals as goal

pub push_sorted-requires : goal.push_sorted-requires
push_sorted-requires c =
    let given : c.deref.result.now ≡ c.add_names.new.items.items = search rules in
    let places = c.args.places.now.entries in
    let names = marked places in
    let is : map written_text c.add_names.new.items.items ≡ items_behind [] places = c.in_ok-add_names.ensures.texts ∙ ap (λ l. map written_text l ++ items_behind [] places) c.in_ok-items.ensures.items in
    subst (λ l. IsDistinct same_text (map (λ x. x.0) l)) (sym (ap (map written_text) given ∙ is)) (subst (IsDistinct same_text) (firsts (λ t. t) (λ t. t) names ∙ sym (firsts (λ t. t) quoted names)) (marked_differ places c.requires))

pub returns-clause-text : goal.returns-clause-text
returns-clause-text c =
    let places = c.args.places.now.entries in
    let is : map written_text c.add_names.new.items.items ≡ items_behind [] places = c.in_ok-add_names.ensures.texts ∙ ap (λ l. map written_text l ++ items_behind [] places) c.in_ok-items.ensures.items in
    let given : c.deref.result.now ≡ c.add_names.new.items.items = search rules in
    on_ok_weaker c.push_sorted.result
    (λ e. e ∙ ap (λ l. string_bytes c.args.text.now ++ array l) (ap (λ l. map (λ x. x.1) (fold put_by_text [] l)) (ap (map written_text) given ∙ is) ∙ items_sorted (λ t. t) quoted (marked places)))
    c.push_sorted.ensures

pub returns-clause-named : goal.returns-clause-named
returns-clause-named c = on_ok_weaker c.push_sorted.result (λ e. all-sorted IsTableName (marked c.args.places.now.entries) c.in_ok-add_names.ensures.named) c.push_sorted.ensures
