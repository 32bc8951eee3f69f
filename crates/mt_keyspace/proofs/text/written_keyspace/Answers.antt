-- The texts one behind the other, under the name.
use Rattle.std.proofs.Common.{◌≡◌, [], ap, ap₂, map, rules, string_bytes, ◌++◌, ◌∙◌}
use Rattle.mt_model.specs.Documents.{array, quoted, shard_texts, tables_in_order}
use Rattle.mt_keyspace.proofs.TextLemmas.{keyspace_parts}
use Rattle.mt_keyspace.proofs.text.written_keyspace.Goals as goal

pub returns-clause-text : goal.returns-clause-text
returns-clause-text c =
    let empty : c.new-key.result.bytes ≡ [] = search rules in
    c.of_text.ensures
    ∙ ap₂ (λ key text. (key, text)) (c.push_str-6.ensures.bytes ∙ ap₂ (λ a b. a ++ b) empty c.as_str-2.ensures.value)
    (keyspace_parts (string_bytes c.in_ok-text.text) (string_bytes c.push_str.new.self) (string_bytes c.push_str-2.new.self) (string_bytes c.push_str-3.new.self) (string_bytes c.push_shards.new.text)
    (string_bytes c.push_str-4.new.self) (string_bytes c.push_tables.new.text) (string_bytes c.push_str-5.new.self) c.args.name.now (array (map quoted (shard_texts c.args.keyspace.now)))
    (array (map quoted (tables_in_order c.args.keyspace.now))) c.in_ok-text.ensures.bytes c.in_ok-push_str.ensures.bytes
    (c.in_ok-push_str-2.ensures.bytes ∙ ap (λ t. string_bytes c.push_str.new.self ++ t) c.as_str.ensures.value) c.in_ok-push_str-3.ensures.bytes c.in_ok-push_shards.ensures.text c.in_ok-push_str-4.ensures.bytes
    c.in_ok-push_tables.ensures.text c.in_ok-push_str-5.ensures.bytes)
