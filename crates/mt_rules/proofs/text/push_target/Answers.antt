-- Three texts, one behind the other.
use Rattle.std.proofs.Common.{◌++◌, ap, codes, string_bytes, ◌∙◌}
use Rattle.mt_rules.proofs.WrittenLemmas.{three_parts}
use Rattle.mt_rules.proofs.text.push_target.Goals as goal

pub returns : goal.returns
returns c =
    three_parts (string_bytes c.args.text.now) _ _ _ c.args.target.now.keyspace (codes ".") c.args.target.now.table (c.in_ok-push_str.ensures.bytes ∙ ap (λ t. string_bytes c.args.text.now ++ t) c.as_str.ensures.value)
    c.in_ok-push_str-2.ensures.bytes (c.in_ok-push_str-3.ensures.bytes ∙ ap (λ t. string_bytes c.push_str-2.new.self ++ t) c.as_str-2.ensures.value)
