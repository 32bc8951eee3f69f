-- Five texts, one behind the other.
use Rattle.std.proofs.Common.{string_bytes}
use Rattle.mt_rules.proofs.WrittenLemmas.{five_parts}
use Rattle.mt_rules.proofs.text.push_rule.Goals as goal

pub returns : goal.returns
returns c =
    five_parts (string_bytes c.args.text.now) _ _ _ _ _ c.args.key.now _ c.in_ok-push_str.ensures.bytes c.in_ok-push_str-2.ensures.bytes c.in_ok-push_str-3.ensures.bytes c.in_ok-push_target.ensures
    c.in_ok-push_str-4.ensures.bytes
