-- Three texts, one behind the other.
use Rattle.std.proofs.Common.{codes, string_bytes}
use Rattle.mt_rules.proofs.WrittenLemmas.{three_parts}
use Rattle.mt_rules.proofs.text.push_quoted.Goals as goal

pub returns : goal.returns
returns c = three_parts (string_bytes c.args.text.now) _ _ _ (codes "\"") c.args.own.now (codes "\"") c.in_ok-push_str.ensures.bytes c.in_ok-push_str-2.ensures.bytes c.in_ok-push_str-3.ensures.bytes
