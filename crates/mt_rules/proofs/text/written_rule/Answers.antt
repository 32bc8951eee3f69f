-- The text of the key, and where it leads, whose text is read back.
use Rattle.std.proofs.Common.{ap₂}
use Rattle.mt_names.specs.Keys.{IsRuleTarget, target_text}
use Rattle.mt_names.proofs.KeyLemmas.{read_target-target_text}
use Rattle.mt_rules.specs.Written.{text_of_texts}
use Rattle.mt_rules.proofs.text.written_rule.Goals as goal

pub returns-clause-text : goal.returns-clause-text
returns-clause-text c = ap₂ (λ key target. (key, text_of_texts key (target_text target))) c.text.ensures.bytes c.copied.ensures

pub returns-clause-named : goal.returns-clause-named
returns-clause-named c =
    let target : IsRuleTarget c.args.target.now = record { keyspace = c.as_str.ensures.name; table = c.as_str-2.ensures.name } in
    record { key = c.text.ensures.key; target = target; key_back = c.text.ensures.read_back; target_back = read_target-target_text c.args.target.now target }
