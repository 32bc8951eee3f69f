-- None of its keys leads elsewhere where none has a rule.
use Rattle.std.proofs.Common.{◌≡◌, false, rules, sym}
use Rattle.mt_model.specs.Part.{table_rule_keys}
use Rattle.mt_workflow.proofs.NoRuleLemmas.{no_conflict}
use Rattle.mt_workflow.proofs.creating.table_conflict.Goals as goal

pub returns-then-not-has_rule : goal.returns-then-not-has_rule
returns-then-not-has_rule c =
    let absent : c.has_rule.result ≡ false = search rules in
    sym (no_conflict c.args.rules.now c.args.source.now c.args.table.now (table_rule_keys c.args.source.now c.args.target.now c.args.table.now) (c.has_rule.ensures.0 absent))
