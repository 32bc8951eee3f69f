-- Where nothing is kept, nothing has to be of a table that has no rule.
use Rattle.std.proofs.Common.{rules, ◌≡◌, false, length}
use Rattle.mt_model.specs.Part.{table_rule_keys}
use Rattle.mt_workflow.proofs.AgreeLemmas.{none_of}
use Rattle.mt_workflow.proofs.NoRuleLemmas.{nothing_kept}
use Rattle.mt_workflow.proofs.building.keep_table.Goals as goal

pub returns-then-not-has_rule-clause-value : goal.returns-then-not-has_rule-clause-value
returns-then-not-has_rule-clause-value c stood agree =
    let kept = c.args.kept.now.entries in
    let empty : length kept ≡ 0 = search rules in
    let absent : c.has_rule.result ≡ false = search rules in
    nothing_kept c.args.rules.now kept stood (table_rule_keys c.args.source.now c.args.target.now c.args.table.now) (none_of kept empty) agree (c.has_rule.ensures.0 absent)
