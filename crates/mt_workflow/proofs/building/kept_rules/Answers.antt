-- One table more, and all of them.
use Rattle.std.proofs.Common.{[], ap, arith, refl, subst, take, ◌∙◌}
use Rattle.std.proofs.lemmas.List.{take_all}
use Rattle.mt_model.specs.Part.{table_rule_keys}
use Rattle.mt_workflow.specs.Builds.{Agrees, with_kept}
use Rattle.mt_workflow.specs.Workflows.{keys_of_rules}
use Rattle.mt_workflow.proofs.KeptLemmas.{kept-all, kept-more}
use Rattle.mt_workflow.proofs.building.kept_rules.Goals as goal

pub loop-table-preserved : goal.loop-table-preserved
loop-table-preserved c =
    let rules = c.args.rules.now in
    let now = with_kept rules [] (keys_of_rules c.args.source.now c.args.target.now (take c.loop-table.table-index c.args.tables.now)) in
    let keys = table_rule_keys c.args.source.now c.args.target.now c.table-item.result in
    subst (Agrees c.keep_table.new.kept.entries)
    (kept-more rules now (with_kept rules now keys) c.args.source.now c.args.target.now c.args.tables.now c.loop-table.table-index c.table-item.result keys
    c.loop-table-test.true c.table-item.is refl refl refl)
    (c.in_ok-keep_table.ensures.value now c.loop-table.invariant)

pub returns-clause-value : goal.returns-clause-value
returns-clause-value c =
    subst (Agrees c.loop-table.kept.entries)
    (ap (λ tables. with_kept c.args.rules.now [] (keys_of_rules c.args.source.now c.args.target.now tables)) (take_all c.loop-table.table-index c.args.tables.now (omega (arith, c.loop-table-test.false)))
    ∙ kept-all c.args.rules.now c.args.source.now c.args.target.now c.args.tables.now (c.part_keys_are_distinct.ensures c.args.source.now c.args.target.now c.args.tables.now c.requires.apart c.requires.distinct))
    c.loop-table.invariant
