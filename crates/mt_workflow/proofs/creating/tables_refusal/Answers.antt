-- One table more.
use Rattle.std.proofs.Common.{◌≡◌, ◌∷◌, ◌+◌, drop, ap, sym, None, ◌∙◌}
use Rattle.std.specs.Option.{option_or}
use Rattle.std.proofs.lemmas.List.{at_drop_more}
use Rattle.mt_workflow.specs.Creates.{table_refusal, tables_refusal}
use Rattle.mt_workflow.proofs.creating.tables_refusal.Goals as goal

pub returns-in-Some : goal.returns-in-Some
returns-in-Some c =
    let all = tables_refusal c.args.topology.now c.args.source.now c.args.target.now in
    let rest = drop (c.loop-table.table-index + 1) c.args.tables.now in
    sym (c.loop-table.invariant ∙ at_drop_more all c.args.tables.now c.loop-table.table-index c.table-item.result c.loop-table-test.true
    ∙ ap (λ t. all (t ∷ rest)) (sym c.table-item.is)
    ∙ ap (λ r. option_or r (all rest)) (sym c.in-Some.ensures))

pub loop-table-preserved : goal.loop-table-preserved
loop-table-preserved c =
    let all = tables_refusal c.args.topology.now c.args.source.now c.args.target.now in
    let rest = drop (c.loop-table.table-index + 1) c.args.tables.now in
    let none : table_refusal c.args.topology.now c.args.source.now c.args.target.now c.table-item.result ≡ None = sym c.table_refusal.ensures ∙ c.in_default.is in
    c.loop-table.invariant ∙ at_drop_more all c.args.tables.now c.loop-table.table-index c.table-item.result c.loop-table-test.true
    ∙ ap (λ t. all (t ∷ rest)) (sym c.table-item.is)
    ∙ ap (λ r. option_or r (all rest)) none
