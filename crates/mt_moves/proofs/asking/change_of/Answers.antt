-- One table more.
use Rattle.std.proofs.Common.{◌≡◌, add-one, get_or, length, subst, sym, take, ◌<◌, ◌∙◌}
use Rattle.mt_plain.specs.Asks.{create_change}
use Rattle.mt_workflow.specs.Workflows.{live_of}
use Rattle.mt_stands.specs.Keys.{rules_only}
use Rattle.mt_moves.proofs.WriteLemmas.{change_more, where_ok}
use Rattle.mt_moves.proofs.asking.change_of.Goals as goal

pub loop-table-preserved : goal.loop-table-preserved
loop-table-preserved c =
    let w = c.args.workflow.now in
    let i = c.loop-table.table-index in
    let all : c.tables-table-items.result.now ≡ w.tables = c.tables-table-items.ensures in
    subst (λ n. c.push_table.new.change ≡ create_change (rules_only w.kept) (record (live_of w) { tables = take n w.tables })) (sym (add-one i))
    (change_more w i c.loop-table.change c.push_table.new.change c.table-item.result (subst (λ l. i < length l) all c.loop-table-test.true)
    (subst (λ l. c.table-item.result ≡ get_or l i c.table-item.result) all c.table-item.is) c.loop-table.invariant
    (where_ok c.push_table.result (sym c.is_err.ensures.value ∙ c.if-is_err.false) c.push_table.ensures))
