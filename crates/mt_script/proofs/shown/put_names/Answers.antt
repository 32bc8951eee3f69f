-- One table more.
use Rattle.std.proofs.Common.{arith, ◌∙◌}
use Rattle.mt_script.proofs.TextLemmas.{comma-behind}
use Rattle.mt_script.proofs.shown.put_names.Goals as goal

pub loop-table-preserved : goal.loop-table-preserved
loop-table-preserved c = (
  c.put_table.ensures.text ∙ comma-behind c.args.text.now.items c.args.first.now c.args.others.now c.loop-table.table-index c.table-item.result c.loop-table.text.items c.loop-table-test.true c.table-item.is c.loop-table.invariant.0,
  omega (arith, c.put_table.ensures.short, c.loop-table.invariant.1),
)
