-- One table more.
use Rattle.std.proofs.Common.{length, take, ap, arith, ◌∙◌}
use Rattle.std.proofs.lemmas.List.{length-take}
use Rattle.indexmap.specs.IndexSet.{insert_key}
use Rattle.mt_names.specs.Names.{same_text}
use Rattle.mt_workflow.proofs.OnceLemmas.{length-once, once-more}
use Rattle.mt_moves.proofs.creating.each_once.Goals as goal

pub push_new-requires : goal.push_new-requires
push_new-requires c =
    let is = ap length c.loop-table.invariant in
    omega (arith, is, length-once (take c.loop-table.table-index c.args.tables.now), length-take c.loop-table.table-index c.args.tables.now)

pub loop-table-preserved : goal.loop-table-preserved
loop-table-preserved c =
    c.push_new.ensures ∙ ap (λ keys. insert_key same_text keys c.table-item.result) c.loop-table.invariant
    ∙ once-more c.args.tables.now c.loop-table.table-index c.table-item.result c.loop-table-test.true c.table-item.is
