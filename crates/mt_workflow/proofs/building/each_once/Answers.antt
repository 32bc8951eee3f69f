-- One table more.
use Rattle.std.proofs.Common.{◌≡◌, rules, ap, ◌∙◌}
use Rattle.indexmap.specs.IndexSet.{insert_key}
use Rattle.mt_names.specs.Names.{same_text}
use Rattle.mt_workflow.proofs.OnceLemmas.{once-more}
use Rattle.mt_workflow.proofs.building.each_once.Goals as goal

pub loop-table-preserved : goal.loop-table-preserved
loop-table-preserved c =
    let after : c.insert.new.self.keys ≡ insert_key same_text c.loop-table.set.keys c.table-item.result = search rules in
    after ∙ ap (λ keys. insert_key same_text keys c.table-item.result) c.loop-table.invariant
    ∙ once-more c.args.tables.now c.loop-table.table-index c.table-item.result c.loop-table-test.true c.table-item.is
