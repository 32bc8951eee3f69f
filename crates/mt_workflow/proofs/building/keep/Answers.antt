-- One key more.
use Rattle.mt_workflow.proofs.AgreeLemmas.{agrees_more}
use Rattle.mt_workflow.proofs.building.keep.Goals as goal

pub loop-key-preserved : goal.loop-key-preserved
loop-key-preserved c stood agree =
    agrees_more c.args.rules.now c.loop-key.kept.entries c.keep_rule.new.kept.entries stood c.args.keys.now c.loop-key.key-index c.key-item.result _ c.loop-key-test.true c.key-item.is c.get-rule.ensures
    c.in_ok-keep_rule.ensures.value (c.loop-key.invariant stood agree)
