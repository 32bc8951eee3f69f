-- The keys made are those of the table.
use Rattle.std.proofs.Common.{OnOk, subst}
use Rattle.mt_model.specs.Topology.{Rules}
use Rattle.mt_workflow.specs.Builds.{Agrees, with_kept}
use Rattle.mt_workflow.proofs.building.keep_keys.Goals as goal

pub returns-clause-value : goal.returns-clause-value
returns-clause-value c =
    subst (λ keys. OnOk c.keep.result ((stood : Rules) → Agrees c.args.kept.now.entries stood → Agrees c.keep.new.kept.entries (with_kept c.args.rules.now stood keys)))
    c.table_rule_keys.ensures c.keep.ensures.value
