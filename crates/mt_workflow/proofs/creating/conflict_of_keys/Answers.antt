-- The keys made are those of the table.
use Rattle.std.proofs.Common.{ap, find, ◌∙◌}
use Rattle.mt_workflow.specs.Creates.{leads_elsewhere}
use Rattle.mt_workflow.proofs.creating.conflict_of_keys.Goals as goal

pub returns : goal.returns
returns c = c.conflict.ensures ∙ ap (find (leads_elsewhere c.args.rules.now c.args.source.now c.args.table.now)) c.table_rule_keys-keys.ensures
