-- A keyspace, a table or a rule that is made.
use Rattle.std.proofs.Common.{ap, ◌∙◌}
use Rattle.mt_model.specs.declared.entries.Entry.TheVariants as entry
use Rattle.mt_model.specs.declared.entries.EntryKey.TheVariants as about
use Rattle.mt_model.specs.Topology.{with_rule}
use Rattle.mt_model.proofs.TopologyLemmas.{value_of-with_keyspace, value_of-with_table_here, value_of-with_table_elsewhere, value_of-rules_changed, rule_at-with_rule_here, rule_at-with_rule_elsewhere}
use Rattle.mt_model.proofs.laws.what_is_made_by_hand.Goals as goal

pub returns-clause-keyspace : goal.returns-clause-keyspace
returns-clause-keyspace c = value_of-with_keyspace

pub returns-clause-table : goal.returns-clause-table
returns-clause-table c = value_of-with_table_here

pub returns-clause-no_other_table : goal.returns-clause-no_other_table
returns-clause-no_other_table c = value_of-with_table_elsewhere

pub returns-clause-rule : goal.returns-clause-rule
returns-clause-rule c = λ t key target distinct. ap (entry.Rule key) (rule_at-with_rule_here t.rules key target distinct.rules)

pub returns-clause-no_other_rule : goal.returns-clause-no_other_rule
returns-clause-no_other_rule c = λ t key target k apart. value_of-rules_changed t (with_rule t.rules key target) k (λ other is. rule_at-with_rule_elsewhere t.rules key other target (λ e. apart (ap about.Rule e ∙ is)))
