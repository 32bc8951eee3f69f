-- A place holds a blank.
use Rattle.std.proofs.Common.{refl}
use Rattle.mt_model.specs.Topology.{with_rule_place, without_rule_place, with_table_place, without_table_place, with_denied_place, without_denied_place}
use Rattle.mt_model.proofs.TopologyLemmas.{value_of-rules_changed, value_of-keyspace_changed, rule_at-with_rule_place, rule_at-without_rule_place, is_marked-with_mark_place, is_marked-without_mark_place, tables_distinct, denied_distinct}
use Rattle.mt_model.proofs.laws.places_change_no_value.Goals as goal

pub returns-clause-rule_made : goal.returns-clause-rule_made
returns-clause-rule_made c = λ t key k. value_of-rules_changed t (with_rule_place t.rules key) k (λ other is. rule_at-with_rule_place t.rules key other)

pub returns-clause-rule_dropped : goal.returns-clause-rule_dropped
returns-clause-rule_dropped c = λ t key k distinct. value_of-rules_changed t (without_rule_place t.rules key) k (λ other is. rule_at-without_rule_place t.rules key other distinct.rules)

pub returns-clause-table_made : goal.returns-clause-table_made
returns-clause-table_made c = λ t keyspace table k. value_of-keyspace_changed t (with_table_place table) keyspace k (λ state other found is. is_marked-with_mark_place state.tables table other) (λ state other found is. refl)

pub returns-clause-table_dropped : goal.returns-clause-table_dropped
returns-clause-table_dropped c = λ t keyspace table k distinct.
    value_of-keyspace_changed t (without_table_place table) keyspace k (λ state other found is. is_marked-without_mark_place state.tables table other (tables_distinct t keyspace state distinct found)) (λ state other found is. refl)

pub returns-clause-denial_made : goal.returns-clause-denial_made
returns-clause-denial_made c = λ t keyspace table k. value_of-keyspace_changed t (with_denied_place table) keyspace k (λ state other found is. refl) (λ state other found is. is_marked-with_mark_place state.denied table other)

pub returns-clause-denial_dropped : goal.returns-clause-denial_dropped
returns-clause-denial_dropped c = λ t keyspace table k distinct.
    value_of-keyspace_changed t (without_denied_place table) keyspace k (λ state other found is. refl) (λ state other found is. is_marked-without_mark_place state.denied table other (denied_distinct t keyspace state distinct found))
