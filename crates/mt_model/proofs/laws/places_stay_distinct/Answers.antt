-- Each place made is of a name that has none.
use Rattle.mt_model.specs.Topology.{with_rule, with_rule_place, without_rule_place}
use Rattle.mt_model.proofs.DistinctLemmas.{distinct-empty, distinct-with_entry, distinct-with_keyspace, distinct-with_table, distinct-rules, distinct-with_rule, distinct-with_rule_place, distinct-without_rule_place, distinct-table_made, distinct-table_dropped, distinct-denial_made, distinct-denial_dropped}
use Rattle.mt_model.proofs.laws.places_stay_distinct.Goals as goal

pub returns : goal.returns
returns c = record {
  empty = distinct-empty;
  write = distinct-with_entry;
  keyspace = distinct-with_keyspace;
  table = distinct-with_table;
  rule = λ t key target distinct. distinct-rules t (with_rule t.rules key target) (distinct-with_rule t.rules key target distinct.rules) distinct;
  rule_made = λ t key distinct. distinct-rules t (with_rule_place t.rules key) (distinct-with_rule_place t.rules key distinct.rules) distinct;
  rule_dropped = λ t key distinct. distinct-rules t (without_rule_place t.rules key) (distinct-without_rule_place t.rules key distinct.rules) distinct;
  table_made = distinct-table_made;
  table_dropped = distinct-table_dropped;
  denial_made = distinct-denial_made;
  denial_dropped = distinct-denial_dropped;
}
