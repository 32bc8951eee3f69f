-- Places as if no workflow were live, and the limits.
use Rattle.std.specs.Prelude.{◌≡◌, ℕ, ◌≤◌, true, List, [], length, All, Some, is_some}
use Rattle.mt_model.specs.Limits.{most_keyspaces, most_rules, most_tables_in_keyspace}
use Rattle.mt_model.specs.Topology.{HasDistinctPlaces, TopologyState}
use Rattle.mt_plain.specs.Plain.{Live, Plain, is_side, mover}
use Rattle.mt_plain.specs.Refuse.{most_journal_entries, most_ways, most_workflows, rule_count, table_count}

-- only what stands has a place: each place of a rule holds one, each place of a table is marked, no denial has a place, and nothing has
-- two
pub record HasOnlyWhatStands (t : TopologyState) : Type 0 where
  pub rules : All (λ rule. is_some rule.1 ≡ true) t.rules
  pub tables : All (λ keyspace. All (λ mark. mark.1 ≡ true) keyspace.1.tables) t.keyspaces
  pub denied : All (λ keyspace. keyspace.1.denied ≡ []) t.keyspaces
  pub places : HasDistinctPlaces t

-- two keyspaces are sides of the workflow that moves a table
pub record AreSidesOfMove (p : Plain) (table a b : List ℕ) : Type 0 where
  pub live : Live
  pub moving : mover p table ≡ Some live
  pub first : is_side live a ≡ true
  pub second : is_side live b ≡ true

-- no limit is passed: of keyspaces, of tables in a keyspace and of rule entries, those of live workflows among them, of live workflows, of
-- the numbers of ways, and of journal entries
pub record IsWithinLimits (p : Plain) : Type 0 where
  pub keyspaces : length p.topology.keyspaces ≤ most_keyspaces
  pub tables : (keyspace : List ℕ) → table_count p keyspace ≤ most_tables_in_keyspace
  pub rules : rule_count p ≤ most_rules
  pub workflows : length p.lives ≤ most_workflows
  pub ways : p.ways ≤ most_ways
  pub journal : p.journal ≤ most_journal_entries
