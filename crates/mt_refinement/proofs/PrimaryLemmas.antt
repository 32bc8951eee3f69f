-- Primaries that stand for a state's, where one of them becomes another, or the state says the same of them.
use Rattle.std.proofs.Common.{◌≡◌, ℕ, ◌<◌, true, false, cond, List, find, length, is_some, refl, sym, ap, ◌∙◌, subst}
use Rattle.std.specs.List.{list_any}
use Rattle.std.specs.Option.{option_map_or}
use Rattle.std.specs.Prelude.{◌&&◌}
use Rattle.mt_names.specs.Names.{same_text}
use Rattle.mt_names.specs.Shards.{AreCuts, shard_count}
use Rattle.mt_model.specs.Topology.{TopologyState, cuts_at, is_present, keyspace_at}
use Rattle.mt_primary.specs.Primary.{PrimaryState, has_table, is_denied_at}
use Rattle.mt_primary.specs.Primaries.{Primaries, count_of, has_primaries, primary_of, shards_of, with_all, with_primary}
use Rattle.mt_primary.proofs.PrimariesLemmas.{count-with_all, count-with_primary, cuts-with_all, cuts-with_primary, has-with_all, has-with_primary, length-with_all, length-with_primary, with_primary-each}
use Rattle.mt_plain.specs.Plain.{Plain, moves}
use Rattle.mt_plain.specs.Serve.{refuses_by}
use Rattle.mt_plain.specs.Serve as plain
use Rattle.mt_stands.specs.Stands.{ArePrimaries}

-- a state with the same topology as if no workflow were live, and with the same workflows
pub primaries_next : (p q : Plain) → q.topology ≡ p.topology → q.lives ≡ p.lives → (primaries : Primaries) → ArePrimaries p primaries → ArePrimaries q primaries
primaries_next p q topology lives primaries are = record {
  there = λ k. are.there k ∙ sym (ap (λ (t : TopologyState). is_some (keyspace_at t.keyspaces k)) topology);
  count = are.count ∙ sym (ap (λ (t : TopologyState). length t.keyspaces) topology);
  cuts = λ k. are.cuts k ∙ sym (ap (λ (t : TopologyState). cuts_at t.keyspaces k) topology);
  ascend = λ k. subst (λ (t : TopologyState). AreCuts (cuts_at t.keyspaces k)) (sym topology) (are.ascend k);
  shards = λ k there. are.shards k (sym (ap (λ (t : TopologyState). is_some (keyspace_at t.keyspaces k)) topology) ∙ there)
      ∙ sym (ap (λ (t : TopologyState). shard_count (cuts_at t.keyspaces k)) topology);
  tables = λ k n within table. are.tables k n within table ∙ sym (same_tables k table);
  denials = λ k n within table. are.denials k n within table ∙ sym (ap (λ ws. option_map_or (λ w. refuses_by w k n) (find (λ w. moves w table) ws) false) lives);
}
  where
    same_tables : (k table : List ℕ) → plain.has_table q k table ≡ plain.has_table p k table
    same_tables k table =
        ap (λ ws. cond (list_any (λ w. moves w table && same_text w.target k) ws) true (is_present q.topology.keyspaces k table)) lives
        ∙ ap (λ (t : TopologyState). cond (list_any (λ w. moves w table && same_text w.target k) p.lives) true (is_present t.keyspaces k table)) topology

-- ---- the same shards

-- primaries of the same shards of the same keyspaces
pub record KeepShards (old new : Primaries) : Type 0 where
  pub there : (k : List ℕ) → has_primaries new k ≡ has_primaries old k
  pub count : length new ≡ length old
  pub cuts : (k : List ℕ) → (shards_of new k).cuts ≡ (shards_of old k).cuts
  pub shards : (k : List ℕ) → count_of new k ≡ count_of old k

pub one_set : (primaries : Primaries) (keyspace : List ℕ) (shard : ℕ) (after : PrimaryState) → KeepShards primaries (with_primary primaries keyspace shard after)
one_set primaries keyspace shard after = record {
  there = has-with_primary primaries keyspace shard after;
  count = length-with_primary primaries keyspace shard after;
  cuts = cuts-with_primary primaries keyspace shard after;
  shards = count-with_primary primaries keyspace shard after;
}

pub all_changed : (primaries : Primaries) (keyspace : List ℕ) (change : PrimaryState → PrimaryState) → KeepShards primaries (with_all primaries keyspace change)
all_changed primaries keyspace change = record {
  there = has-with_all primaries keyspace change;
  count = length-with_all primaries keyspace change;
  cuts = cuts-with_all primaries keyspace change;
  shards = count-with_all primaries keyspace change;
}

-- they are those of a next state with the same keyspaces, if each has the tables and the own list that it has there
pub primaries_kept : (p q : Plain) → q.topology ≡ p.topology → (old new : Primaries) → KeepShards old new → ArePrimaries p old
    → ((k : List ℕ) (n : ℕ) → n < count_of old k → (table : List ℕ) → has_table (primary_of new k n) table ≡ plain.has_table q k table)
    → ((k : List ℕ) (n : ℕ) → n < count_of old k → (table : List ℕ) → is_denied_at (primary_of new k n) table ≡ plain.refuses q k n table) → ArePrimaries q new
primaries_kept p q same old new keep are tables denials = record {
  there = λ k. keep.there k ∙ are.there k ∙ sym (ap (λ (t : TopologyState). is_some (keyspace_at t.keyspaces k)) same);
  count = keep.count ∙ are.count ∙ sym (ap (λ (t : TopologyState). length t.keyspaces) same);
  cuts = λ k. keep.cuts k ∙ are.cuts k ∙ sym (ap (λ (t : TopologyState). cuts_at t.keyspaces k) same);
  ascend = λ k. subst (λ (t : TopologyState). AreCuts (cuts_at t.keyspaces k)) (sym same) (are.ascend k);
  shards = λ k there. keep.shards k ∙ are.shards k (sym (ap (λ (t : TopologyState). is_some (keyspace_at t.keyspaces k)) same) ∙ there)
      ∙ sym (ap (λ (t : TopologyState). shard_count (cuts_at t.keyspaces k)) same);
  tables = λ k n within table. tables k n (subst (λ m. n < m) (keep.shards k) within) table;
  denials = λ k n within table. denials k n (subst (λ m. n < m) (keep.shards k) within) table;
}

module _ (primaries : Primaries) (keyspace : List ℕ) (shard : ℕ) (after : PrimaryState) where
  -- what is the same of one that becomes another is the same of each
  pub one_keeps : {A : Type 0} (read : PrimaryState → A) → read after ≡ read (primary_of primaries keyspace shard)
      → (k : List ℕ) (n : ℕ) → read (primary_of (with_primary primaries keyspace shard after) k n) ≡ read (primary_of primaries k n)
  one_keeps read same = with_primary-each primaries keyspace shard after (λ k n old new. read new ≡ read old) (λ k n q. refl) (λ within. same)

  -- one that becomes another one with the same tables and the same denials
  pub primaries_set : (p : Plain) → ArePrimaries p primaries → ((table : List ℕ) → has_table after table ≡ has_table (primary_of primaries keyspace shard) table)
      → ((table : List ℕ) → is_denied_at after table ≡ is_denied_at (primary_of primaries keyspace shard) table) → ArePrimaries p (with_primary primaries keyspace shard after)
  primaries_set p are tables denials =
      primaries_kept p p refl primaries (with_primary primaries keyspace shard after) (one_set primaries keyspace shard after) are
      (λ k n within table. one_keeps (λ s. has_table s table) (tables table) k n ∙ are.tables k n within table)
      (λ k n within table. one_keeps (λ s. is_denied_at s table) (denials table) k n ∙ are.denials k n within table)
