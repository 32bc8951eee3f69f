-- What refuses a table that is at the source, and isn't at the target.
use Rattle.std.proofs.Common.{◌≡◌, ℕ, true, false, List, [], Option, None, Some, find, length, nat_lt, option_map, refl, ap, ◌∙◌}
use Rattle.std.specs.Option.{option_map_or, option_or}
use Rattle.mt_names.specs.declared.keys.RuleKey.{RuleKey}
use Rattle.mt_names.specs.Shards.{AreCuts, Cuts, KeyRange, ranges_of, shard_count}
use Rattle.mt_names.proofs.ShardLemmas.{count_ranges}
use Rattle.mt_model.specs.Part.{table_rule_keys}
use Rattle.mt_model.specs.Topology.{KeyspaceState, Keyspaces, TopologyState, cuts_at, is_present, keyspace_at}
use Rattle.mt_workflow.specs.declared.fault.WorkflowFault.TheVariants.{RuleConflict, DeniedByHand}
use Rattle.mt_workflow.specs.Creates.{is_denied_by_hand, is_sharded, leads_elsewhere, refuse_if, table_refusal}

pub refused-by : (t : TopologyState) (source target table : List ℕ) (found : Option RuleKey) → is_present t.keyspaces source table ≡ true → is_present t.keyspaces target table ≡ false
    → find (leads_elsewhere t.rules source table) (table_rule_keys source target table) ≡ found
    → table_refusal t source target table ≡ option_or (option_map RuleConflict found) (refuse_if (is_denied_by_hand t source target table) (DeniedByHand table))
refused-by t source target table found at there is = rw (at, there, is) refl

-- the shards of a keyspace that is there
pub cuts-some : (keyspaces : Keyspaces) (keyspace : List ℕ) (cuts : Cuts) → Some cuts ≡ option_map (λ (state : KeyspaceState). state.cuts) (keyspace_at keyspaces keyspace) → cuts ≡ cuts_at keyspaces keyspace
cuts-some keyspaces keyspace cuts = by (keyspace_at keyspaces keyspace)
  where
    by : (found : Option KeyspaceState) → Some cuts ≡ option_map (λ (state : KeyspaceState). state.cuts) found → cuts ≡ option_map_or (λ (state : KeyspaceState). state.cuts) found []
    by None e = absurd cc
    by (Some state) e = cc

-- those of one that isn't
pub cuts-none : (keyspaces : Keyspaces) (keyspace : List ℕ) → None ≡ option_map (λ (state : KeyspaceState). state.cuts) (keyspace_at keyspaces keyspace) → [] ≡ cuts_at keyspaces keyspace
cuts-none keyspaces keyspace = by (keyspace_at keyspaces keyspace)
  where
    by : (found : Option KeyspaceState) → None ≡ option_map (λ (state : KeyspaceState). state.cuts) found → [] ≡ option_map_or (λ (state : KeyspaceState). state.cuts) found []
    by None e = refl
    by (Some state) e = absurd cc

pub sharded-some : (keyspaces : Keyspaces) (keyspace : List ℕ) (cuts : Cuts) (ranges : List KeyRange) → Some cuts ≡ option_map (λ (state : KeyspaceState). state.cuts) (keyspace_at keyspaces keyspace)
    → ranges ≡ ranges_of cuts → AreCuts cuts → nat_lt 1 (length ranges) ≡ is_sharded keyspaces keyspace
sharded-some keyspaces keyspace cuts ranges found are ascend =
    ap (nat_lt 1) (ap length are ∙ count_ranges cuts ascend ∙ ap shard_count (cuts-some keyspaces keyspace cuts found))
