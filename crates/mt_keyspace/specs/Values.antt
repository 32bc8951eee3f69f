-- Keyspaces and denials as values of `serde_json`, and what is true of their names.
use Rattle.std.specs.Prelude.{◌≤◌, length, ◌≡◌, ℕ, true, List, codes, map, Ok}
use Rattle.std.specs.List.{AllByRecursion}
use Rattle.serde_json.specs.Data.{Data, string, array, object, no_members, member}
use Rattle.serde_json.specs.View.{items_of}
use Rattle.mt_names.specs.declared.keys.RuleTarget.{RuleTarget}
use Rattle.mt_names.specs.Keys.{IsRuleTarget, read_target, target_text}
use Rattle.mt_names.specs.Names.{IsKeyspaceName, IsTableName}
use Rattle.mt_names.specs.Shards.{AreCuts, KeyRange, is_range, range_text, ranges_of, read_range}
use Rattle.mt_model.specs.Limits.{most_tables_in_keyspace}
use Rattle.mt_model.specs.Topology.{KeyspaceState, Keyspaces}
use Rattle.mt_model.specs.Documents.{shard_texts, tables_in_order}

-- a list of texts
abbrev pub texts_value : List (List ℕ) → Data
texts_value texts = array (items_of (map string texts))

-- a keyspace with its shards and its tables
abbrev pub keyspace_value : List ℕ × KeyspaceState → Data
keyspace_value k =
    object (member (codes "name") (string k.0)
    (member (codes "shards") (texts_value (shard_texts k.1)) (member (codes "tables") (texts_value (tables_in_order k.1)) no_members)))

-- ---- what is sorted

-- texts, each under itself
abbrev pub by_themselves : List (List ℕ) → List (List ℕ × List ℕ)
by_themselves texts = map (λ text. (text, text)) texts

-- keyspaces, each under its name
abbrev pub by_name : Keyspaces → List (List ℕ × (List ℕ × KeyspaceState))
by_name keyspaces = map (λ k. (k.0, k)) keyspaces

-- the text of a denial, which is read back
abbrev pub IsDenialText : List ℕ → Type 0
IsDenialText text = (target : RuleTarget) × IsRuleTarget target × (text ≡ target_text target) × (read_target text ≡ Ok target)

-- the range of a shard, which is read back from its text
abbrev pub IsReadRange : KeyRange → Type 0
IsReadRange range = (is_range range ≡ true) × (read_range (range_text range) ≡ Ok range)

-- the names of a keyspace and of its tables are names, its shards cover all keys, and its tables are within their limit
pub record IsNamedKeyspace (k : List ℕ × KeyspaceState) : Type 0 where
  pub name : IsKeyspaceName k.0
  pub cuts : AreCuts k.1.cuts
  pub ranges : AllByRecursion IsReadRange (ranges_of k.1.cuts)
  pub tables : AllByRecursion IsTableName (tables_in_order k.1)
  pub few : length k.1.tables ≤ most_tables_in_keyspace
