-- The dump as a value of `serde_json`, whose text is the document.
use Rattle.std.specs.Prelude.{◌≤◌, ℕ, List, length, codes, map}
use Rattle.std.specs.List.{AllByRecursion}
use Rattle.serde_json.specs.Data.{Data, number, array, object, unsigned, no_members, member}
use Rattle.serde_json.specs.View.{items_of}
use Rattle.mt_model.specs.Limits.{most_rules}
use Rattle.mt_model.specs.Topology.{KeyspaceState, TopologyState}
use Rattle.mt_rules.specs.Values.{IsWellSorted, rules_value}
use Rattle.mt_model.specs.Documents.{keyspaces_in_order}
use Rattle.mt_keyspace.specs.Written.{denied_in_order}
use Rattle.mt_keyspace.specs.Values.{IsDenialText, IsNamedKeyspace, keyspace_value, texts_value}

-- the document of a whole topology, with this number as its version, and with each keyspace as this value
abbrev pub value_with : (version : ℕ) → (List ℕ × KeyspaceState → Data) → TopologyState → Data
value_with version keyspace t =
    object (member (codes "denied") (texts_value (denied_in_order t))
    (member (codes "keyspaces") (array (items_of (map keyspace (keyspaces_in_order t))))
    (member (codes "rules") (rules_value t.rules) (member (codes "version") (number (unsigned version)) no_members))))

-- as it is written
abbrev pub dump_value : TopologyState → Data
dump_value t = value_with 2 keyspace_value t

-- all names are names, and the rules stand in their order and within their limit
pub record IsNamedTopology (t : TopologyState) : Type 0 where
  pub denied : AllByRecursion IsDenialText (denied_in_order t)
  pub keyspaces : AllByRecursion IsNamedKeyspace (keyspaces_in_order t)
  pub rules : IsWellSorted t.rules
  pub few : length t.rules ≤ most_rules
