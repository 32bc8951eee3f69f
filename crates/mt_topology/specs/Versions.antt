-- The dump of a topology as it was written in version 1, which says nothing of shards.
use Rattle.std.specs.Prelude.{◌≡◌, ℕ, List, [], ◌∷◌, All, codes, map}
use Rattle.serde_json.specs.Data.{Data, string, object, no_members, member}
use Rattle.mt_model.specs.Documents as text
use Rattle.mt_model.specs.Documents.{array, denied_sorted, quoted, tables_in_order, text_with}
use Rattle.mt_model.specs.Topology.{KeyspaceState, TopologyState}
use Rattle.mt_keyspace.specs.Values.{texts_value}
use Rattle.mt_topology.specs.Values.{value_with}

-- each keyspace has the one shard of all keys
abbrev pub IsUnsharded : TopologyState → Type 0
IsUnsharded t = All (λ k. k.1.cuts ≡ []) t.keyspaces

-- a keyspace with its tables, as a value and as a text
abbrev pub keyspace_value_one : List ℕ × KeyspaceState → Data
keyspace_value_one k = object (member (codes "name") (string k.0) (member (codes "tables") (texts_value (tables_in_order k.1)) no_members))

abbrev pub keyspace_text_one : List ℕ × KeyspaceState → List ℕ
keyspace_text_one k = text.object (text.member (codes "name") (quoted k.0) ∷ text.member (codes "tables") (array (map quoted (tables_in_order k.1))) ∷ [])

-- the document of a whole topology, as a value and as a text
abbrev pub dump_value_one : TopologyState → Data
dump_value_one t = value_with 1 keyspace_value_one t

abbrev pub dump_text_one : TopologyState → List ℕ
dump_text_one t = text_with (codes "1") keyspace_text_one (denied_sorted t) t
