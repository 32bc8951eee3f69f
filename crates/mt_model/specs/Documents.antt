-- The written forms of the rules and of a topology: JSON, compact and sorted (this profile's own; Vitess prints routing rules
-- as JSON objects of from_table and to_tables).
use Rattle.std.specs.Prelude.{ℕ, if◌then◌else◌, cond, List, [], ◌∷◌, ◌++◌, codes, flat_map, fold, map, Option, None, Some}
use Rattle.std.specs.List.{join_with_byte}
use Rattle.mt_names.specs.declared.keys.RuleKey.{RuleKey}
use Rattle.mt_names.specs.declared.keys.RuleTarget.{RuleTarget}
use Rattle.mt_names.specs.Keys.{key_text, target_text}
use Rattle.mt_names.specs.Shards.{range_text, ranges_of}
use Rattle.mt_names.specs.Types.{comma}
pub use Rattle.mt_model.specs.Order.{comes_before}
use Rattle.mt_model.specs.Topology.{KeyspaceState, Marks, Rules, TopologyState}

-- ---- texts in the order of their bytes

-- a pair of a text and what it stands for, put in its place by the text
abbrev pub put_by_text : {A : Type 0} → List (List ℕ × A) → List ℕ × A → List (List ℕ × A)
put_by_text [] x = x ∷ []
put_by_text (y ∷ ys) x = if comes_before x.0 y.0 then x ∷ y ∷ ys else (y ∷ put_by_text ys x)

-- a list in the order of the texts of its items
abbrev pub sorted_by_text : {A : Type 0} → (A → List ℕ) → List A → List A
sorted_by_text text items = map (λ x. x.1) (fold put_by_text [] (map (λ item. (text item, item)) items))

-- texts in their order
abbrev pub sorted_texts : List (List ℕ) → List (List ℕ)
sorted_texts texts = sorted_by_text (λ text. text) texts

-- ---- JSON

-- a name in quotes; none has a byte that JSON escapes
abbrev pub quoted : List ℕ → List ℕ
quoted text = 34 ∷ text ++ 34 ∷ []

-- a member of an object
abbrev pub member : (name value : List ℕ) → List ℕ
member name value = quoted name ++ codes ":" ++ value

-- a list, its items separated by commas
abbrev pub array : List (List ℕ) → List ℕ
array items = codes "[" ++ join_with_byte comma items ++ codes "]"

-- an object, its members separated by commas
abbrev pub object : List (List ℕ) → List ℕ
object members = codes "{" ++ join_with_byte comma members ++ codes "}"

-- ---- the rules

-- the keys that have a rule, each with where it leads
abbrev pub entries_of : RuleKey × Option RuleTarget → List (RuleKey × RuleTarget)
entries_of (key, None) = []
entries_of (key, Some target) = (key, target) ∷ []

-- the rules, in the order of their keys' texts
abbrev pub sorted_rules : Rules → List (RuleKey × RuleTarget)
sorted_rules rules = sorted_by_text (λ r. key_text r.0) (flat_map entries_of rules)

-- a rule ("Routing Rules": from_table, to_tables)
abbrev pub rule_text : RuleKey × RuleTarget → List ℕ
rule_text r = object (member (codes "from_table") (quoted (key_text r.0)) ∷ member (codes "to_tables") (array (quoted (target_text r.1) ∷ [])) ∷ [])

-- the list of the rules
abbrev pub rules_array : Rules → List ℕ
rules_array rules = array (map rule_text (sorted_rules rules))

-- the document of the rules ("Routing Rules")
abbrev pub rules_text : Rules → List ℕ
rules_text rules = object (member (codes "rules") (rules_array rules) ∷ [])

-- ---- the dump of a topology, version 2

-- the names that are marked
abbrev pub marked : Marks → List (List ℕ)
marked marks = flat_map (λ mark. cond mark.1 (mark.0 ∷ []) []) marks

-- the tables of a keyspace, in the order of their names
abbrev pub tables_in_order : KeyspaceState → List (List ℕ)
tables_in_order state = sorted_texts (marked state.tables)

-- the shards of a keyspace, as the texts of their ranges ("Sharding")
abbrev pub shard_texts : KeyspaceState → List (List ℕ)
shard_texts state = map range_text (ranges_of state.cuts)

-- a keyspace with its shards and its tables
abbrev pub keyspace_text : List ℕ × KeyspaceState → List ℕ
keyspace_text k =
    object (member (codes "name") (quoted k.0)
    ∷ member (codes "shards") (array (map quoted (shard_texts k.1))) ∷ member (codes "tables") (array (map quoted (tables_in_order k.1))) ∷ [])

-- the keyspaces, in the order of their names
abbrev pub keyspaces_in_order : TopologyState → List (List ℕ × KeyspaceState)
keyspaces_in_order t = sorted_by_text (λ k. k.0) t.keyspaces

-- a denied table, as `keyspace.table`
abbrev pub denied_text : List ℕ → List ℕ → List ℕ
denied_text keyspace table = target_text (record { keyspace = keyspace; table = table })

-- those of a keyspace
abbrev pub denied_texts : List ℕ × KeyspaceState → List (List ℕ)
denied_texts k = map (denied_text k.0) (marked k.1.denied)

-- those of all keyspaces, in the order of the texts
abbrev pub denied_sorted : TopologyState → List (List ℕ)
denied_sorted t = sorted_texts (flat_map denied_texts t.keyspaces)

-- the document of a whole topology, with this version, each keyspace as this text, and these denied tables
abbrev pub text_with : (version : List ℕ) → (List ℕ × KeyspaceState → List ℕ) → List (List ℕ) → TopologyState → List ℕ
text_with version keyspace denied t =
    object (member (codes "denied") (array (map quoted denied))
    ∷ member (codes "keyspaces") (array (map keyspace (keyspaces_in_order t)))
    ∷ member (codes "rules") (rules_array t.rules) ∷ member (codes "version") version ∷ [])

-- as it is written
abbrev pub dump_text : TopologyState → List ℕ
dump_text t = text_with (codes "2") keyspace_text (denied_sorted t) t
