-- Worked scripts of dumps: the whole topology as one document.
use Rattle.std.specs.Prelude.{ℕ, List, [], ◌∷◌, ◌++◌, codes}
use Rattle.mt_worked.specs.Scripts.{a_move, both, fresh_rule_items, ok, Prints}

abbrev pub dump_of_two_keyspaces : Type 0
dump_of_two_keyspaces =
    Prints both (
    (codes "keyspace b", ok)
    ∷ (codes "keyspace a", ok)
    ∷ (codes "table b t", ok)
    ∷ (
      codes "dump",
      codes "{\"denied\":[],\"keyspaces\":[{\"name\":\"a\",\"shards\":[\"-\"],\"tables\":[]}"
          ++ codes ",{\"name\":\"b\",\"shards\":[\"-\"],\"tables\":[\"t\"]}],\"rules\":[],\"version\":2}",
    )
    ∷ [])

abbrev pub dump_of_a_sharded_keyspace : Type 0
dump_of_a_sharded_keyspace =
    Prints both (
    (codes "keyspace b", ok)
    ∷ (codes "keyspace a -80,80-", ok)
    ∷ (codes "table b t", ok)
    ∷ (
      codes "dump",
      codes "{\"denied\":[],\"keyspaces\":[{\"name\":\"a\",\"shards\":[\"-80\",\"80-\"],\"tables\":[]}"
          ++ codes ",{\"name\":\"b\",\"shards\":[\"-\"],\"tables\":[\"t\"]}],\"rules\":[],\"version\":2}",
    )
    ∷ [])

abbrev pub bad_ranges_and_a_sharded_source_then_dump : Type 0
bad_ranges_and_a_sharded_source_then_dump =
    Prints both (
    (codes "keyspace a -80,90-", codes "refused N10 NotCovering")
    ∷ (codes "keyspace b 80-40", codes "refused N9 BadRange")
    ∷ (codes "keyspace commerce", ok)
    ∷ (codes "keyspace c -80,80-", ok)
    ∷ (codes "table c t", ok)
    ∷ (codes "create w c commerce t", codes "refused F33 ShardedSource")
    ∷ (
      codes "dump",
      codes "{\"denied\":[]"
          ++ codes ",\"keyspaces\":[{\"name\":\"c\",\"shards\":[\"-80\",\"80-\"],\"tables\":[\"t\"]}"
          ++ codes ",{\"name\":\"commerce\",\"shards\":[\"-\"],\"tables\":[]}],\"rules\":[],\"version\":2}",
    )
    ∷ [])

abbrev pub dump_of_a_fresh_workflow : List ℕ
dump_of_a_fresh_workflow =
    codes "{\"denied\":[\"customer.corder\"]"
    ++ codes ",\"keyspaces\":[{\"name\":\"commerce\",\"shards\":[\"-\"],\"tables\":[\"corder\"]}"
    ++ codes ",{\"name\":\"customer\",\"shards\":[\"-\"],\"tables\":[\"corder\"]}],\"rules\":["
    ++ fresh_rule_items ++ codes "],\"version\":2}"

abbrev pub dump_of_a_live_workflow : Type 0
dump_of_a_live_workflow =
    Prints both (a_move
    ++ (codes "dump", dump_of_a_fresh_workflow)
    ∷ [])
