-- What a dump says: the topology that it was written of, where each denied table is there.
use Rattle.std.specs.Prelude.{◌≡◌, ℕ, true, List, Ok}
use Rattle.mt_model.specs.Part.{IsSameTopology}
use Rattle.mt_model.specs.Topology.{TopologyState, is_denied, is_present}
use Rattle.mt_topology.specs.Dump.{topology_of_text}

-- each denied table is there in its keyspace
abbrev pub HasDeniedTables : TopologyState → Type 0
HasDeniedTables t = (keyspace table : List ℕ) → is_denied t.keyspaces keyspace table ≡ true → is_present t.keyspaces keyspace table ≡ true

-- the text says this topology: reading it gives one that says the same
abbrev pub Says : List ℕ → TopologyState → Type 0
Says text t = (found : TopologyState) × (topology_of_text text ≡ Ok found) × IsSameTopology found t
