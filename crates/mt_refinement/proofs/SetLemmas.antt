-- Two topologies are equal in at most one way.
use Rattle.std.proofs.Props.{props}
use Rattle.mt_names.specs.declared.keys.RuleKey.{RuleKey}
use Rattle.mt_names.specs.declared.keys.RuleTarget.{RuleTarget}
use Rattle.mt_names.specs.declared.types.TabletType.{TabletType}
use Rattle.mt_model.specs.Topology.{KeyspaceState, TopologyState}

type_set : IsSet TabletType
type_set = hlevel props

key_set : IsSet RuleKey
key_set = hlevel (type_set, props)

target_set : IsSet RuleTarget
target_set = hlevel props

keyspace_set : IsSet KeyspaceState
keyspace_set = hlevel props

pub topology_set : IsSet TopologyState
topology_set = hlevel (key_set, target_set, keyspace_set, props)
