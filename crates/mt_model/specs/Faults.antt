-- How the refusals of a topology and of a primary are printed.
use Rattle.std.specs.Prelude.{ℕ, List, codes}
use Rattle.mt_model.specs.declared.faults.TopologyFault.{TopologyFault}
use Rattle.mt_model.specs.declared.faults.TopologyFault.TheVariants as topology
use Rattle.mt_model.specs.declared.faults.PrimaryFault.{PrimaryFault}
use Rattle.mt_model.specs.declared.faults.PrimaryFault.TheVariants as primary

-- numbers and names are this profile's own
abbrev pub topology_fault_text : TopologyFault → List ℕ
topology_fault_text topology.Memory = codes "T0 Memory"
topology_fault_text topology.NoKeyspace = codes "T1 NoKeyspace"
topology_fault_text topology.NoTable = codes "T2 NoTable"
topology_fault_text topology.Ambiguous = codes "T3 Ambiguous"
topology_fault_text topology.Exists = codes "T4 Exists"
topology_fault_text topology.Full = codes "T5 Full"
topology_fault_text topology.BadDump = codes "T6 BadDump"

-- numbers and names are this profile's own
abbrev pub primary_fault_text : PrimaryFault → List ℕ
primary_fault_text primary.Memory = codes "P0 Memory"
primary_fault_text primary.NoTable = codes "P1 NoTable"
primary_fault_text primary.Denied = codes "P2 Denied"
primary_fault_text primary.RowExists = codes "P3 RowExists"
primary_fault_text primary.NoRow = codes "P4 NoRow"
primary_fault_text primary.TooLong = codes "P5 TooLong"
primary_fault_text primary.LogFull = codes "P6 LogFull"
primary_fault_text primary.Purged = codes "P7 Purged"
