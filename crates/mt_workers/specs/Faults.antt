-- How the refusals of a collector are printed (this profile's own).
use Rattle.std.specs.Prelude.{ℕ, List, codes}
use Rattle.mt_workers.specs.declared.fault.CollectFault.{CollectFault}
use Rattle.mt_workers.specs.declared.fault.CollectFault.TheVariants.{Memory, Double, Stranger}

abbrev pub collect_fault_text : CollectFault → List ℕ
collect_fault_text Memory = codes "C0 Memory"
collect_fault_text Double = codes "C1 Double"
collect_fault_text Stranger = codes "C2 Stranger"
