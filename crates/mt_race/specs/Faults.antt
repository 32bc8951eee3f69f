-- How the faults of a race are printed (this profile's own).
use Rattle.std.specs.Prelude.{ℕ, List, codes}
use Rattle.mt_race.specs.declared.fault.RaceFault.{RaceFault}
use Rattle.mt_race.specs.declared.fault.RaceFault.TheVariants.{Memory, Thread, Setup, Desk}

abbrev pub race_fault_text : RaceFault → List ℕ
race_fault_text Memory = codes "Memory"
race_fault_text Thread = codes "Thread"
race_fault_text (Setup refusal) = codes "Setup"
race_fault_text (Desk fault) = codes "Desk"
