-- How the refusals of a journal are printed.
use Rattle.std.specs.Prelude.{ℕ, List, codes}
use Rattle.mt_journal.specs.declared.fault.JournalFault.{JournalFault}
use Rattle.mt_journal.specs.declared.fault.JournalFault.TheVariants as fault

-- numbers and names are this profile's own
abbrev pub journal_fault_text : JournalFault → List ℕ
journal_fault_text fault.Memory = codes "J0 Memory"
journal_fault_text fault.Full = codes "J1 Full"
journal_fault_text fault.Repeated = codes "J2 Repeated"
