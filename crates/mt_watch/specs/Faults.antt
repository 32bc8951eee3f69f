-- How a refusal is printed.
use Rattle.std.specs.Prelude.{ℕ, List, codes}
use Rattle.mt_watch.specs.declared.fault.WatchersFault.{WatchersFault}
use Rattle.mt_watch.specs.declared.fault.WatchersFault.TheVariants.{Memory, NoWatcher, Refused, Full}

abbrev pub watchers_fault_text : WatchersFault → List ℕ
watchers_fault_text Memory = codes "H0 Memory"
watchers_fault_text NoWatcher = codes "H1 NoWatcher"
watchers_fault_text (Refused index) = codes "H2 Refused"
watchers_fault_text Full = codes "H3 Full"
