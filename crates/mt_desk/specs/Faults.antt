-- How a refusal of the desk is printed (this profile's own).
use Rattle.std.specs.Prelude.{ℕ, List, codes}
use Rattle.mt_desk.specs.declared.fault.DeskFault.{DeskFault}
use Rattle.mt_desk.specs.declared.fault.DeskFault.TheVariants.{Memory, HistoryDiffers, RoutersFull, NoWatcher, WatcherRefused, ClientTaken, PassMissing}

abbrev pub desk_fault_text : DeskFault → List ℕ
desk_fault_text Memory = codes "K0 Memory"
desk_fault_text (HistoryDiffers client) = codes "K1 HistoryDiffers"
desk_fault_text RoutersFull = codes "K3 RoutersFull"
desk_fault_text NoWatcher = codes "K4 NoWatcher"
desk_fault_text (WatcherRefused index) = codes "K5 WatcherRefused"
desk_fault_text ClientTaken = codes "K6 ClientTaken"
desk_fault_text PassMissing = codes "K7 PassMissing"
