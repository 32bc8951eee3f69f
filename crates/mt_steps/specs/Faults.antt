-- Why a step is refused: how a refusal is printed, and what it is in the words of the definitions.
use Rattle.std.specs.Prelude.{ℕ, List, codes}
use Rattle.mt_plain.specs.Events.{Refusal, memory, not_level, watcher_refused, no_watcher, full}
use Rattle.mt_steps.specs.declared.fault.StepFault.{StepFault}
use Rattle.mt_steps.specs.declared.fault.StepFault.TheVariants as fault

-- numbers and names are this profile's own
abbrev pub step_fault_text : StepFault → List ℕ
step_fault_text fault.Memory = codes "F0 Memory"
step_fault_text fault.NotLevel = codes "F18 NotLevel"
step_fault_text (fault.WatcherRefused index) = codes "F23 WatcherRefused"
step_fault_text fault.NoWatcher = codes "F24 NoWatcher"
step_fault_text fault.Full = codes "F27 Full"

-- a refusal in the words of the definitions
abbrev pub refusal_of : StepFault → Refusal
refusal_of fault.Memory = memory
refusal_of fault.NotLevel = not_level
refusal_of (fault.WatcherRefused index) = watcher_refused index
refusal_of fault.NoWatcher = no_watcher
refusal_of fault.Full = full
