-- The statuses that the program ends with.
use Rattle.std.specs.Prelude.{ℕ, Result, Ok, Err}
use Rattle.mt_script.specs.declared.fault.ScriptFault.{ScriptFault}
use Rattle.mt_run.specs.declared.command.Status.{Status}
use Rattle.mt_run.specs.declared.command.Status.TheVariants.{Done, Failed, Misused}

-- 0 of what is done, 1 of a document that is refused and of a fault, 2 of a command line that asks for nothing
abbrev pub status_of : Result Status ScriptFault → ℕ
status_of (Ok Done) = 0
status_of (Ok Failed) = 1
status_of (Ok Misused) = 2
status_of (Err fault) = 1
