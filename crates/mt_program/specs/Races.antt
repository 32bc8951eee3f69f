-- What the program tells of a race.
use Rattle.std.specs.Prelude.{ℕ, if◌then◌else◌, List, [], ◌++◌, codes, Result, Ok, Err}
use Rattle.std.specs.Io.KnownBytes.{Appends}
use Rattle.mt_plain.specs.Numbers.{number_text}
use Rattle.mt_plain.specs.Output.{line_feed}
use Rattle.mt_script.specs.declared.fault.ScriptFault.{ScriptFault}
use Rattle.mt_script.specs.Bytes.{Known, Writes, script_fault_text}
use Rattle.mt_race.specs.declared.fault.RaceFault.{RaceFault}
use Rattle.mt_race.specs.declared.racing.Raced.{Raced}
use Rattle.mt_race.specs.Faults.{race_fault_text}
use Rattle.mt_run.specs.declared.command.Status.{Status}
use Rattle.mt_run.specs.declared.command.Status.TheVariants as status
use Rattle.mt_run.specs.Performs.{Tells}

-- the line of a race: the two numbers, and whether they agree, and the history with the passes
abbrev pub verdict_text : Raced → List ℕ
verdict_text raced = if raced.agree then codes " agree" else codes " differ"

abbrev pub race_text : Raced → List ℕ
race_text raced = ((codes "acknowledged " ++ number_text raced.acknowledged) ++ (codes " rows " ++ number_text raced.rows)) ++ verdict_text raced

abbrev pub race_status : Raced → Status
race_status raced = if raced.agree then status.Done else status.Failed

-- a fault is told by its name
abbrev pub TellsFault : (name : List ℕ) → (told told' : Known) → Result Status ScriptFault → Type 0
TellsFault name told told' result = Tells (codes "fault " ++ name ++ line_feed, status.Failed) told told' result

-- the line was written, or cut short by a fault
abbrev pub TellsWritten : Raced → Result Unit ScriptFault → (told told' : Known) → Result Status ScriptFault → Type 0
TellsWritten raced (Ok done) told told' result = Tells ([], race_status raced) told told' result
TellsWritten raced (Err fault) told told' result = TellsFault (script_fault_text fault) told told' result

-- what is told: on standard output the line of a race that has a result, and on standard error a fault
abbrev pub TellsRace : Result Raced RaceFault → (held held' told told' : Known) → Result Status ScriptFault → Type 0
TellsRace (Ok raced) held held' told told' result =
    (end : Result Unit ScriptFault) × Writes held held' (race_text raced ++ line_feed) [] end × TellsWritten raced end told told' result
TellsRace (Err fault) held held' told told' result = Appends held held' [] × TellsFault (race_fault_text fault) told told' result
