-- What the program does with each command line.
use Rattle.std.specs.Prelude.{◌≡◌, ℕ, Bool, true, false, List, [], ◌++◌, codes, Result, Ok, Err, string_bytes}
use Rattle.std.specs.Io.KnownBytes.{Appends, Consumes}
use Rattle.mt_plain.specs.Output.{line_feed, watchers_of}
use Rattle.mt_choice.specs.declared.choice.Choice.{Choice}
use Rattle.mt_choice.specs.declared.choice.Choice.TheVariants as choice
use Rattle.mt_choice.specs.declared.choice.Wrong.{Wrong}
use Rattle.mt_choice.specs.declared.choice.Wrong.TheVariants as wrong
use Rattle.mt_choice.specs.Texts.{wrong_text}
use Rattle.mt_script.specs.declared.fault.ScriptFault.{ScriptFault}
use Rattle.mt_script.specs.declared.fault.ScriptFault.TheVariants as fault
use Rattle.mt_script.specs.Bytes.{IsCutShort, Known, Writes, script_fault_text}
use Rattle.mt_run.specs.declared.command.Status.{Status}
use Rattle.mt_run.specs.declared.command.Status.TheVariants as status
use Rattle.mt_run.specs.Canon.{WritesCanon, dump_canon, rules_canon}
use Rattle.mt_run.specs.Runs.{Runs}

-- ---- endings: what standard error is told, and the status

abbrev pub Ending : Type 0
Ending = List ℕ × Status

-- a fault is told by its name
abbrev pub ending_of_fault : ScriptFault → Ending
ending_of_fault f = (codes "fault " ++ script_fault_text f ++ line_feed, status.Failed)

-- of a run, or of a text that is written
abbrev pub ending_of_run : Result Unit ScriptFault → Ending
ending_of_run (Ok done) = ([], status.Done)
ending_of_run (Err f) = ending_of_fault f

-- of a document, which is taken or refused
abbrev pub ending_of_document : Result Bool ScriptFault → Ending
ending_of_document (Ok true) = ([], status.Done)
ending_of_document (Ok false) = ([], status.Failed)
ending_of_document (Err f) = ending_of_fault f

-- the words are at fault, or there was no memory to read them
abbrev pub status_of_refusal : Wrong → Status
status_of_refusal wrong.Usage = status.Misused
status_of_refusal (wrong.Words fault) = status.Misused
status_of_refusal wrong.Memory = status.Failed

-- of a command line that asks for nothing
abbrev pub ending_of_refusal : Wrong → Ending
ending_of_refusal w = (wrong_text w ++ line_feed, status_of_refusal w)

-- standard error is told just this, and the status is answered; or a write fault there cuts it short
abbrev pub Tells : Ending → (told told' : Known) → Result Status ScriptFault → Type 0
Tells due told told' (Ok s) = (s ≡ due.1) × Appends told told' due.0
Tells due told told' (Err f) = (f ≡ fault.Write) × IsCutShort told told' due.0

-- ---- the command line

-- the reader's bytes and those on standard output stay as they are
abbrev pub IsUntouched : (left left' held held' : Known) → Type 0
IsUntouched left left' held held' = Consumes left left' [] × Appends held held' []

-- what each choice does to the bytes read, to those on standard output and on standard error. A race isn't run by this call, which
-- refuses it with the usage
abbrev pub Performs : Result Choice Wrong → (left left' held held' told told' : Known) → Result Status ScriptFault → Type 0
Performs (Ok (choice.Run keyspaces)) left left' held held' told told' result =
    (end : Result Unit ScriptFault) × Runs (watchers_of keyspaces.items) left left' held held' end × Tells (ending_of_run end) told told' result
Performs (Ok choice.Rules) left left' held held' told told' result =
    (end : Result Bool ScriptFault) × WritesCanon rules_canon left left' held held' end × Tells (ending_of_document end) told told' result
Performs (Ok choice.Topology) left left' held held' told told' result =
    (end : Result Bool ScriptFault) × WritesCanon dump_canon left left' held held' end × Tells (ending_of_document end) told told' result
Performs (Ok (choice.Race clients writes)) left left' held held' told told' result =
    IsUntouched left left' held held' × Tells (ending_of_refusal wrong.Usage) told told' result
Performs (Ok (choice.Help text)) left left' held held' told told' result =
    (end : Result Unit ScriptFault) × Consumes left left' [] × Writes held held' (string_bytes text) [] end × Tells (ending_of_run end) told told' result
Performs (Err w) left left' held held' told told' result = IsUntouched left left' held held' × Tells (ending_of_refusal w) told told' result
