-- What reading a script, and writing its output, do to the bytes of a reader and of a writer.
use Rattle.std.specs.Prelude.{◌≡◌, ◌≢◌, ℕ, ◌+◌, ◌≤◌, ◌<◌, List, [], ◌++◌, length, take, codes, Option, Result, Ok, Err}
use Rattle.std.specs.Io.KnownBytes.{Appends, Consumes, IsAtEnd, Keeps}
use Rattle.mt_plain.specs.Output.{MAX_SCRIPT_LENGTH}
use Rattle.mt_script.specs.declared.reading.Progress.{Progress}
use Rattle.mt_script.specs.declared.reading.Progress.TheVariants as progress
use Rattle.mt_script.specs.declared.fault.ScriptFault.{ScriptFault}
use Rattle.mt_script.specs.declared.fault.ScriptFault.TheVariants as fault

abbrev pub script_fault_text : ScriptFault → List ℕ
script_fault_text fault.Memory = codes "Memory"
script_fault_text fault.Read = codes "Read"
script_fault_text fault.Write = codes "Write"
script_fault_text fault.TooLong = codes "TooLong"

-- what is known of the bytes that a reader has left, or a writer holds
abbrev pub Known : Type 0
Known = Option (List ℕ)

-- ---- reading

-- the most bytes that one read gives
abbrev pub longest_piece : ℕ
longest_piece = 16384

-- a fault of one read: nothing was read where the reader failed, a piece where no memory was left for it
abbrev pub HasReadMore : ScriptFault → List ℕ → Type 0
HasReadMore fault.Memory more = length more ≤ longest_piece
HasReadMore fault.Read more = more ≡ []
HasReadMore fault.Write more = ⊥
HasReadMore fault.TooLong more = ⊥

-- one read adds to the script what it gave, which is nothing at the end; a fault leaves the script as it was
abbrev pub ReadsMore : Known → Known → (old new : List ℕ) → Result Progress ScriptFault → Type 0
ReadsMore left left' old new (Ok progress.Whole) = (new ≡ old) × Keeps left left' × IsAtEnd left'
ReadsMore left left' old new (Ok progress.More) = (more : List ℕ) × Consumes left left' more × (length more ≤ longest_piece) × (new ≡ old ++ more)
ReadsMore left left' old new (Err f) = (more : List ℕ) × Consumes left left' more × HasReadMore f more × (new ≡ old)

-- how much was read where a script isn't read whole: reading ends with the piece that makes the script too long
abbrev pub HasRead : ScriptFault → List ℕ → Type 0
HasRead fault.Memory input = length input ≤ MAX_SCRIPT_LENGTH + longest_piece
HasRead fault.Read input = length input ≤ MAX_SCRIPT_LENGTH
HasRead fault.Write input = ⊥
HasRead fault.TooLong input = (MAX_SCRIPT_LENGTH < length input) × (length input ≤ MAX_SCRIPT_LENGTH + longest_piece)

-- the whole script was read; or a part of it, and there is no script
abbrev pub Reads : Known → Known → Result (List ℕ) ScriptFault → Type 0
Reads left left' (Ok script) = Consumes left left' script × IsAtEnd left' × (length script ≤ MAX_SCRIPT_LENGTH)
Reads left left' (Err f) = (input : List ℕ) × Consumes left left' input × HasRead f input

-- ---- writing

-- of some bytes the first went out, and the others did not
abbrev pub GoesOut : Known → Known → (all rest : List ℕ) → Type 0
GoesOut held held' all rest = (written : List ℕ) × Appends held held' written × (all ≡ written ++ rest)

-- one write takes some of the bytes, or none
abbrev pub WritesSome : Known → Known → (bytes : List ℕ) → Result ℕ ScriptFault → Type 0
WritesSome held held' bytes (Ok count) = (count ≤ length bytes) × Appends held held' (take count bytes)
WritesSome held held' bytes (Err f) = (f ≡ fault.Write) × Appends held held' []

-- of some bytes the first went out, and at least one did not
abbrev pub IsCutShort : Known → Known → (all : List ℕ) → Type 0
IsCutShort held held' all = (rest : List ℕ) × (rest ≢ []) × GoesOut held held' all rest

-- of all bytes that were to be written so far, those that wait are not written yet. A write fault cuts them short, and
-- nothing waits
abbrev pub Writes : Known → Known → (all waiting : List ℕ) → Result Unit ScriptFault → Type 0
Writes held held' all waiting (Ok done) = GoesOut held held' all waiting
Writes held held' all waiting (Err f) = (f ≡ fault.Write) × (waiting ≡ []) × IsCutShort held held' all

-- a script that was read to its end
abbrev pub IsWhole : Known → List ℕ → Type 0
IsWhole left' input = IsAtEnd left' × (length input ≤ MAX_SCRIPT_LENGTH)
