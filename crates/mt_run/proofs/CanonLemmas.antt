-- A document that was read, and written in its canonical form.
use Rattle.std.proofs.Common.{◌≡◌, ◌++◌, ℕ, Bool, List, [], Result, Ok, Err, sym, subst, inr}
use Rattle.mt_plain.specs.Output.{line_feed}
use Rattle.mt_script.specs.declared.fault.ScriptFault.{ScriptFault}
use Rattle.mt_script.specs.declared.fault.ScriptFault.TheVariants as fault
use Rattle.mt_script.specs.Bytes.{IsCutShort, Known, Reads, Writes}
use Rattle.mt_run.specs.Canon.{WritesCanon, WritesLine}

-- one that is read is written, or finds no memory
pub read_and_written : (due : List ℕ → List ℕ × Bool) (left left' held held' : Known) (text : List ℕ) (result : Result Bool ScriptFault) → Reads left left' (Ok text)
    → WritesLine (due text) held held' result → WritesCanon due left left' held held' result
read_and_written due left left' held held' text (Ok is_taken) read line = (text, read.0, (read.1, read.2), line)
read_and_written due left left' held held' text (Err fault.Write) read line = (text, read.0, (read.1, read.2), line)
read_and_written due left left' held held' text (Err fault.Memory) read none = (text, read.0, inr (read.1, read.2), none)
read_and_written due left left' held held' text (Err fault.Read) read impossible = absurd impossible
read_and_written due left left' held held' text (Err fault.TooLong) read impossible = absurd impossible

-- a line that a write fault cuts short
pub line_failed : (due : List ℕ × Bool) (text : List ℕ) (is_taken : Bool) (held held' : Known) (f : ScriptFault) → due ≡ (text, is_taken) → Writes held held' (text ++ line_feed) [] (Err f)
    → WritesLine due held held' (Err f)
line_failed due text is_taken held held' f is (is_write, none, cut) =
    subst (λ g. WritesLine due held held' (Err g)) (sym is_write) (subst (λ (d : List ℕ × Bool). IsCutShort held held' (d.0 ++ line_feed)) (sym is) cut)
