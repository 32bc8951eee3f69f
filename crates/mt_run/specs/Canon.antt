-- Documents that are read, and written in their canonical form.
use Rattle.std.specs.Prelude.{◌≡◌, ◌⊎◌, ⊤, ℕ, Bool, true, false, List, [], ◌++◌, Result, Ok, Err, string_bytes}
use Rattle.std.specs.Io.KnownBytes.{Appends, Consumes}
use Rattle.mt_model.specs.Documents.{dump_text, rules_text}
use Rattle.mt_model.specs.Faults.{topology_fault_text}
use Rattle.mt_rules.specs.Read.{rules_of_text}
use Rattle.mt_rules.specs.Rules.{rules_fault_text}
use Rattle.mt_topology.specs.Dump.{topology_of_text}
use Rattle.mt_plain.specs.Output.{line_feed, refused_text}
use Rattle.mt_script.specs.declared.fault.ScriptFault.{ScriptFault}
use Rattle.mt_script.specs.declared.fault.ScriptFault.TheVariants as fault
use Rattle.mt_script.specs.Bytes.{HasRead, IsCutShort, IsWhole, Known}
use Rattle.mt_run.specs.declared.canon.Canon as code
use Rattle.mt_run.specs.declared.canon.Canon.TheVariants as canon

-- what becomes of a document that was read: a line, and whether it is the document's canonical form or its refusal
abbrev pub canon_of : {A F : Type 0} → (A → List ℕ) → (F → List ℕ) → Result A F → List ℕ × Bool
canon_of written why (Ok document) = (written document, true)
canon_of written why (Err fault) = (refused_text (why fault), false)

-- of the text of rules
abbrev pub rules_canon : List ℕ → List ℕ × Bool
rules_canon text = canon_of rules_text rules_fault_text (rules_of_text text)

-- of the text of a dump
abbrev pub dump_canon : List ℕ → List ℕ × Bool
dump_canon text = canon_of dump_text topology_fault_text (topology_of_text text)

-- the code's word for what becomes of a document; that there was no memory is said of any
abbrev pub IsCanon : List ℕ × Bool → code.Canon → Type 0
IsCanon due (canon.Taken text) = due ≡ (string_bytes text, true)
IsCanon due (canon.Refused refusal) = due ≡ (refused_text refusal.now, false)
IsCanon due canon.NoMemory = ⊤

-- the line is written, and the answer says which it is; a write fault cuts it short, and without memory nothing is written
abbrev pub WritesLine : List ℕ × Bool → (held held' : Known) → Result Bool ScriptFault → Type 0
WritesLine due held held' (Ok is_taken) = (is_taken ≡ due.1) × Appends held held' (due.0 ++ line_feed)
WritesLine due held held' (Err fault.Write) = IsCutShort held held' (due.0 ++ line_feed)
WritesLine due held held' (Err fault.Memory) = Appends held held' []
WritesLine due held held' (Err fault.Read) = ⊥
WritesLine due held held' (Err fault.TooLong) = ⊥

-- a text is read whole, and what becomes of it is written. Where reading ends early, or there is no memory, nothing is written
abbrev pub WritesCanon : (List ℕ → List ℕ × Bool) → (left left' held held' : Known) → Result Bool ScriptFault → Type 0
WritesCanon due left left' held held' (Ok is_taken) =
    (input : List ℕ) × Consumes left left' input × IsWhole left' input × WritesLine (due input) held held' (Ok is_taken)
WritesCanon due left left' held held' (Err fault.Write) =
    (input : List ℕ) × Consumes left left' input × IsWhole left' input × WritesLine (due input) held held' (Err fault.Write)
WritesCanon due left left' held held' (Err fault.Memory) =
    (input : List ℕ) × Consumes left left' input × (HasRead fault.Memory input ⊎ IsWhole left' input) × Appends held held' []
WritesCanon due left left' held held' (Err fault.Read) = (input : List ℕ) × Consumes left left' input × HasRead fault.Read input × Appends held held' []
WritesCanon due left left' held held' (Err fault.TooLong) = (input : List ℕ) × Consumes left left' input × HasRead fault.TooLong input × Appends held held' []
