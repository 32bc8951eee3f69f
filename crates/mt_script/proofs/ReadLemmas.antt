-- How much was read where a read fails.
use native.Mathlib.Omega.{arith}
use Rattle.std.proofs.Common.{ℕ, ◌+◌, ◌≤◌, List, ◌++◌, length, append-nil}
use Rattle.std.proofs.lemmas.List.{length-append}
use Rattle.mt_plain.specs.Output.{MAX_SCRIPT_LENGTH}
use Rattle.mt_script.specs.declared.fault.ScriptFault.{ScriptFault}
use Rattle.mt_script.specs.declared.fault.ScriptFault.TheVariants as fault
use Rattle.mt_script.specs.Bytes.{HasRead, HasReadMore, longest_piece}

pub longer_by_piece : (script more : List ℕ) → length script ≤ MAX_SCRIPT_LENGTH → length more ≤ longest_piece → length (script ++ more) ≤ MAX_SCRIPT_LENGTH + longest_piece
longer_by_piece script more short piece = rw (length-append script more) (omega (arith, short, piece))

pub has_read_more : (f : ScriptFault) (script more : List ℕ) → length script ≤ MAX_SCRIPT_LENGTH → HasReadMore f more → HasRead f (script ++ more)
has_read_more fault.Memory script more short piece = longer_by_piece script more short piece
has_read_more fault.Read script more short none = rw (none, append-nil script) short
has_read_more fault.Write script more short impossible = absurd impossible
has_read_more fault.TooLong script more short impossible = absurd impossible
