-- What was read so far is the script so far.
use Rattle.std.proofs.Common.{◌≤◌, length}
use Rattle.std.specs.Io.KnownBytes.{Consumes}
use Rattle.mt_plain.specs.Output.{MAX_SCRIPT_LENGTH}
use Rattle.mt_script.proofs.reading.read_script.Given as goal

abbrev pub invariant-loop : goal.invariant-loop
invariant-loop g l =
    Consumes (g.R.Read.remaining l.fn.reader) (g.R.Read.remaining l.reader) l.script.items × (length l.script.items ≤ MAX_SCRIPT_LENGTH)
