-- Of the lines before this one, those of the client are of the calls that were read.
use Rattle.std.proofs.Common.{◌≡◌, ◌≤◌, length, take}
use Rattle.mt_desk.specs.Histories.{calls_of}
use Rattle.mt_desk.proofs.reading.has_calls.Given as goal

abbrev pub invariant-loop-line : goal.invariant-loop-line
invariant-loop-line l = record {
  inside : l.read ≤ length l.fn.calls;
  same : calls_of l.fn.client (take l.line-index l.fn.history) ≡ take l.read l.fn.calls;
}
