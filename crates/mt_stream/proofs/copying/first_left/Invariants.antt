use Rattle.std.proofs.Common.{◌≡◌, drop}
use Rattle.mt_stream.specs.Advance.{rows_left}
use Rattle.mt_stream.specs.Streams.{copied_from}
use Rattle.mt_stream.proofs.LeftLemmas.{rows_from}
use Rattle.mt_stream.proofs.copying.first_left.Given as goal

abbrev pub invariant-loop-place : goal.invariant-loop-place
invariant-loop-place l = rows_left l.source l.keys l.tables (copied_from l.tables l.fn.range) ≡ rows_from l.source l.keys (drop l.place l.tables) l.behind
