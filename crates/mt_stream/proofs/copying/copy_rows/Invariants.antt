use Rattle.mt_stream.specs.Streams.{IsPlaced, copied_from}
use Rattle.mt_stream.proofs.CopyLemmas.{Copying}
use Rattle.mt_stream.proofs.copying.copy_rows.Given as goal

abbrev pub invariant-loop-copied : goal.invariant-loop-copied
invariant-loop-copied l = record {
  placed : IsPlaced l.tables l.range;
  copying : Copying l.keys l.tables (copied_from l.tables l.fn.range) l.source l.fn.sink l.max l.copied (copied_from l.tables l.range) l.sink;
}
