use Rattle.mt_primary.specs.Reads.{entries_from}
use Rattle.mt_stream.specs.Streams.{copied_from}
use Rattle.mt_stream.proofs.ReadLemmas.{Reading}
use Rattle.mt_stream.proofs.following.read_entries.Given as goal

abbrev pub invariant-loop-read : goal.invariant-loop-read
invariant-loop-read l = Reading l.filter.keys.now l.filter.tables.now (copied_from l.filter.tables.now l.filter.range) (entries_from l.source l.position) l.fn.sink l.max l.read l.written l.sink
