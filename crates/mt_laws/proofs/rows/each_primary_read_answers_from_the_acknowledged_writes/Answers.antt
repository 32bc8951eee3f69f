-- A side that answers such a read is the owner, whose rows are the client table's.
use Rattle.mt_laws.proofs.ReadLemmas.{primary_reads, primary_reads-run}
use Rattle.mt_laws.proofs.rows.each_primary_read_answers_from_the_acknowledged_writes.Goals as goal

pub returns : goal.returns
returns c = record { each_once = primary_reads-run; as_it_is = primary_reads }
