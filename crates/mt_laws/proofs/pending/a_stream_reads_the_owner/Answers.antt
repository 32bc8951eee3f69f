-- Up to the journal it is the one that fed before the way, and from there the one that the way has made.
use Rattle.mt_laws.proofs.OwnerStreamLemmas.{stream_of_the_owner}
use Rattle.mt_laws.proofs.pending.a_stream_reads_the_owner.Goals as goal

pub returns : goal.returns
returns c = record { reads = stream_of_the_owner }
