use Rattle.mt_laws.proofs.ReadLemmas.{reads_between, writes_between}
use Rattle.mt_laws.proofs.rows.neither_side_serves_between_the_refreshes.Goals as goal

pub returns : goal.returns
returns c = record { writes = writes_between; reads = reads_between }
