-- A purge leaves less than a segment below what is needed, and a write moves that by an entry at most.
use Rattle.mt_refinement.proofs.PurgedLemmas.{all-purged, written-purged}
use Rattle.mt_refinement.proofs.purging.what_is_purged_stays_purged.Goals as goal

pub returns : goal.returns
returns c = record { all = all-purged; written = written-purged }
