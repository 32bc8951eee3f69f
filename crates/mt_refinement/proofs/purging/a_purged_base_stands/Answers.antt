-- No stream that is in use stands below what is needed.
use Rattle.mt_refinement.proofs.PurgeLemmas.{all-behind, one-behind, purged-stands}
use Rattle.mt_refinement.proofs.purging.a_purged_base_stands.Goals as goal

pub returns : goal.returns
returns c = record {
  stands = λ p scopes old new stands purges. purged-stands p scopes old stands new purges (c.a_purge_keeps_rows_and_logs.ensures p stands.reached);
  all = λ old new answer. all-behind old new answer;
  one = λ old new keyspace shard answer. one-behind old new keyspace shard answer;
}
