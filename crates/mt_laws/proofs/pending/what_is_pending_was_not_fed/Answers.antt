-- The stream that reads the owner stands at the position of the invariant, whether it runs or not.
use Rattle.mt_laws.proofs.PendingReadLemmas.{all_fed, behind_if_any, none_pending, pending_counted, pending_not_fed}
use Rattle.mt_laws.proofs.pending.what_is_pending_was_not_fed.Goals as goal

pub returns : goal.returns
returns c = record {
  one_for_one = pending_not_fed;
  counted = pending_counted;
  level = λ p reached name w live shard lane found stream s there reads.
      (none_pending p reached name w live shard lane found stream s there reads, all_fed p reached name w live shard lane found stream s there reads);
  behind = behind_if_any;
}
