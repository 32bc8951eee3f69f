-- The writes that were fed, and behind them those that were not, are all.
use Rattle.mt_laws.proofs.PendingRowLemmas.{catches_up}
use Rattle.mt_laws.proofs.pending.what_was_not_fed_makes_the_rows_of_the_owner.Goals as goal

pub returns : goal.returns
returns c = record { rows = catches_up }
