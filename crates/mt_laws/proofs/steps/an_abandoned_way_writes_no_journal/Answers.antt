-- Behind its journal a way stays behind it as long as it is open, and its undo is refused.
use Rattle.mt_laws.proofs.NoJournalLemmas.{before_it, no_journal}
use Rattle.mt_laws.proofs.TrafficLemmas.{abandon_switched}
use Rattle.mt_laws.proofs.steps.an_abandoned_way_writes_no_journal.Goals as goal

pub returns : goal.returns
returns c = record { journal = no_journal; before_it = before_it; switched = abandon_switched }
