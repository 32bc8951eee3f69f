-- A step alone changes the journal, by whether it is the journal's.
use Rattle.mt_laws.proofs.NoJournalLemmas.{journal_counted}
use Rattle.mt_laws.proofs.steps.the_journal_has_an_entry_for_each_such_step.Goals as goal

pub returns : goal.returns
returns c = journal_counted
