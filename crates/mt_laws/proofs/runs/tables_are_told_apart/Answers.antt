-- By induction on the run: a new table gets a number that none has.
use Rattle.mt_laws.proofs.NumberLemmas.{one_name-run}
use Rattle.mt_laws.proofs.runs.tables_are_told_apart.Goals as goal

pub returns : goal.returns
returns c = one_name-run
