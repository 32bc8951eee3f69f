-- By induction on the run.
use Rattle.mt_laws.proofs.RunLemmas.{client_row-run, row-run}
use Rattle.mt_laws.proofs.runs.reads_answer_the_acknowledged_writes.Goals as goal

pub returns-clause-from_the_opening : goal.returns-clause-from_the_opening
returns-clause-from_the_opening c = client_row-run

pub returns-clause-from_each_state : goal.returns-clause-from_each_state
returns-clause-from_each_state c = λ p events answers run number key. row-run events answers p number key run
