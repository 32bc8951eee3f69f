-- By induction on the lines, and on the turns of a drive.
use Rattle.mt_laws.proofs.ScriptAnswerLemmas.{answers_decide}
use Rattle.mt_laws.proofs.ScriptRunLemmas.{output_keeps_the_headline, output_was_a_run, run_wrote, script_is_a_run, script_keeps_the_headline, script_run_keeps_the_headline}
use Rattle.mt_laws.proofs.scripts.each_output_is_that_of_a_run.Goals as goal

pub returns-clause-from_each_state : goal.returns-clause-from_each_state
returns-clause-from_each_state c = output_was_a_run

pub returns-clause-and_back : goal.returns-clause-and_back
returns-clause-and_back c = run_wrote

pub returns-clause-is_a_run : goal.returns-clause-is_a_run
returns-clause-is_a_run c = script_is_a_run

pub returns-clause-headline : goal.returns-clause-headline
returns-clause-headline c = script_keeps_the_headline

pub returns-clause-headline_from_each_state : goal.returns-clause-headline_from_each_state
returns-clause-headline_from_each_state c = output_keeps_the_headline

pub returns-clause-answers_decide : goal.returns-clause-answers_decide
returns-clause-answers_decide c = answers_decide

pub returns-clause-headline_of_each_run : goal.returns-clause-headline_of_each_run
returns-clause-headline_of_each_run c = script_run_keeps_the_headline
