-- Each is found again from what is told of it.
use Rattle.mt_event.proofs.TellLemmas.{told_answers_are_one, told_events_are_one}
use Rattle.mt_event.proofs.laws.events_and_answers_are_told_in_full.Goals as goal

pub returns-clause-events : goal.returns-clause-events
returns-clause-events c = told_events_are_one

pub returns-clause-answers : goal.returns-clause-answers
returns-clause-answers c = told_answers_are_one
