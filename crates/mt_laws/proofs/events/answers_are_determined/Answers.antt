-- By cases on the answer, and on what refuses.
use Rattle.mt_laws.proofs.AnswerLemmas.{answer_from_answers, answers-answer_of}
use Rattle.mt_laws.proofs.events.answers_are_determined.Goals as goal

pub returns-clause-one_at_most : goal.returns-clause-one_at_most
returns-clause-one_at_most c = answer_from_answers

pub returns-clause-one_at_least : goal.returns-clause-one_at_least
returns-clause-one_at_least c = answers-answer_of
