-- The tests are the same ones.
use Rattle.mt_refinement.proofs.AnswerBeginLemmas.{reverse_answers, switch_answers}
use Rattle.mt_refinement.proofs.answers.a_begin_answers_as_the_definitions_allow.Goals as goal

pub returns : goal.returns
returns c = record {
  switch = λ p scopes old new stands workflow types answer begins. switch_answers p scopes old new stands workflow types answer begins;
  reverse = λ p scopes old new stands workflow types answer begins. reverse_answers p scopes old new stands workflow types answer begins;
}
