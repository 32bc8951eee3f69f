-- The tests are the same ones.
use Rattle.mt_refinement.proofs.AnswerBeginLemmas.{complete_answers}
use Rattle.mt_refinement.proofs.answers.a_complete_answers_as_the_definitions_allow.Goals as goal

pub returns : goal.returns
returns c = λ p scopes old new stands workflow answer completes. complete_answers p scopes old new stands workflow answer completes
