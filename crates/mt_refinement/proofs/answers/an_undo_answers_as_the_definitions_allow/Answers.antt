-- The tests are the same ones, and what they let pass is done.
use Rattle.mt_stands.specs.Base.{workflow_at}
use Rattle.mt_refinement.proofs.AnswerUndoLemmas.{undo_answers, undo_same}
use Rattle.mt_refinement.proofs.answers.an_undo_answers_as_the_definitions_allow.Goals as goal

pub returns : goal.returns
returns c = record {
  answers = λ p scopes old new stands workflow at answer undoes. undo_answers p scopes old new stands workflow at answer undoes;
  unchanged = λ old new workflow at r undoes. undo_same old new at r (workflow_at old.base.workflows workflow) undoes;
}
