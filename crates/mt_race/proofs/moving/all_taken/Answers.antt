-- One more was taken.
use Rattle.std.proofs.Common.{◌≡◌, All, true, subst}
use Rattle.std.proofs.lemmas.List.{take_all}
use Rattle.std.proofs.lemmas.List.Elements.{All-more}
use Rattle.std.specs.Prelude.{is_ok}
use Rattle.mt_race.proofs.RaceLemmas.{ok_of}
use Rattle.mt_race.proofs.moving.all_taken.Goals as goal

pub loop-answer-preserved : goal.loop-answer-preserved
loop-answer-preserved c =
    All-more (λ answer. is_ok answer ≡ true) c.args.answers.now c.loop-answer.answer-index c.answer-item.result c.loop-answer-test.true c.loop-answer.invariant
    (subst (λ answer. is_ok answer ≡ true) c.answer-item.is (ok_of c.answer-item.result c.in_default.not-Err))

pub returns : goal.returns
returns c = subst (All (λ answer. is_ok answer ≡ true)) (take_all c.loop-answer.answer-index c.args.answers.now c.loop-answer-test.false) c.loop-answer.invariant
