-- What isn't shared may stand apart, and then nothing has changed; the answer to an undo or a Cancel is always shared.
use Rattle.std.proofs.Common.{◌≡◌, Bool, true, false, refl, subst, sym}
use Rattle.std.proofs.lemmas.Bool.{true≢false}
use Rattle.std.proofs.lemmas.Result.{err_from_is_err_and}
use Rattle.mt_event.specs.Asks.{event_of_ask}
use Rattle.mt_event.specs.CompactAnswers.{may_stand_apart}
use Rattle.mt_event.specs.Events.{answer_from}
use Rattle.mt_site.specs.Applied.{Applied}
use Rattle.mt_desk.proofs.AnswerLemmas.{answer_in_place, nothing_changed}
use Rattle.mt_desk.proofs.answered.answered.Given.{Over}
use Rattle.mt_desk.proofs.answered.answered.Goals as goal

-- what was applied, with the answer that is kept
applied : (g : Over) (c : goal.Joined-answer g)
    → Applied (g.W.Asks.scopes c.args.watchers.now) (g.W.Asks.may_answer c.args.watchers.now) c.args.core.now (event_of_ask c.args.ask) (answer_from c.in_ok-answer.answer) c.apply-told.new.self
applied g c =
    subst (λ a. Applied (g.W.Asks.scopes c.args.watchers.now) (g.W.Asks.may_answer c.args.watchers.now) c.args.core.now (event_of_ask c.args.ask) a c.apply-told.new.self)
    (sym c.in_ok-answer.ensures.answer) c.apply-told.ensures

pub returns-in_err-again-clause-none : goal.returns-in_err-again-clause-none
returns-in_err-again-clause-none g c =
    let e = err_from_is_err_and c.from_residual-in_err-again.result c.from_residual-in_err-again.ensures.1 in
    rw e.1 (nothing_changed (g.W.Asks.scopes c.args.watchers.now) (g.W.Asks.may_answer c.args.watchers.now) c.args.core.now c.apply-told.new.self c.requires.stood (event_of_ask c.args.ask) c.in_ok-answer.answer (applied g c)
    (by (may_stand_apart c.in_ok-answer.answer) refl))
  where
    by : (b : Bool) → may_stand_apart c.in_ok-answer.answer ≡ b → may_stand_apart c.in_ok-answer.answer ≡ true
    by true is = is
    by false is = absurd (true≢false (sym (c.in_err-again.ensures.in_place is)))

pub returns-in_err-again-clause-in_place : goal.returns-in_err-again-clause-in_place
returns-in_err-again-clause-in_place g c = λ is.
    absurd (true≢false (sym (c.in_err-again.ensures.in_place (answer_in_place (g.W.Asks.scopes c.args.watchers.now) c.args.core.now c.apply-told.new.self c.requires.stood (event_of_ask c.args.ask) c.in_ok-answer.answer
    (applied g c).steps is))))
