-- The book has no line when it is opened, and the core that it is opened for.
use Rattle.std.proofs.Common.{subst}
use Rattle.mt_desk_tests.specs.GivenUp.{AreGivenUp, AreListed}
use Rattle.mt_desk_tests.proofs.GivingUpLemmas.{two_in_all}
use Rattle.mt_desk_tests.proofs.giving_up.give_up_anew.Goals as goal

pub returns-clause-given_up : goal.returns-clause-given_up
returns-clause-given_up g c =
    let told = c.give_up.result in
    subst (λ core. AreGivenUp (g.W.Asks.scopes c.args.watchers.now) core c.args.workflow.now c.args.at told.undone told.cancelled) c.in_ok-book.ensures.core c.give_up.ensures.given_up

pub returns-clause-lines : goal.returns-clause-lines
returns-clause-lines g c =
    let told = c.give_up.result in
    let lines = c.give_up.new.book.history.items in
    two_in_all lines c.args.workflow.now c.args.at told.lines told.undone told.cancelled
    (subst (λ before. AreListed before c.args.workflow.now c.args.at told.undone told.cancelled lines) c.in_ok-book.ensures.history c.give_up.ensures.listed) c.give_up.ensures.lines
