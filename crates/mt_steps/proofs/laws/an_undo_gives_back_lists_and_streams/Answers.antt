-- The lemmas say it.
use Rattle.mt_steps.proofs.GivenLemmas.{given_at_once, given_later, given_to_no_other, slots_again}
use Rattle.mt_steps.proofs.laws.an_undo_gives_back_lists_and_streams.Goals as goal

pub returns-clause-at_once : goal.returns-clause-at_once
returns-clause-at_once g c = given_at_once (g.W.Asks.scopes c.args.watchers.now) (g.W.Asks.may_answer c.args.watchers.now)

pub returns-clause-later : goal.returns-clause-later
returns-clause-later g c = given_later (g.W.Asks.scopes c.args.watchers.now) (g.W.Asks.may_answer c.args.watchers.now)

pub returns-clause-no_other : goal.returns-clause-no_other
returns-clause-no_other g c = given_to_no_other

pub returns-clause-streams : goal.returns-clause-streams
returns-clause-streams g c = slots_again
