-- No test refuses it, and nothing else can.
use Rattle.mt_site.proofs.GivenUpLemmas.{given_up}
use Rattle.mt_site.proofs.given_up.a_move_can_be_given_up.Goals as goal

pub returns : goal.returns
returns g c = λ old new event answer applies can. given_up (g.W.Asks.scopes c.args.watchers.now) (g.W.Asks.may_answer c.args.watchers.now) old new event answer applies can
