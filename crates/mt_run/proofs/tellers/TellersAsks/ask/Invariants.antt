-- None so far has the scope.
use Rattle.mt_watch.proofs.AskLemmas.{LacksBelow}
use Rattle.mt_run.proofs.tellers.TellersAsks.ask.Given as goal

abbrev pub invariant-loop-index : goal.invariant-loop-index
invariant-loop-index l = LacksBelow l.self.scopes.items l.scope l.index
