-- None so far has the scope.
use Rattle.mt_watch.proofs.AskLemmas.{LacksBelow}
use Rattle.mt_run.proofs.tellers.TellersAsks.has.Given as goal

abbrev pub invariant-loop-own : goal.invariant-loop-own
invariant-loop-own l = LacksBelow l.self.scopes.items l.scope l.own-index
