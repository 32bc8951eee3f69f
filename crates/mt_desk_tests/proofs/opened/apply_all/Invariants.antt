-- There is still a state that the controller stands for.
use Rattle.mt_site.specs.Stood.{IsCoreWith}
use Rattle.mt_desk_tests.proofs.opened.apply_all.Given as goal

abbrev pub invariant-loop-line : goal.invariant-loop-line
invariant-loop-line g l = record {
  stood : IsCoreWith (g.W.Asks.scopes l.fn.site.watchers) l.fn.site.core → IsCoreWith (g.W.Asks.scopes l.site.watchers) l.site.core;
}
