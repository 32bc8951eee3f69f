-- The watchers are those that there were.
use Rattle.std.proofs.Common.{subst, sym}
use Rattle.mt_site.specs.Stood.{IsCoreWith}
use Rattle.mt_desk_tests.proofs.opened.answer.Goals as goal

pub returns : goal.returns
returns g c = λ was. subst (λ w. IsCoreWith (g.W.Asks.scopes w) c.apply.new.self.core) (sym c.apply.ensures.watchers) (c.apply.ensures.applied.stood was)
