-- A run without lines.
use Rattle.std.proofs.Common.{[], subst}
use Rattle.mt_run.specs.LineRuns.{SoFar}
use Rattle.mt_run.proofs.LineRunLemmas.{begins}
use Rattle.mt_run.proofs.line_run.LineRun.open.Goals as goal

pub returns-clause-begins : goal.returns-clause-begins
returns-clause-begins g c =
    subst (λ w. SoFar (g.A.Asks.scopes w) [] [] c.open.result.site.core) c.open.ensures.watchers (begins (g.A.Asks.scopes c.open.result.site.watchers) c.open.result.site.core c.open.ensures.stands)
