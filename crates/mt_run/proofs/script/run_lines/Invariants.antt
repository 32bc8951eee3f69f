-- The watchers stay, and the first lines are done; what is left of the script loses a line each time.
use Rattle.std.proofs.Common.{◌≡◌, [], length}
use Rattle.std.specs.Str.Lines.{lines}
use Rattle.mt_run.specs.LineRuns.{SoFar}
use Rattle.mt_run.proofs.LineRunLemmas.{Halfway}
use Rattle.mt_run.proofs.script.run_lines.Given as goal

abbrev pub invariant-loop-line : goal.invariant-loop-line
invariant-loop-line g l =
    let scopes = g.A.Asks.scopes l.fn.run.cached.site.watchers in
    record {
      watchers : l.run.cached.site.watchers ≡ l.fn.run.cached.site.watchers;
      halfway : SoFar scopes [] [] l.fn.run.cached.site.core
          → Halfway scopes l.fn.script l.rest l.run.cached.site.core (g.W.Write.contents l.fn.writer) (g.W.Write.contents l.writer) l.waiting.items;
    }

abbrev pub decreases-loop-line : goal.decreases-loop-line
decreases-loop-line g l = length (lines l.rest)
