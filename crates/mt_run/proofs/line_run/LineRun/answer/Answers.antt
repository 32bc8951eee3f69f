-- A line that is answered is run behind those before it.
use Rattle.mt_run.proofs.LineRunLemmas.{adds_line}
use Rattle.mt_run.proofs.line_run.LineRun.answer.Goals as goal

pub returns-clause-adds : goal.returns-clause-adds
returns-clause-adds g c =
    adds_line (g.A.Asks.scopes c.args.self.now.cached.site.watchers) c.args.line.now c.args.self.now.cached.site.core c.run_line.new.cached.site.core
    c.args.waiting.now.items c.run_line.new.waiting.items c.run_line.result c.run_line.ensures.runs
