-- The map has the line, once, or hasn't.
use Rattle.mt_workers.proofs.CollectedLemmas.{told}
use Rattle.mt_workers.proofs.collector.Collector.has.Goals as goal

pub returns : goal.returns
returns c =
    told c.args.self.now c.self.inside.lines.items c.self.inside.replies.entries c.args.worker c.args.line c.contains_key.result c.self.view_is c.self.invariant c.contains_key.ensures
