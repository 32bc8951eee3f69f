-- The lines before this one are there.
use Rattle.mt_workers.specs.Collected.{HasFirst}
use Rattle.mt_workers.proofs.collector.Collector.has_first.Given as goal

abbrev pub invariant-loop-line : goal.invariant-loop-line
invariant-loop-line l = HasFirst l.self l.worker l.line
