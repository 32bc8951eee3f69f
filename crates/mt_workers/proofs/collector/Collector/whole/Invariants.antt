-- All lines of the workers before this one are there.
use Rattle.std.proofs.Common.{◌<◌, ℕ, get_or}
use Rattle.mt_workers.specs.Collected.{HasFirst}
use Rattle.mt_workers.proofs.collector.Collector.whole.Given as goal

abbrev pub invariant-loop-worker : goal.invariant-loop-worker
invariant-loop-worker l = (w : ℕ) → w < l.worker → HasFirst l.self w (get_or l.lines w 0)
