use Rattle.std.proofs.Common.{map}
use Rattle.mt_watch.proofs.AskLemmas.{LacksBelow}
use Rattle.mt_watch.proofs.watchers.WatchersAsks.has.Given as goal

abbrev pub invariant-loop-watcher : goal.invariant-loop-watcher
invariant-loop-watcher g l = LacksBelow (map (λ w. w.scope) l.self.all.items) l.scope l.watcher-index
