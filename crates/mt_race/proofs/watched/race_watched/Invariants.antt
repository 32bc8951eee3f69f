-- The watchers so far have the scopes so far.
use Rattle.std.proofs.Common.{◌≡◌, map, take}
use Rattle.mt_race.proofs.watched.race_watched.Given as goal

abbrev pub invariant-loop-scope : goal.invariant-loop-scope
invariant-loop-scope g l = map (λ watcher. watcher.scope) l.watchers.all.items ≡ take l.scope-index l.scope-items
