use Rattle.std.proofs.Common.{◌≡◌, ◌*◌}
use Rattle.mt_store.specs.Log.{without_first}
use Rattle.mt_store.proofs.log.Log.purge_below.Given as goal

abbrev pub invariant-loop : goal.invariant-loop
invariant-loop l = l.self.log ≡ without_first (256 * l.counter) l.fn.self.log
