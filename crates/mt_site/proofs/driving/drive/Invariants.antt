-- The watchers stay, and the core stays one; the drive is on its way, and has as many turns left as were not taken.
use Rattle.std.proofs.Common.{◌≡◌, ◌-◌}
use Rattle.mt_plain.specs.Drive.{begins}
use Rattle.mt_site.specs.Drives.{IsOnItsWay, turn_from}
use Rattle.mt_site.specs.Stood.{StaysCore}
use Rattle.mt_site.proofs.driving.drive.Given as goal

abbrev pub invariant-loop : goal.invariant-loop
invariant-loop g l = record {
  watchers : l.site.watchers ≡ l.fn.site.watchers;
  way : IsOnItsWay (g.W.Asks.scopes l.fn.site.watchers) l.fn.site.core (begins l.fn.workflow l.fn.types l.fn.back) (1400 - l.counter) (turn_from l.fn.workflow l.turn) l.site.core;
  stays : StaysCore (g.W.Asks.scopes l.fn.site.watchers) l.fn.site.core l.site.core;
}
