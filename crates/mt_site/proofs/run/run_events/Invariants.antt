-- The events before this one are applied, and there is room for all their answers.
use Rattle.std.proofs.Common.{◌≡◌, ◌≤◌, length, take}
use Rattle.std.specs.Vec.{vec_capacity}
use Rattle.mt_stands.specs.Purges.{IsPurged}
use Rattle.mt_site.specs.Runs.{Runs}
use Rattle.mt_site.proofs.run.run_events.Given as goal

abbrev pub invariant-loop-event : goal.invariant-loop-event
invariant-loop-event g l = record {
  room : length l.fn.events ≤ vec_capacity l.answers;
  count : length l.answers.items ≡ l.event-index;
  watchers : l.site.watchers ≡ l.fn.site.watchers;
  runs : Runs (g.W.Asks.scopes l.fn.site.watchers) l.fn.site.core (take l.event-index l.fn.events) l.answers.items l.site.core;
  purged : IsPurged l.fn.site.core.base → IsPurged l.site.core.base;
}
