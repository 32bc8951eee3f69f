-- The key of the place before the next one.
use Rattle.std.proofs.Common.{◌≡◌}
use Rattle.mt_rules.proofs.WalkLemmas.{key_until}
use Rattle.mt_rules.proofs.rules.RoutingRules.place.Given as goal

abbrev pub invariant-loop : goal.invariant-loop
invariant-loop l = l.last ≡ key_until l.self l.counter
