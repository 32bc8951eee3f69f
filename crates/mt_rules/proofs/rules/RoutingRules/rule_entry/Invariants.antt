-- The key of the place before the next one; and it is that of the index among those that are left.
use Rattle.std.proofs.Common.{◌≡◌, drop, slice_get}
use Rattle.mt_model.specs.Part.{rule_routes}
use Rattle.mt_rules.proofs.WalkLemmas.{key_until}
use Rattle.mt_rules.proofs.rules.RoutingRules.rule_entry.Given as goal

abbrev pub invariant-loop : goal.invariant-loop
invariant-loop l = (l.last ≡ key_until l.self l.counter) × (slice_get (rule_routes l.self) l.index ≡ slice_get (rule_routes (drop l.counter l.self)) l.left)
