-- What was added, and what is still to be.
use Rattle.std.proofs.Common.{◌≡◌, ◌++◌, drop, map}
use Rattle.mt_model.specs.Part.{rule_routes}
use Rattle.mt_rules.specs.Walk.{listed_entry}
use Rattle.mt_rules.proofs.rules.RoutingRules.push_routes.Given as goal

abbrev pub invariant-loop-place : goal.invariant-loop-place
invariant-loop-place l = l.list.items ++ rule_routes (map listed_entry (drop l.place-index l.place-items)) ≡ l.fn.list.items ++ rule_routes l.self
