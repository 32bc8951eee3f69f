-- What was added, and what is still to be.
use Rattle.std.proofs.Common.{◌≡◌, ◌++◌, flat_map}
use Rattle.mt_routes.specs.Differences.{rule_gone}
use Rattle.mt_routes.proofs.differences.push_rules_gone.Given as goal

abbrev pub invariant-loop-key : goal.invariant-loop-key
invariant-loop-key g l = l.list.items ++ flat_map (rule_gone (g.S.Standing.rules l.standing)) l.key-iterator ≡ l.fn.list.items ++ flat_map (rule_gone (g.S.Standing.rules l.standing)) l.rules.entries
