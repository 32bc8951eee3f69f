-- What was counted, and what is left, is the number of all rules.
use Rattle.std.proofs.Common.{◌≡◌, ◌+◌}
use Rattle.mt_rules.specs.Places.{listed}
use Rattle.mt_rules.proofs.WalkLemmas.{number}
use Rattle.mt_rules.proofs.walk.rule_count.Given as goal

abbrev pub invariant-loop-places : goal.invariant-loop-places
invariant-loop-places l = l.count + number (listed l.places-iterator) ≡ number (listed l.names.entries)
