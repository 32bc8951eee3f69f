-- The places of the names so far, and those that are left, are all of them.
use Rattle.std.proofs.Common.{◌≡◌, ◌++◌, map}
use Rattle.mt_rules.specs.Places.{listed}
use Rattle.mt_rules.specs.Walk.{listed_entry}
use Rattle.mt_rules.proofs.walk.by_name.Given as goal

abbrev pub invariant-loop-name : goal.invariant-loop-name
invariant-loop-name l = map listed_entry l.list.items ++ listed l.name-iterator ≡ listed l.names.entries
