-- With the keys that are left, what was found leads to what all of them do.
use Rattle.std.proofs.Common.{◌≡◌, None, option_copied}
use Rattle.mt_rules.specs.Places.{listed}
use Rattle.mt_rules.specs.Walk.{nearest}
use Rattle.mt_rules.proofs.walk.after.Given as goal

abbrev pub invariant-loop-name : goal.invariant-loop-name
invariant-loop-name l = nearest (option_copied l.last) l.next (listed l.name-iterator) ≡ nearest (option_copied l.last) None (listed l.names.entries)
