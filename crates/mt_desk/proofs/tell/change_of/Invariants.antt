-- The entries before this one are in the change.
use Rattle.std.proofs.Common.{◌≡◌, take}
use Rattle.mt_desk.proofs.tell.change_of.Given as goal

abbrev pub invariant-loop-entry : goal.invariant-loop-entry
invariant-loop-entry l = l.change ≡ take l.entry-index l.entries
