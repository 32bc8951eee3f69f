-- The first is one of those that are left.
use Rattle.std.proofs.Common.{◌≡◌, find, drop}
use Rattle.mt_workflow.specs.Creates.{leads_elsewhere}
use Rattle.mt_workflow.proofs.creating.conflict.Given as goal

abbrev pub invariant-loop-key : goal.invariant-loop-key
invariant-loop-key l = find (leads_elsewhere l.rules l.source l.table) l.keys ≡ find (leads_elsewhere l.rules l.source l.table) (drop l.key-index l.keys)
