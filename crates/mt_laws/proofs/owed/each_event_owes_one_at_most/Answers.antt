-- One workflow is changed at most, and what is owed to it follows from its way.
use Rattle.std.proofs.Common.{refl}
use Rattle.mt_laws.proofs.OwedLemmas.{owed_bounded, owed_by_cancel, owed_by_undo, owed_grows}
use Rattle.mt_laws.proofs.owed.each_event_owes_one_at_most.Goals as goal

pub returns : goal.returns
returns c = record { undo = owed_by_undo; cancel = owed_by_cancel; others = owed_grows; bounded = owed_bounded; refused = λ p event refusal. refl }
