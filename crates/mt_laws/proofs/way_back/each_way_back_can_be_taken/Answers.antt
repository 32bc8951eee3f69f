-- Computed, event by event.
use Rattle.mt_laws.proofs.WitnessLemmas.{a_cancel, a_reversal, an_undo}
use Rattle.mt_laws.proofs.way_back.each_way_back_can_be_taken.Goals as goal

pub returns : goal.returns
returns c = record { cancel = a_cancel; undo = an_undo; reversal = a_reversal }
