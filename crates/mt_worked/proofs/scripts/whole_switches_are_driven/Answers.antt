use Rattle.std.proofs.Common.{refl}
use Rattle.mt_worked.proofs.scripts.whole_switches_are_driven.Goals as goal

-- six hundred updates are more than the tactic computes
pub returns-clause-switch_and_reverse_after_many_updates : goal.returns-clause-switch_and_reverse_after_many_updates
returns-clause-switch_and_reverse_after_many_updates c = refl
