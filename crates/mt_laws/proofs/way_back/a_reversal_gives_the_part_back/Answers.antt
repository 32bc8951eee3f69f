-- The second way leads to the types from before the first.
use Rattle.std.proofs.Common.{refl}
use Rattle.mt_plain.specs.Events.{begin_switch, begin_reverse}
use Rattle.mt_laws.proofs.ReverseLemmas.{both_ways}
use Rattle.mt_laws.proofs.way_back.a_reversal_gives_the_part_back.Goals as goal

pub returns-clause-reversal : goal.returns-clause-reversal
returns-clause-reversal c = λ name types back_types at at_back p q r s reached there between back_again same.
    both_ways name (begin_switch name types) (begin_reverse name back_types) at at_back p q r s reached refl refl there between back_again same

pub returns-clause-any_two : goal.returns-clause-any_two
returns-clause-any_two c = λ name begin again at at_again p q r s reached is is_again there between back_again same.
    both_ways name begin again at at_again p q r s reached is is_again there between back_again same
