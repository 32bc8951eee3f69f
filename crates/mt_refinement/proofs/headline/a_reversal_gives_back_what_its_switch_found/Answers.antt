-- Each base says what its state serves, and of the states the law holds.
use Rattle.std.proofs.Common.{sym, ◌∙◌}
use Rattle.mt_refinement.proofs.headline.a_reversal_gives_back_what_its_switch_found.Goals as goal

pub returns : goal.returns
returns c = λ scopes before now name types back_types at at_back p q r s stood way none way_back same stands key inside.
    stands.topology.served.entries key
    ∙ c.a_reversal_gives_the_part_back.ensures.reversal name types back_types at at_back p q r s stood.reached way none way_back same key inside
    ∙ sym (stood.topology.served.entries key)
