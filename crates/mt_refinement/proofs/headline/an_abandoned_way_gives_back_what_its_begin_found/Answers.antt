-- Each base says what its state serves, and of the states the law holds.
use Rattle.std.proofs.Common.{sym, ◌∙◌}
use Rattle.mt_refinement.proofs.headline.an_abandoned_way_gives_back_what_its_begin_found.Goals as goal

pub returns : goal.returns
returns c = λ scopes before now name begin at p q stood is_begin way stands key inside.
    stands.topology.served.entries key
    ∙ c.an_abandoned_way_gives_the_part_back.ensures name begin at p q stood.reached is_begin way key inside
    ∙ sym (stood.topology.served.entries key)
