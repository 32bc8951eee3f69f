-- A place holds a blank.
use Rattle.mt_model.proofs.PlaceLemmas.{same-with_places, same-without_places, resolution-with_places, resolution-without_places}
use Rattle.mt_model.proofs.part.places_say_nothing.Goals as goal

pub returns-clause-reserved : goal.returns-clause-reserved
returns-clause-reserved c = same-with_places

pub returns-clause-released : goal.returns-clause-released
returns-clause-released c = same-without_places

pub returns-clause-reserved_look_up : goal.returns-clause-reserved_look_up
returns-clause-reserved_look_up c = resolution-with_places

pub returns-clause-released_look_up : goal.returns-clause-released_look_up
returns-clause-released_look_up c = λ t keys name type distinct. resolution-without_places t keys name type distinct
