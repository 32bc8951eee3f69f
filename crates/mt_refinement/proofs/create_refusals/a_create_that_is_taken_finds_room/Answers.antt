-- The limits are tested last.
use Rattle.std.proofs.Common.{◌∙◌}
use Rattle.mt_plain.specs.Plain.{each_once}
use Rattle.mt_refinement.proofs.CreateRefusalLemmas.{room_behind}
use Rattle.mt_refinement.proofs.create_refusals.a_create_that_is_taken_finds_room.Goals as goal

pub returns : goal.returns
returns c = λ p scopes base stands workflow source target tables taken.
    room_behind base scopes workflow source target (each_once tables) (c.a_create_is_refused_as_the_definitions_refuse_it.ensures p scopes base stands workflow source target tables ∙ taken)
