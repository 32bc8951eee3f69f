-- What Complete makes stands for the next state, and what is refused changes nothing.
use Rattle.mt_refinement.proofs.WayBeginLemmas.{complete_steps}
use Rattle.mt_refinement.proofs.ways.a_complete_steps.Goals as goal

pub returns : goal.returns
returns c = λ scopes old new workflow answer completes are p stands.
    let given = c.a_complete_answers_as_the_definitions_allow.ensures p scopes old new stands workflow answer completes in (
      given,
      complete_steps p scopes old new stands workflow answer
          (λ w found taken. c.what_complete_makes_stands_for_the_next_state.ensures p scopes old stands workflow w found are taken) given completes,
    )
