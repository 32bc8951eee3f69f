use Rattle.std.proofs.Common.{ap, ◌∙◌}
use Rattle.mt_plain.specs.Events.{complete, done}
use Rattle.mt_plain.specs.Next.{next, with_completed, without_live}
use Rattle.mt_stands.proofs.CancelLemmas.{held_by, owned_still}
use Rattle.mt_stands.proofs.CompleteLemmas.{complete_stands, ends_moved, none_moved}
use Rattle.mt_stands.proofs.completing.complete_writes_the_end.Goals as goal

pub returns : goal.returns
returns c = λ p t name w reached live given stands.
    let q = next p (complete name) done in
    let reached_next = c.each_next_state_is_reached.ensures.next p reached (complete name) done given in
    let named = c.a_live_workflow_is_found_by_its_part.ensures.named p name w live in
    let lives = ap (λ o. (with_completed p o).lives) live ∙ ap (λ n. without_live n p.lives) named in
    let same = ap (λ o. (with_completed p o).topology) live in
    let owned = c.a_live_workflow_is_found_by_its_part.ensures.owner p reached in
    let owned_next = c.a_live_workflow_is_found_by_its_part.ensures.owner q reached_next in
    let found = c.a_live_workflow_is_found_by_its_part.ensures.owner_is_live p reached in
    let found_next = c.a_live_workflow_is_found_by_its_part.ensures.owner_is_live q reached_next in
    let alone = c.a_live_workflow_is_found_by_its_part.ensures.mover p reached in
    let elsewhere = c.only_named_events_change_a_workflow.ensures.elsewhere p (complete name) done in
    let places = c.only_what_stands_has_a_place.ensures in
    let allowed = c.live_workflows_stand_in_place.ensures.allowed p reached in
    let allowed_next = c.live_workflows_stand_in_place.ensures.allowed q reached_next in
    complete_stands p q t w same stands (c.live_workflows_stand_in_place.ensures.placed p reached name w live) (places.lists p reached).places allowed allowed_next (owned name w live)
    (λ key is. none_moved p q name w live lives named owned found owned_next found_next elsewhere alone key (ends_moved w key is))
    (owned_still p q name w live lives named owned found owned_next found_next elsewhere)
    (held_by p (places.rules p reached) (places.tables p reached) (places.denials p reached) allowed)
    (held_by q (places.rules q reached_next) (places.tables q reached_next) (places.denials q reached_next) allowed_next)
