use Rattle.std.proofs.Common.{refl}
use Rattle.mt_plain.specs.Events.{cancel, done}
use Rattle.mt_plain.specs.Next.{next}
use Rattle.mt_stands.proofs.CancelLemmas.{cancel_stands, held_by, not_owned, owned_still}
use Rattle.mt_stands.proofs.creating.cancel_writes_what_was_kept.Goals as goal

pub returns : goal.returns
returns c = λ p t name w kept reached live is_kept given stands.
    let q = next p (cancel name) done in
    let reached_next = c.each_next_state_is_reached.ensures.next p reached (cancel name) done given in
    let named = c.a_live_workflow_is_found_by_its_part.ensures.named p name w live in
    let owned = c.a_live_workflow_is_found_by_its_part.ensures.owner p reached in
    let owned_next = c.a_live_workflow_is_found_by_its_part.ensures.owner q reached_next in
    let found = c.a_live_workflow_is_found_by_its_part.ensures.owner_is_live p reached in
    let found_next = c.a_live_workflow_is_found_by_its_part.ensures.owner_is_live q reached_next in
    let elsewhere = c.only_named_events_change_a_workflow.ensures.elsewhere p (cancel name) done in
    let places = c.only_what_stands_has_a_place.ensures in
    cancel_stands p q t w kept refl stands is_kept (owned name w live)
    (not_owned p q name w live refl named owned found owned_next found_next elsewhere)
    (owned_still p q name w live refl named owned found owned_next found_next elsewhere)
    (held_by p (places.rules p reached) (places.tables p reached) (places.denials p reached) (c.live_workflows_stand_in_place.ensures.allowed p reached))
