use Rattle.mt_plain.specs.Next.{next}
use Rattle.mt_stands.proofs.KeptLemmas.{kept_again, rule_stays}
use Rattle.mt_stands.proofs.kept.what_is_kept_stays_what_stood.Goals as goal

pub returns : goal.returns
returns c = λ p event answer name w v kept reached given live now is_kept.
    let q = next p event answer in
    let reached_next = c.each_next_state_is_reached.ensures.next p reached event answer given in
    kept_again p q w v kept (c.only_named_events_change_a_workflow.ensures.sides p event answer name w v live now)
    (λ key part.
    rule_stays p name w v live (c.a_live_workflow_is_found_by_its_part.ensures.owner p reached) (c.a_live_workflow_is_found_by_its_part.ensures.named p)
    (c.live_workflows_stand_in_place.ensures.placed p reached) (c.only_what_stands_has_a_place.ensures.lists p reached).places key part
    event answer given now (c.only_named_events_change_the_state.ensures.topology p event answer))
    (c.live_workflows_stand_in_place.ensures.allowed q reached_next) (c.live_workflows_stand_in_place.ensures.placed q reached_next name v now) is_kept
