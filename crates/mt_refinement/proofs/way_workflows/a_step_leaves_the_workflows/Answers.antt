-- What the step makes of the slots is what it makes of the streams.
use Rattle.std.proofs.Common.{◌≡◌, ◌<◌, Some, sym, ◌∙◌}
use Rattle.mt_plain.specs.Events.{done, step}
use Rattle.mt_plain.specs.Plain.{behind_last, next_step}
use Rattle.mt_refinement.proofs.ChangedLemmas.{stands_for}
use Rattle.mt_refinement.proofs.WayLemmas.{stepped-workflows}
use Rattle.mt_refinement.proofs.way_workflows.a_step_leaves_the_workflows.Goals as goal

pub returns : goal.returns
returns c = λ p reached workflows are name live w way at is_live found is_open given.
    let opens : live.way ≡ Some way = sym (stands_for p workflows are name live w is_live found).way ∙ is_open in
    let left : next_step way < behind_last way = (c.ways_keep_their_course.ensures.course p reached name live is_live way opens).within in
    stepped-workflows p workflows are name live w is_live found way opens reached left
    (λ n other. c.only_named_events_change_a_workflow.ensures.elsewhere p (step name at) done n other)
    (λ lane stream. c.a_step_changes_what_changes_with_its_number.ensures.streams p live way stream opens
    (λ changes. (c.ways_keep_their_course.ensures.writes p reached name live is_live way opens changes).before) left
    lane)
