-- The undo of the last step that stands done is asked for, and what follows is what the definitions say, whatever its answer.
use Rattle.std.proofs.Common.{ap, option_map}
use Rattle.mt_event.specs.Asks.{answer_told_by}
use Rattle.mt_event.specs.Reasons.{reason_from}
use Rattle.mt_plain.specs.Drive as plain
use Rattle.mt_plain.specs.Events.{done, undo}
use Rattle.mt_workflow.specs.Workflows.{way_from}
use Rattle.mt_site.specs.Drives.{heard_from}
use Rattle.mt_site.proofs.TurnLemmas.{turn_taken, undone}
use Rattle.mt_site.proofs.turn.give_up.Goals as goal

pub returns-clause-turns : goal.returns-clause-turns
returns-clause-turns g c =
    let scopes = g.W.Asks.scopes c.args.watchers.now in
    let name = c.args.workflow.now in
    let why = reason_from c.args.refusal in
    turn_taken scopes c.args.core.now c.apply_on.new.self (plain.gives_up name why) (heard_from name c.unless_closed.result)
    (undo name c.steps_done-at.result) (answer_told_by done c.apply_on.result) c.apply_on.ensures.steps
    (λ p stands. ap (undo name) (c.steps_done-at.ensures p name (c.way_of.ensures p scopes stands)))
    (λ q stands. undone q name c.args.refusal (option_map way_from c.way_of-2.result) (answer_told_by done c.apply_on.result) (heard_from name c.unless_closed.result)
    (c.way_of-2.ensures q scopes stands) (c.unless_closed.ensures name))
