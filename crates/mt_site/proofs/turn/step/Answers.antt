-- The step that is next is asked for, and what follows is what the definitions say of its answer.
use Rattle.std.proofs.Common.{ap, sym, ◌∙◌}
use Rattle.mt_event.specs.Asks.{answer_told_by}
use Rattle.mt_plain.specs.Drive as plain
use Rattle.mt_plain.specs.Events.{done, step}
use Rattle.mt_site.specs.Drives.{heard_from}
use Rattle.mt_site.proofs.TurnLemmas.{heard_step, turn_taken}
use Rattle.mt_site.proofs.turn.step.Goals as goal

pub returns-in-Ok-clause-turns : goal.returns-in-Ok-clause-turns
returns-in-Ok-clause-turns g c =
    let scopes = g.W.Asks.scopes c.args.watchers.now in
    let name = c.args.workflow.now in
    turn_taken scopes c.args.core.now c.apply_on-answer.new.self (plain.steps name c.args.tries) (heard_from name c.unless_closed.result)
    (step name c.steps_done-at.result) (answer_told_by done c.apply_on-answer.result) c.apply_on-answer.ensures.steps
    (λ p stands. ap (step name) (c.steps_done-at.ensures p name (c.way_of.ensures p scopes stands)))
    (λ q stands. ap (λ r. plain.heard q (plain.steps name c.args.tries) (answer_told_by done r)) c.in-Ok.is ∙ heard_step q name c.args.tries c.in-Ok.field-0 ∙ ap (λ w. plain.unless_closed w plain.done (plain.steps name plain.most_tries)) (sym (c.way_of-way.ensures q scopes stands)) ∙ sym (c.unless_closed.ensures name))

pub returns-in-Err-clause-turns : goal.returns-in-Err-clause-turns
returns-in-Err-clause-turns g c =
    let scopes = g.W.Asks.scopes c.args.watchers.now in
    let name = c.args.workflow.now in
    turn_taken scopes c.args.core.now c.apply_on-answer.new.self (plain.steps name c.args.tries) (heard_from name c.refused_step.result)
    (step name c.steps_done-at.result) (answer_told_by done c.apply_on-answer.result) c.apply_on-answer.ensures.steps
    (λ p stands. ap (step name) (c.steps_done-at.ensures p name (c.way_of.ensures p scopes stands)))
    (λ q stands. ap (λ r. plain.heard q (plain.steps name c.args.tries) (answer_told_by done r)) c.in-Err.is ∙ sym (c.refused_step.ensures q name (c.way_of-way.ensures q scopes stands)))
