-- One workflow more.
use Rattle.std.proofs.Common.{◌||◌, ap, sym, ◌∙◌}
use Rattle.mt_moves.proofs.CreateLemmas.{any_moves, moved-values}
use Rattle.mt_moves.proofs.creating.is_moved.Goals as goal

pub loop-workflow-init : goal.loop-workflow-init
loop-workflow-init c =
    moved-values c.args.workflows.now.entries c.args.table.now
    ∙ ap (any_moves c.args.table.now) (sym (c.into_iter-workflow-iterator.ensures.into_iter_gives ∙ c.values-workflow-items.ensures.rest))

pub returns-then-moves : goal.returns-then-moves
returns-then-moves c =
    sym (c.loop-workflow.invariant ∙ ap (any_moves c.args.table.now) c.in-Some.ensures.steps
    ∙ ap (λ b. b || any_moves c.args.table.now c.next.new.self) (sym c.moves.ensures ∙ c.if-moves.true))

pub loop-workflow-preserved : goal.loop-workflow-preserved
loop-workflow-preserved c =
    c.loop-workflow.invariant ∙ ap (any_moves c.args.table.now) c.in-Some.ensures.steps
    ∙ ap (λ b. b || any_moves c.args.table.now c.next.new.self) (sym c.moves.ensures ∙ c.if-moves.false)

pub returns : goal.returns
returns c = sym (c.loop-workflow.invariant ∙ ap (any_moves c.args.table.now) c.in-None.ensures.steps.0)
