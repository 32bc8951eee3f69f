-- What isn't made leaves primaries as they were.
use Rattle.std.proofs.Common.{◌≡◌, Err, rules, subst}
use Rattle.mt_moves.specs.Create.{MakesAtTarget, Prepares}
use Rattle.mt_moves.proofs.MakeLemmas.{not-prepared}
use Rattle.mt_moves.proofs.creating.prepare.Goals as goal

pub returns-in_err-make_at_target-clause-made : goal.returns-in_err-make_at_target-clause-made
returns-in_err-make_at_target-clause-made g c =
    let w = c.args.workflow.now in
    let same : Err c.in_err-make_at_target.field-0.0 ≡ c.from_residual-in_err-make_at_target.result = search rules in
    let makes =
    subst (λ change. MakesAtTarget (g.W.Asks.scopes c.args.watchers.now) (g.W.Asks.may_answer c.args.watchers.now) w change c.args.primaries.now (Err c.in_err-make_at_target.field-0.0) c.make_at_target.new.primaries)
    c.in_ok-change.ensures.value c.in_err-make_at_target.ensures in
    subst (λ r. Prepares (g.W.Asks.scopes c.args.watchers.now) (g.W.Asks.may_answer c.args.watchers.now) w c.args.primaries.now r c.make_at_target.new.primaries) same
    (not-prepared (g.W.Asks.scopes c.args.watchers.now) (g.W.Asks.may_answer c.args.watchers.now) w c.args.primaries.now c.make_at_target.new.primaries c.in_err-make_at_target.field-0.0
    c.requires.watched makes)
