-- The scope is found where it stands, and else no watcher has it.
use Rattle.std.proofs.Common.{◌∙◌, arith, ap, length, sym}
use Rattle.mt_watch.proofs.AskLemmas.{LacksBelow-skip, lacks_scope-from, watcher_at}
use Rattle.mt_run.proofs.tellers.TellersAsks.has.Goals as goal

pub loop-own-preserved : goal.loop-own-preserved
loop-own-preserved c =
    let at = watcher_at (λ s. s) c.args.self.now.scopes.items c.deref-own-items.result.now c.deref-own-items.ensures.value c.loop-own.own-index c.own-item.result (omega arith) c.own-item.is in
    LacksBelow-skip c.args.self.now.scopes.items c.args.scope.now c.own-item.result c.loop-own.own-index at (sym c.eq.ensures ∙ c.if-eq.false) c.loop-own.invariant

pub returns : goal.returns
returns c =
    let all = ap length c.deref-own-items.ensures.value in
    sym (lacks_scope-from c.args.self.now.scopes.items c.args.scope.now c.loop-own.own-index (omega (arith, all)) c.loop-own.invariant)
