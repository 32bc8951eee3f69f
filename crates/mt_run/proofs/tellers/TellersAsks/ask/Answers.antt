-- The first of the scope answers for all of them, or refuses; else no watcher has it.
use Rattle.std.proofs.Common.{◌∙◌, Some, arith, ap, length, sym}
use Rattle.mt_watch.specs.declared.fault.WatchFault.{WatchFault}
use Rattle.mt_watch.proofs.AskLemmas.{LacksBelow-skip, lacks_scope-from, watcher_at}
use Rattle.mt_watch.proofs.ScopeLemmas.{same_scope_decides}
use Rattle.mt_run.proofs.tellers.TellersAsks.ask.Goals as goal

pub returns-in-Err : goal.returns-in-Err
returns-in-Err c =
    let at = watcher_at (λ s. s) c.args.self.now.scopes.items c.deref-own-items.result.now c.deref-own-items.ensures.value c.loop-index.index c.own-item.result (omega arith) c.own-item.is in
    let fault : WatchFault = record { 0 = 0 } in
    record { here = at ∙ ap Some ((same_scope_decides c.own-item.result c.args.scope.now).0 (sym c.eq.ensures ∙ c.if-eq.true)); refused = (fault, tt); before = λ j below there. tt }

pub loop-index-preserved : goal.loop-index-preserved
loop-index-preserved c =
    let at = watcher_at (λ s. s) c.args.self.now.scopes.items c.deref-own-items.result.now c.deref-own-items.ensures.value c.loop-index.index c.own-item.result (omega arith) c.own-item.is in
    LacksBelow-skip c.args.self.now.scopes.items c.args.scope.now c.own-item.result c.loop-index.index at (sym c.eq.ensures ∙ c.if-eq.false) c.loop-index.invariant

pub returns : goal.returns
returns c =
    let all = ap length c.deref-own-items.ensures.value in
    lacks_scope-from c.args.self.now.scopes.items c.args.scope.now c.loop-index.index (omega (arith, all)) c.loop-index.invariant
