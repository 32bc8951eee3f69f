use Rattle.std.proofs.Common.{arith, ◌≡◌, true, Some, map, sym, ap, ◌∙◌}
use Rattle.mt_watch.specs.Scopes.{same_scope}
use Rattle.mt_watch.proofs.AskLemmas.{LacksBelow-skip, has_scope_at, lacks_scope-from, scope_at, scopes_end}
use Rattle.mt_watch.proofs.ScopeLemmas.{same_scope_decides}
use Rattle.mt_watch.proofs.watchers.WatchersAsks.has.Goals as goal

pub returns-then-is_of : goal.returns-then-is_of
returns-then-is_of g c =
    let item = c.watcher-item.result in
    let at = scope_at (λ w. w.scope) c.args.self.now.all.items c.deref-watcher-items.result.now c.deref-watcher-items.ensures.value c.loop-watcher.watcher-index item (omega arith) c.watcher-item.is in
    let same : same_scope item.scope c.args.scope.now ≡ true = sym c.is_of.ensures ∙ c.if-is_of.true in
    sym (has_scope_at (map (λ w. w.scope) c.args.self.now.all.items) c.args.scope.now c.loop-watcher.watcher-index (at ∙ ap Some ((same_scope_decides item.scope c.args.scope.now).0 same)))

pub loop-watcher-preserved : goal.loop-watcher-preserved
loop-watcher-preserved g c =
    let item = c.watcher-item.result in
    let at = scope_at (λ w. w.scope) c.args.self.now.all.items c.deref-watcher-items.result.now c.deref-watcher-items.ensures.value c.loop-watcher.watcher-index item (omega arith) c.watcher-item.is in
    LacksBelow-skip (map (λ w. w.scope) c.args.self.now.all.items) c.args.scope.now item.scope c.loop-watcher.watcher-index at (sym c.is_of.ensures ∙ c.if-is_of.false) c.loop-watcher.invariant

pub returns : goal.returns
returns g c =
    let all = scopes_end (λ w. w.scope) c.args.self.now.all.items c.deref-watcher-items.result.now c.deref-watcher-items.ensures.value c.loop-watcher.watcher-index (omega arith) in
    sym (lacks_scope-from (map (λ w. w.scope) c.args.self.now.all.items) c.args.scope.now c.loop-watcher.watcher-index all c.loop-watcher.invariant)
