use Rattle.std.proofs.Common.{rules, arith, ◌≡◌, Err, map, List, Bor, subst}
use Rattle.mt_model.specs.declared.entries.Entry.{Entry}
use Rattle.mt_watch.specs.Asking.{Answering, AsksEach, by_number}
use Rattle.mt_watch.proofs.AskLemmas.{AreAsked, AreAsked-next, AsksEach-next, IsTold-from, lacks_scope-from, scopes_end}
use Rattle.mt_watch.proofs.watchers.WatchersAsks.ask.Goals as goal

pub loop-index-preserved : goal.loop-index-preserved
loop-index-preserved g c =
    AreAsked-next (λ w. w.scope) c.args.self.now.all.items c.deref-watcher-items.result.now c.deref-watcher-items.ensures.value
    (λ w shown answer. (asked : Bor (List Entry)) × (asked.now ≡ shown) × (goal.Fn-dyn g).post (w.call.vtable, w.call.value) (asked, tt) answer)
    c.args.scope.now c.args.change.now c.loop-index.index c.watcher-item.result c.loop-index.told (omega arith) c.watcher-item.is c.loop-index.invariant c.in_ok-told.told c.in_ok-told.ensures

pub returns-in_err-told : goal.returns-in_err-told
returns-in_err-told g c =
    let may : Answering = by_number c.args.self.now.all.items (λ w shown answer. (asked : Bor (List Entry)) × (asked.now ≡ shown) × (goal.Fn-dyn g).post (w.call.vtable, w.call.value) (asked, tt) answer) in
    let same : Err c.in_err-told.field-0.0 ≡ c.from_residual.result = search rules in
    subst (AsksEach (map (λ w. w.scope) c.args.self.now.all.items) may c.args.scope.now c.args.change.now) same
    (AsksEach-next (λ w. w.scope) c.args.self.now.all.items c.deref-watcher-items.result.now c.deref-watcher-items.ensures.value
    (λ w shown answer. (asked : Bor (List Entry)) × (asked.now ≡ shown) × (goal.Fn-dyn g).post (w.call.vtable, w.call.value) (asked, tt) answer)
    c.args.scope.now c.args.change.now c.loop-index.index c.watcher-item.result c.loop-index.told (omega arith) c.watcher-item.is c.loop-index.invariant c.in_err-told.field-0.0 c.in_err-told.ensures)

pub returns-in-Some : goal.returns-in-Some
returns-in-Some g c =
    let scopes = map (λ w. w.scope) c.args.self.now.all.items in
    let all = scopes_end (λ w. w.scope) c.args.self.now.all.items c.deref-watcher-items.result.now c.deref-watcher-items.ensures.value c.loop-index.index (omega arith) in
    let may : Answering = by_number c.args.self.now.all.items (λ w shown answer. (asked : Bor (List Entry)) × (asked.now ≡ shown) × (goal.Fn-dyn g).post (w.call.vtable, w.call.value) (asked, tt) answer) in
    IsTold-from scopes may c.args.scope.now c.args.change.now c.in-Some.notice c.loop-index.index all
    (subst (AreAsked scopes may c.args.scope.now c.args.change.now c.loop-index.index) c.in-Some.is c.loop-index.invariant)

pub returns-in-None : goal.returns-in-None
returns-in-None g c =
    let scopes = map (λ w. w.scope) c.args.self.now.all.items in
    let all = scopes_end (λ w. w.scope) c.args.self.now.all.items c.deref-watcher-items.result.now c.deref-watcher-items.ensures.value c.loop-index.index (omega arith) in
    let may : Answering = by_number c.args.self.now.all.items (λ w shown answer. (asked : Bor (List Entry)) × (asked.now ≡ shown) × (goal.Fn-dyn g).post (w.call.vtable, w.call.value) (asked, tt) answer) in
    lacks_scope-from scopes c.args.scope.now c.loop-index.index all
    (subst (AreAsked scopes may c.args.scope.now c.args.change.now c.loop-index.index) c.in-None.is c.loop-index.invariant)
