use Rattle.std.proofs.Common.{◌≡◌, map, Bor, List}
use Rattle.mt_model.specs.declared.entries.Entry.{Entry}
use Rattle.mt_watch.specs.Asking.{by_number}
use Rattle.mt_watch.proofs.AskLemmas.{AreAsked}
use Rattle.mt_watch.proofs.watchers.WatchersAsks.ask.Given as goal

abbrev pub invariant-loop-index : goal.invariant-loop-index
invariant-loop-index g l =
    AreAsked
    (map (λ w. w.scope) l.self.all.items)
    (by_number l.self.all.items (λ w shown answer. (asked : Bor (List Entry)) × (asked.now ≡ shown) × (goal.Fn-dyn g).post (w.call.vtable, w.call.value) (asked, tt) answer))
    l.scope l.change l.index l.told
