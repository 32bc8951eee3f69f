-- The page stands in two halves.
use Rattle.std.proofs.Common.{rules, ◌≡◌, take, drop}
use Rattle.mt_store.proofs.HalfLemmas.{split-told}
use Rattle.mt_store.proofs.pages.Pages.cut.Goals as goal

pub invariant_of-self-2 : goal.invariant_of-self-2
invariant_of-self-2 c =
    let front : c.split_off.new.self ≡ take 32 c.index_mut.result.now = search rules in
    let behind : c.in_ok-behind.behind ≡ drop 32 c.index_mut.result.now = search rules in
    split-told c.self.inside.pages.items c.reserve.new.self.items c.insert.new.self.items c.args.place c.split_off.new.self c.in_ok-behind.behind c.index_mut.result.now c.self.invariant (rw (← c.self.view_is) at c.requires.page) (rw (← c.self.view_is) at c.requires.full)
    (search rules) c.index_mut.ensures.value front behind (rw c.in-Ok.is at c.insert.ensures.items)
