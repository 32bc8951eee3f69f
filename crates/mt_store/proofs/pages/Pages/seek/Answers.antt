-- The spot in the page for the key.
use Rattle.mt_store.proofs.PlaceLemmas.{fits-at, found-from, page-in-order, stands-at}
use Rattle.mt_store.proofs.pages.Pages.seek.Goals as goal

pub seek-requires : goal.seek-requires
seek-requires c =
    let found = found-from c.deref.result.now c.page_for-page.result c.in-Some.found.now c.in-Some.ensures.lookup.3 in
    page-in-order c.self.inside.pages.items c.page_for-page.result c.in-Some.found.now c.self.invariant.ordered (rw c.deref.ensures.value at found)

pub returns-in-Ok : goal.returns-in-Ok
returns-in-Ok c =
    let found = found-from c.deref.result.now c.page_for-page.result c.in-Some.found.now c.in-Some.ensures.lookup.3 in
    let seeks = rw c.in-Ok.is at c.seek.ensures in
    rw (← c.self.view_is) (stands-at c.self.inside.pages.items c.args.key c.page_for-page.result c.in-Ok.at c.in-Some.found.now (rw c.deref.ensures.value at found) seeks)

pub returns-in-Err : goal.returns-in-Err
returns-in-Err c =
    let found = found-from c.deref.result.now c.page_for-page.result c.in-Some.found.now c.in-Some.ensures.lookup.3 in
    let seeks = rw c.in-Err.is at c.seek.ensures in
    rw (← c.self.view_is) (fits-at c.self.inside.pages.items c.args.key c.page_for-page.result c.in-Err.at c.in-Some.found.now (rw (← c.self.view_is) at c.page_for-page.ensures) (rw c.deref.ensures.value at found) seeks)
