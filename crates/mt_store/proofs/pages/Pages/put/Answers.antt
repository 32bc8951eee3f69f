-- The row stands in its page, or all is as it was.
use Rattle.mt_store.proofs.EditLemmas.{put-told}
use Rattle.mt_store.proofs.PagesLemmas.{at-found}
use Rattle.mt_store.proofs.pages.Pages.put.Goals as goal

pub invariant_of-self : goal.invariant_of-self
invariant_of-self c =
    let pages = c.self.inside.pages.items in
    let within = rw (← c.self.view_is) at c.requires.page in
    let stood = at-found pages c.args.spot.page c.index_mut.result.now within c.index_mut.ensures.value in
    (put-told pages c.args.key c.args.value c.self.invariant c.args.spot (rw (← c.self.view_is) at c.requires.fits) within (rw (← c.self.view_is) at c.requires.room) c.insert.new.self c.insert.result (rw stood at c.insert.ensures)).0

pub returns : goal.returns
returns c =
    let pages = c.self.inside.pages.items in
    let within = rw (← c.self.view_is) at c.requires.page in
    let stood = at-found pages c.args.spot.page c.index_mut.result.now within c.index_mut.ensures.value in
    rw (← c.self.view_is) (put-told pages c.args.key c.args.value c.self.invariant c.args.spot (rw (← c.self.view_is) at c.requires.fits) within (rw (← c.self.view_is) at c.requires.room) c.insert.new.self c.insert.result (rw stood at c.insert.ensures)).1
