-- The row is another one in its place.
use Rattle.mt_store.proofs.EditLemmas.{swap-told}
use Rattle.mt_store.proofs.PagesLemmas.{at-found}
use Rattle.mt_store.proofs.pages.Pages.replace.Goals as goal

pub invariant_of-self : goal.invariant_of-self
invariant_of-self c =
    let pages = c.self.inside.pages.items in
    let within = rw (← c.self.view_is) at c.requires.1.page in
    let stands = rw (← c.self.view_is) at c.requires.1.row in
    let stood = at-found pages c.args.spot.page c.index_mut.result.now within c.index_mut.ensures.value in
    let told = c.replace.ensures (c.requires.0, c.requires.1.value) (rw stood stands) in
    rw (told.1, stood) (swap-told pages c.self.invariant c.args.spot c.requires.0 c.args.value c.requires.1.value within stands).0

pub returns : goal.returns
returns c =
    let pages = c.self.inside.pages.items in
    let within = rw (← c.self.view_is) at c.requires.1.page in
    let stands = rw (← c.self.view_is) at c.requires.1.row in
    let stood = at-found pages c.args.spot.page c.index_mut.result.now within c.index_mut.ensures.value in
    let told = c.replace.ensures (c.requires.0, c.requires.1.value) (rw stood stands) in
    rw (← c.self.view_is, told.0) (c.requires.0, stands, rw (told.1, stood) (swap-told pages c.self.invariant c.args.spot c.requires.0 c.args.value c.requires.1.value within stands).1)
