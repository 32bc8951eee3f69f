-- The first row of the first of those pages.
use Rattle.std.proofs.Common.{sym, ◌∙◌}
use Rattle.mt_store.proofs.FoundLemmas.{first-of-pages}
use Rattle.mt_store.proofs.PlaceLemmas.{found-from}
use Rattle.mt_store.proofs.pages.Pages.first_from.Goals as goal

pub returns : goal.returns
returns c =
    let found = found-from c.deref.result.now c.args.place c.in_ok-get.field-0.now c.in_ok-get.ensures.lookup.3 in
    rw (← c.self.view_is) (c.first.ensures ∙ sym (first-of-pages c.self.inside.pages.items c.self.invariant.sizes c.args.place c.in_ok-get.field-0.now (rw c.deref.ensures.value at found)))
