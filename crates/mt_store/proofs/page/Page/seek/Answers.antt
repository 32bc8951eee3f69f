-- Where a binary search ends.
use Rattle.std.proofs.Common.{rules, of_calls}
use Rattle.std.proofs.lemmas.Fn.{always_returns_same}
use Rattle.mt_store.proofs.PlaceLemmas.{searched-in}
use Rattle.mt_store.proofs.page.Page.seek.Goals as goal

pub returns : goal.returns
returns c =
    let bound = rw c.deref.ensures.value at c.binary_search_by_key.ensures.bound in
    let position = c.binary_search_by_key.ensures.position (λ row. row.0) (always_returns_same _ _ _ (λ a r f k. search (rules, of_calls))) in
    rw (← c.self.view_is) (searched-in c.self.inside.rows.items c.args.key c.binary_search_by_key.result (rw c.self.view_is c.requires) bound (rw c.deref.ensures.value at position))
