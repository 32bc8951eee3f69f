-- The page before the partition point.
use Rattle.std.proofs.Common.{rules, of_calls, leb}
use Rattle.std.proofs.lemmas.Fn.{always_returns_same}
use Rattle.std.proofs.lemmas.List.Sorted.{IsPartitionedBy-leb}
use Rattle.mt_store.specs.Pages.{first_key}
use Rattle.mt_store.proofs.PlaceLemmas.{page-for, rises}
use Rattle.mt_store.proofs.pages.Pages.page_for.Goals as goal

pub returns : goal.returns
returns c =
    let pages = c.self.inside.pages.items in
    let are = c.self.invariant in
    let point = c.partition_point.ensures.partitioned (λ y. leb (first_key y) c.args.key) (always_returns_same _ _ _ (λ a r f k. search (rules, of_calls))) in
    let parted = IsPartitionedBy-leb first_key pages c.args.key (rises pages are.sizes are.ordered) in
    rw (c.saturating_sub.ensures, ← c.self.view_is) (page-for c.args.key pages are c.partition_point.result (search rules) (rw c.deref.ensures.value at point parted))
