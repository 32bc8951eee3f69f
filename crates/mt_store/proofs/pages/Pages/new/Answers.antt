-- No pages.
use Rattle.mt_store.proofs.OrderLemmas.{in-order-none}
use Rattle.mt_store.proofs.pages.Pages.new.Goals as goal

pub invariant_of-result : goal.invariant_of-result
invariant_of-result c = rw c.new.ensures.items (record { sizes = tt; ordered = in-order-none })
