-- The first so many items are lent.
use Rattle.std.proofs.Common.{◌≡◌, map, take}
use Rattle.mt_rules.proofs.text.lend_items.Given as goal

abbrev pub invariant-items : goal.invariant-items
invariant-items l = map (λ item. item.now) l.lent.items ≡ take l.item-index l.items
