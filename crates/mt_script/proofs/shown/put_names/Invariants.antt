-- The tables passed stand there, and there is room for the others.
use Rattle.std.proofs.Common.{◌≡◌, ◌+◌, ◌*◌, ◌≤◌, ◌++◌, ◌∷◌, length, take}
use Rattle.std.specs.List.{join_with_byte}
use Rattle.mt_names.specs.Types.{comma}
use Rattle.mt_script.proofs.shown.put_names.Given as goal

abbrev pub invariant-loop-table : goal.invariant-loop-table
invariant-loop-table l =
    (l.text.items ≡ l.fn.text.items ++ join_with_byte comma (l.first ∷ take l.table-index l.others)) ×
    (length l.text.items + 1 ≤ length l.fn.text.items + 65 * (1 + l.table-index))
