-- The shards passed stand there, and there is room for the others.
use Rattle.std.proofs.Common.{◌≡◌, ◌+◌, ◌*◌, ◌≤◌, ◌++◌, length, take}
use Rattle.std.specs.List.{flat_map}
use Rattle.mt_script.specs.Texts.{back_behind}
use Rattle.mt_script.proofs.shown.put_each_back.Given as goal

abbrev pub invariant-loop-lane : goal.invariant-loop-lane
invariant-loop-lane l =
    (l.text.items ≡ l.fn.text.items ++ flat_map back_behind (take l.lane-index l.lanes)) ×
    (length l.text.items ≤ length l.fn.text.items + 63 * l.lane-index)
