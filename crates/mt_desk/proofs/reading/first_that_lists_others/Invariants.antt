-- The history has the calls of each pass before this one.
use Rattle.std.proofs.Common.{All, map, take}
use Rattle.mt_desk.specs.Passes.{ListsCalls}
use Rattle.mt_desk.proofs.reading.first_that_lists_others.Given as goal

abbrev pub invariant-loop-index : goal.invariant-loop-index
invariant-loop-index g l = All (ListsCalls l.fn.history) (map (λ pass. (pass.client, pass.calls.items)) (take l.index l.fn.passes))
