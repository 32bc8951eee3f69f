-- Each of the clients before this one has a number.
use Rattle.std.proofs.Common.{◌≤◌, All, get_or, take}
use Rattle.mt_desk.proofs.numbers.first_without.Given as goal

abbrev pub invariant-loop-client : goal.invariant-loop-client
invariant-loop-client l = All (λ client. 1 ≤ get_or l.numbers client 0) (take l.client-index l.fn.clients)
