-- The members found so far, and those among the places that are left.
use Rattle.std.proofs.Common.{◌≡◌, ◌++◌}
use Rattle.mt_denied.proofs.DeniedLemmas.{members}
use Rattle.mt_denied.proofs.denied.TableMarks.sorted.Given as goal

abbrev pub invariant-loop-name : goal.invariant-loop-name
invariant-loop-name l = members l.self ≡ l.names.items ++ members l.name-iterator
