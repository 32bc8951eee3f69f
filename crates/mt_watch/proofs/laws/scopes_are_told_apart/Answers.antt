-- A scope that is had has a number.
use Rattle.mt_watch.proofs.AskLemmas.{has_scope_at, number_of}
use Rattle.mt_watch.proofs.ScopeLemmas.{same_scope_decides}
use Rattle.mt_watch.proofs.laws.scopes_are_told_apart.Goals as goal

pub returns-clause-equality : goal.returns-clause-equality
returns-clause-equality c = same_scope_decides

pub returns-clause-has : goal.returns-clause-has
returns-clause-has c = λ scopes scope. (number_of scopes scope, λ found. has_scope_at scopes scope found.0 found.1)
