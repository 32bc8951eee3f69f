-- `==` of scopes decides equality.
use Rattle.std.proofs.Common.{rules}
use Rattle.mt_names.specs.Same.{DecidesEquality}
use Rattle.mt_watch.specs.Scopes.{same_scope}

pub same_scope_decides : DecidesEquality same_scope
same_scope_decides = search rules
