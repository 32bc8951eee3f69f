-- Without a keyspace nothing has two places.
use Rattle.std.proofs.Common.{subst, sym, arith}
use Rattle.mt_model.proofs.DistinctLemmas.{distinct-empty}
use Rattle.mt_keyspace.specs.Keyspaces.{AreKeyspaces}
use Rattle.mt_keyspace.proofs.keyspaces.Keyspaces.new.Goals as goal

pub invariant_of-result : goal.invariant_of-result
invariant_of-result c = subst AreKeyspaces (sym c.new.ensures.empty) (record { distinct = distinct-empty; few = omega arith })
