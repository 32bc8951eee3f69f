-- There are no more than places.
use Rattle.std.proofs.Common.{arith}
use Rattle.mt_keyspace.proofs.RouteLemmas.{marked_few}
use Rattle.mt_keyspace.proofs.routes.table_count.Goals as goal

pub returns-clause-within : goal.returns-clause-within
returns-clause-within c = omega (arith, c.loop-is_there.invariant, marked_few c.args.places.now.entries, c.requires)

pub overflow_add-count : goal.overflow_add-count
overflow_add-count c = omega (arith, c.loop-is_there.invariant, marked_few c.args.places.now.entries, c.requires)
