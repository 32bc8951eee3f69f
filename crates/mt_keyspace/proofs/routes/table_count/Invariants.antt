-- Those counted, and those that are left.
use Rattle.std.proofs.Common.{◌≡◌, ◌+◌, length}
use Rattle.mt_model.specs.Documents.{marked}
use Rattle.mt_keyspace.proofs.routes.table_count.Given as goal

abbrev pub invariant-loop-is_there : goal.invariant-loop-is_there
invariant-loop-is_there l = l.count + length (marked l.is_there-iterator) ≡ length (marked l.places.entries)
