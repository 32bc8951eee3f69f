-- None so far has too many.
use Rattle.std.proofs.Common.{◌≡◌}
use Rattle.std.specs.List.{list_any}
use Rattle.mt_keyspace.specs.Load.{has_too_many_tables}
use Rattle.mt_keyspace.proofs.load.has_too_many_tables.Given as goal

abbrev pub invariant-drafts : goal.invariant-drafts
invariant-drafts l = list_any has_too_many_tables l.drafts.entries ≡ list_any has_too_many_tables l.draft-iterator
