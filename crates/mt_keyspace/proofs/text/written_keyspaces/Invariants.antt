-- The keyspaces so far, and what is left completes them.
use Rattle.std.proofs.Common.{map}
use Rattle.mt_rules.specs.Written.{written_text}
use Rattle.mt_keyspace.proofs.TextLemmas.{WritesKeyspaces}
use Rattle.mt_keyspace.proofs.text.written_keyspaces.Given as goal

abbrev pub invariant-keyspaces : goal.invariant-keyspaces
invariant-keyspaces l = WritesKeyspaces (map written_text l.items.items) l.name-iterator l.keyspaces.entries
