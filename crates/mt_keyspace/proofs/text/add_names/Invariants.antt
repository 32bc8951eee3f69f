-- The names so far, and what is left completes them.
use Rattle.std.proofs.Common.{map, option_copied}
use Rattle.mt_names.specs.Keys.{qualifier_text}
use Rattle.mt_rules.specs.Written.{written_text}
use Rattle.mt_keyspace.proofs.TextLemmas.{AddsNames}
use Rattle.mt_keyspace.proofs.text.add_names.Given as goal

abbrev pub invariant-places : goal.invariant-places
invariant-places l = AddsNames (qualifier_text (option_copied l.keyspace)) (map written_text l.initial.items.items) (map written_text l.items.items) l.table-iterator l.places.entries
