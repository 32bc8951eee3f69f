-- The texts of the rules so far, and what is left completes them.
use Rattle.std.proofs.Common.{drop, map}
use Rattle.mt_rules.specs.Walk.{listed_entry}
use Rattle.mt_rules.specs.Written.{written_text}
use Rattle.mt_rules.proofs.WrittenLemmas.{Writes}
use Rattle.mt_rules.proofs.text.written_rules.Given as goal

abbrev pub invariant-loop-place : goal.invariant-loop-place
invariant-loop-place l = Writes (map written_text l.rules.items) (map listed_entry (drop l.place-index l.place-items)) l.places
