-- What is true of every primary is true of those of the places before this one.
use Rattle.mt_site.proofs.PrimaryLemmas.{ArePlaces}
use Rattle.mt_site.proofs.primaries.each_is_a_primary.Given as goal

abbrev pub invariant-loop-place : goal.invariant-loop-place
invariant-loop-place l = ArePlaces l.primaries l.place
