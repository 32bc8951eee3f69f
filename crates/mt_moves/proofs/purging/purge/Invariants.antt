-- The logs at the places before this one are purged.
use Rattle.std.proofs.Common.{◌≡◌, length}
use Rattle.mt_moves.proofs.PurgeLemmas.{purged_places}
use Rattle.mt_moves.proofs.purging.purge.Given as goal

abbrev pub invariant-loop-place : goal.invariant-loop-place
invariant-loop-place l = record {
  primaries : l.primaries ≡ purged_places l.workflows.entries l.place l.initial.primaries;
  end : l.place-end ≡ length l.initial.primaries;
}
