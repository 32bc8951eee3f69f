-- The entries so far are written.
use Rattle.std.proofs.Common.{◌≡◌, fold, take}
use Rattle.mt_routes.specs.Places.{with_entry}
use Rattle.mt_routes.proofs.places.Places.write_all.Given as goal

abbrev pub invariant-loop-entry : goal.invariant-loop-entry
invariant-loop-entry l = l.self ≡ fold with_entry l.fn.self (take l.entry-index l.entries)
