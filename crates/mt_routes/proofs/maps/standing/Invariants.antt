-- What was added, and what is still to be: together all that stands.
use Rattle.std.proofs.Common.{◌≡◌, ◌++◌, filter}
use Rattle.mt_routes.proofs.maps.standing.Given as goal

abbrev pub invariant-loop-key : goal.invariant-loop-key
invariant-loop-key g l = l.other.entries ++ filter (λ e. g.V.Stands.stands e.1) l.key-iterator ≡ filter (λ e. g.V.Stands.stands e.1) l.map.entries
