-- What is left to take back.
use Rattle.std.proofs.Common.{◌≡◌, reverse}
use Rattle.mt_model.specs.Part.{without_places}
use Rattle.mt_topology.specs.Part.{all_made}
use Rattle.mt_topology.proofs.topology.Topology.take_back.Given as goal

abbrev pub invariant-loop-places : goal.invariant-loop-places
invariant-loop-places l = without_places l.self (reverse (all_made l.places-iterator.iter.rest.now)) ≡ without_places l.initial.self (reverse (all_made l.made))
