-- What is left to drop.
use Rattle.std.proofs.Common.{◌≡◌}
use Rattle.mt_model.specs.Part.{part_keys, without_places}
use Rattle.mt_topology.proofs.topology.Topology.release_part.Given as goal

abbrev pub invariant-loop-table : goal.invariant-loop-table
invariant-loop-table l = without_places l.self (part_keys l.source l.target l.table-iterator.iter.rest.now) ≡ without_places l.initial.self (part_keys l.source l.target l.tables)
