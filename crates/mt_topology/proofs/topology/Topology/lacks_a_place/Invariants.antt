-- It is for the tables that are left to lack one.
use Rattle.std.proofs.Common.{◌≡◌, drop}
use Rattle.mt_model.specs.Part.{part_keys}
use Rattle.mt_topology.specs.Part.{lacks_a_place}
use Rattle.mt_topology.proofs.topology.Topology.lacks_a_place.Given as goal

abbrev pub invariant-loop-table : goal.invariant-loop-table
invariant-loop-table l = lacks_a_place l.self (part_keys l.source l.target l.tables) ≡ lacks_a_place l.self (part_keys l.source l.target (drop l.table-index l.tables))
