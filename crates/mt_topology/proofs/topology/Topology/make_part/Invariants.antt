-- The tables before this one have places, those of the others aren't refused, and those made are noted.
use Rattle.std.proofs.Common.{◌≡◌, None, drop, reverse, take}
use Rattle.mt_model.specs.Part.{part_keys, with_places, without_places}
use Rattle.mt_topology.specs.Part.{all_made, places_refusal}
use Rattle.mt_topology.proofs.topology.Topology.make_part.Given as goal

abbrev pub invariant-loop-table : goal.invariant-loop-table
invariant-loop-table l =
    (l.self ≡ with_places l.initial.self (part_keys l.source l.target (take l.table-index l.tables)))
    × (without_places l.self (reverse (all_made l.made.items)) ≡ without_places l.initial.self (reverse (all_made l.initial.made.items)))
    × (places_refusal l.self (part_keys l.source l.target (drop l.table-index l.tables)) ≡ None)
