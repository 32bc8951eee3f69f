-- The room that is left is for the keys that are left.
use Rattle.std.proofs.Common.{◌≡◌, ◌+◌, drop, length}
use Rattle.std.specs.List.{flat_map}
use Rattle.mt_model.specs.Part.{table_rule_keys}
use Rattle.mt_topology.specs.Part.{lacking_rules}
use Rattle.mt_topology.proofs.room.has_room_for_rules.Given as goal

abbrev pub invariant-loop-table : goal.invariant-loop-table
invariant-loop-table l =
    length l.rules + lacking_rules l.rules (flat_map (table_rule_keys l.source l.target) l.tables) + l.room
    ≡ 4096 + lacking_rules l.rules (flat_map (table_rule_keys l.source l.target) (drop l.table-index l.tables))
