-- The keys of one table more.
use Rattle.std.proofs.Common.{◌+◌, length, arith}
use Rattle.std.specs.List.{flat_map}
use Rattle.mt_model.specs.Part.{table_rule_keys}
use Rattle.mt_topology.specs.Part.{lacking_rules}
use Rattle.mt_topology.proofs.ReserveLemmas.{lacking_left, no_room, room_for_all}
use Rattle.mt_topology.proofs.room.has_room_for_rules.Goals as goal

pub returns-then-lacking-room : goal.returns-then-lacking-room
returns-then-lacking-room c =
    let rules = c.args.rules.now in
    let f = table_rule_keys c.args.source.now c.args.target.now in
    let left = lacking_left rules f c.args.tables.now c.loop-table.table-index c.table-item.result c.table_rule_keys.result c.loop-table-test.true c.table-item.is c.table_rule_keys.ensures in
    no_room 4096 (length rules + lacking_rules rules (flat_map f c.args.tables.now)) (omega (arith, c.loop-table.invariant, left, c.if-lacking-room.true, c.lacking_rules-lacking.ensures))

pub loop-table-preserved : goal.loop-table-preserved
loop-table-preserved c =
    let rules = c.args.rules.now in
    let f = table_rule_keys c.args.source.now c.args.target.now in
    let left = lacking_left rules f c.args.tables.now c.loop-table.table-index c.table-item.result c.table_rule_keys.result c.loop-table-test.true c.table-item.is c.table_rule_keys.ensures in
    omega (arith, c.loop-table.invariant, left, c.if-lacking-room.false, c.lacking_rules-lacking.ensures)

-- there is room for all of them, whether they lack a place or not
pub returns-then-tables-room : goal.returns-then-tables-room
returns-then-tables-room c = room_for_all c.args.rules.now c.args.source.now c.args.target.now c.args.tables.now (omega (arith, c.if-tables-room.true, c.places-room.ensures.len, c.places-room.ensures.within))
