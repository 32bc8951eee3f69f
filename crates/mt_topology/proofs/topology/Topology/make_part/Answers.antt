-- One table more.
use Rattle.std.proofs.Common.{◌+◌, drop, ap, refl, sym, ◌∙◌}
use Rattle.mt_model.specs.Part.{part_keys, table_part_keys, with_place}
use Rattle.mt_topology.specs.Part.{places_refusal}
use Rattle.mt_topology.proofs.ReserveLemmas.{fold-more, part_keys-left}
use Rattle.mt_topology.proofs.RoomLemmas.{places_refusal-append}
use Rattle.mt_topology.proofs.topology.Topology.make_part.Goals as goal

-- the places of the next table, and of those after it, aren't refused
pub make_table_part-requires : goal.make_table_part-requires
make_table_part-requires c =
    let keys = table_part_keys c.args.source.now c.args.target.now c.table-item.result in
    let rest = part_keys c.args.source.now c.args.target.now (drop (c.loop-table.table-index + 1) c.args.tables.now) in
    let left = part_keys-left c.args.source.now c.args.target.now c.args.tables.now c.loop-table.table-index c.table-item.result keys c.loop-table-test.true c.table-item.is refl in
    (places_refusal-append c.loop-table.self keys rest (ap (places_refusal c.loop-table.self) (sym left) ∙ c.loop-table.invariant.2)).0

pub loop-table-preserved : goal.loop-table-preserved
loop-table-preserved c =
    let keys = table_part_keys c.args.source.now c.args.target.now c.table-item.result in
    let rest = part_keys c.args.source.now c.args.target.now (drop (c.loop-table.table-index + 1) c.args.tables.now) in
    let left = part_keys-left c.args.source.now c.args.target.now c.args.tables.now c.loop-table.table-index c.table-item.result keys c.loop-table-test.true c.table-item.is refl in (
      fold-more with_place (table_part_keys c.args.source.now c.args.target.now) c.args.self.now c.loop-table.self c.make_table_part.new.self c.args.tables.now c.loop-table.table-index c.table-item.result keys
          c.loop-table-test.true c.table-item.is refl c.loop-table.invariant.0 c.in_ok-make_table_part.ensures.all,
      c.make_table_part.ensures.back ∙ c.loop-table.invariant.1,
      (places_refusal-append c.loop-table.self keys rest (ap (places_refusal c.loop-table.self) (sym left) ∙ c.loop-table.invariant.2)).1 c.make_table_part.new.self c.in_ok-make_table_part.ensures.all,
    )
