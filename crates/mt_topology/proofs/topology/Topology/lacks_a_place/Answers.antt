-- One table more.
use Rattle.std.proofs.Common.{◌+◌, ◌||◌, drop, ap, refl, sym, ◌∙◌}
use Rattle.mt_model.specs.Part.{part_keys, table_part_keys}
use Rattle.mt_topology.specs.Part.{lacks_a_place}
use Rattle.mt_topology.proofs.ReserveLemmas.{lacks-left}
use Rattle.mt_topology.proofs.topology.Topology.lacks_a_place.Goals as goal

pub returns-then-lacks_one_of : goal.returns-then-lacks_one_of
returns-then-lacks_one_of c =
    let t = c.args.self.now in
    let keys = table_part_keys c.args.source.now c.args.target.now c.table-item.result in
    let left = lacks-left t c.args.source.now c.args.target.now c.args.tables.now c.loop-table.table-index c.table-item.result keys c.loop-table-test.true c.table-item.is refl in
    let others = lacks_a_place t (part_keys c.args.source.now c.args.target.now (drop (c.loop-table.table-index + 1) c.args.tables.now)) in
    sym (c.loop-table.invariant ∙ left ∙ ap (λ b. b || others) (sym c.lacks_one_of.ensures ∙ c.if-lacks_one_of.true))

pub loop-table-preserved : goal.loop-table-preserved
loop-table-preserved c =
    let t = c.args.self.now in
    let keys = table_part_keys c.args.source.now c.args.target.now c.table-item.result in
    let left = lacks-left t c.args.source.now c.args.target.now c.args.tables.now c.loop-table.table-index c.table-item.result keys c.loop-table-test.true c.table-item.is refl in
    let others = lacks_a_place t (part_keys c.args.source.now c.args.target.now (drop (c.loop-table.table-index + 1) c.args.tables.now)) in
    c.loop-table.invariant ∙ left ∙ ap (λ b. b || others) (sym c.lacks_one_of.ensures ∙ c.if-lacks_one_of.false)
