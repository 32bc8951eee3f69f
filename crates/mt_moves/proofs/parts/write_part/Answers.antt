-- One table more.
use Rattle.std.proofs.Common.{◌≡◌, add-one, get_or, length, map, subst, sym, take, ◌<◌}
use Rattle.mt_names.specs.Types.{no_types}
use Rattle.mt_model.specs.Part.{part_keys, with_entries}
use Rattle.mt_workflow.specs.Workflows.{wanted}
use Rattle.mt_moves.proofs.WriteLemmas.{table_places, table_written}
use Rattle.mt_moves.proofs.parts.write_part.Goals as goal

pub write_table-requires : goal.write_table-requires
write_table-requires c =
    let w = c.args.workflow.now in
    let i = c.loop-table.table-index in
    let all : c.tables-table-items.result.now ≡ w.tables = c.tables-table-items.ensures in
    table_places c.args.topology.now c.loop-table.topology (map (wanted w no_types) (part_keys w.source w.target (take i w.tables))) w.source w.target w.tables i c.table-item.result
    (subst (λ l. i < length l) all c.loop-table-test.true) (subst (λ l. c.table-item.result ≡ get_or l i c.table-item.result) all c.table-item.is) c.requires c.loop-table.invariant

pub loop-table-preserved : goal.loop-table-preserved
loop-table-preserved c =
    let w = c.args.workflow.now in
    let i = c.loop-table.table-index in
    let all : c.tables-table-items.result.now ≡ w.tables = c.tables-table-items.ensures in
    subst (λ n. c.write_table.new.topology ≡ with_entries c.args.topology.now (map (wanted w no_types) (part_keys w.source w.target (take n w.tables)))) (sym (add-one i))
    (table_written (wanted w no_types) c.args.topology.now c.loop-table.topology c.write_table.new.topology w.source w.target w.tables i c.table-item.result
    (subst (λ l. i < length l) all c.loop-table-test.true) (subst (λ l. c.table-item.result ≡ get_or l i c.table-item.result) all c.table-item.is) c.loop-table.invariant c.write_table.ensures)
