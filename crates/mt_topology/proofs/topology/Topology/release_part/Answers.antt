-- One table less.
use Rattle.std.proofs.Common.{rules, refl, ◌≡◌, [], ◌∷◌, ◌++◌}
use Rattle.mt_model.specs.Part.{table_part_keys}
use Rattle.mt_topology.proofs.ReleaseLemmas.{table_less}
use Rattle.mt_topology.proofs.topology.Topology.release_part.Goals as goal

pub loop-table-preserved : goal.loop-table-preserved
loop-table-preserved c =
    let split : c.loop-table.table-iterator.iter.rest.now ≡ c.next.new.self.iter.rest.now ++ c.in-Some.table.now ∷ [] = search rules in
    table_less c.args.self.now c.loop-table.self c.release_table_part.new.self c.args.source.now c.args.target.now c.args.tables.now c.loop-table.table-iterator.iter.rest.now c.next.new.self.iter.rest.now c.in-Some.table.now
    (table_part_keys c.args.source.now c.args.target.now c.in-Some.table.now) split refl c.release_table_part.ensures c.loop-table.invariant
