-- The tables of one keyspace more.
use Rattle.std.proofs.Common.{rules, ◌≡◌, ◌∷◌, ◌+◌, flat_map, length, ap, arith, suc, ◌∙◌}
use Rattle.mt_model.specs.Documents.{marked}
use Rattle.mt_model.specs.Part.{table_routes}
use Rattle.mt_keyspace.proofs.RouteLemmas.{one_more}
use Rattle.mt_keyspace.proofs.keyspaces.Keyspaces.route_len.Goals as goal

pub loop-keyspace-preserved : goal.loop-keyspace-preserved
loop-keyspace-preserved c =
    let name = c.in-Some.field-0-0.now in
    let keyspace = c.in-Some.keyspace.now in
    let rest = c.next.new.self in
    let left : c.loop-keyspace.keyspace-iterator ≡ (name, keyspace) ∷ rest = search rules in
    let split : length (flat_map table_routes c.loop-keyspace.keyspace-iterator) ≡ length (marked keyspace.tables) + length (flat_map table_routes rest) =
    ap (λ l. length (flat_map table_routes l)) left ∙ one_more (name, keyspace) rest in
    let longer : length c.loop-keyspace.keyspace-iterator ≡ suc (length rest) = ap length left in
    (omega (arith, c.loop-keyspace.invariant.0, split, c.table_count-count.ensures.value), omega (arith, c.loop-keyspace.invariant.1, longer, c.table_count-count.ensures.within))
