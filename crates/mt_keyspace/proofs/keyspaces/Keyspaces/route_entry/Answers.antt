-- It is one of this keyspace, or of a later one.
use Rattle.std.proofs.Common.{rules, ◌≡◌, ◌∷◌, ◌-◌, flat_map, slice_get, ap, sym, arith, ◌∙◌}
use Rattle.mt_model.specs.Part.{table_routes}
use Rattle.mt_keyspace.proofs.RouteLemmas.{route_here, route_later}
use Rattle.mt_keyspace.proofs.keyspaces.Keyspaces.route_entry.Goals as goal

pub returns-then-before-count : goal.returns-then-before-count
returns-then-before-count c =
    let name = c.in-Some.name.now in
    let keyspace = c.in-Some.keyspace.now in
    let rest = c.next.new.self in
    let left : c.loop-name.name-iterator ≡ (name, keyspace) ∷ rest = search rules in
    c.table_entry.ensures
    ∙ sym (c.loop-name.invariant ∙ ap (λ l. slice_get (flat_map table_routes l) c.loop-name.before) left
    ∙ route_here (name, keyspace) rest c.loop-name.before (omega (arith, c.if-before-count.true, c.table_count-count.ensures.value)))

pub loop-name-preserved : goal.loop-name-preserved
loop-name-preserved c =
    let name = c.in-Some.name.now in
    let keyspace = c.in-Some.keyspace.now in
    let rest = c.next.new.self in
    let left : c.loop-name.name-iterator ≡ (name, keyspace) ∷ rest = search rules in
    c.loop-name.invariant ∙ ap (λ l. slice_get (flat_map table_routes l) c.loop-name.before) left
    ∙ route_later (name, keyspace) rest c.loop-name.before (omega (arith, c.if-before-count.false, c.table_count-count.ensures.value))
    ∙ ap (λ m. slice_get (flat_map table_routes rest) (c.loop-name.before - m)) (sym c.table_count-count.ensures.value)
