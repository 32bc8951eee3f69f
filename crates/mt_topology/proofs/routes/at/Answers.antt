-- It is one of the rules, or one of the tables.
use Rattle.std.proofs.Common.{◌-◌, flat_map, slice_get, ap, sym, arith, ◌∙◌}
use Rattle.mt_model.specs.Part.{rule_routes, table_routes}
use Rattle.mt_keyspace.proofs.RouteLemmas.{slice_get-back, slice_get-front}
use Rattle.mt_topology.proofs.routes.at.Goals as goal

pub returns-then-index-rule_count : goal.returns-then-index-rule_count
returns-then-index-rule_count c =
    c.rule_entry.ensures
    ∙ sym (slice_get-front (rule_routes c.args.rules.now) (flat_map table_routes c.args.keyspaces.now) c.args.index (omega (arith, c.if-index-rule_count.true, c.rule_count-rule_count.ensures.value)))

pub returns : goal.returns
returns c =
    let tables = flat_map table_routes c.args.keyspaces.now in
    c.route_entry.ensures ∙ ap (λ n. slice_get tables (c.args.index - n)) c.rule_count-rule_count.ensures.value
    ∙ sym (slice_get-back (rule_routes c.args.rules.now) tables c.args.index (omega (arith, c.if-index-rule_count.false, c.rule_count-rule_count.ensures.value)))
