-- Those of the rules, and those of the tables.
use Rattle.std.proofs.Common.{flat_map, length-append, arith}
use Rattle.mt_model.specs.Part.{rule_routes, table_routes}
use Rattle.mt_topology.proofs.routes.count.Goals as goal

pub returns : goal.returns
returns c =
    let both = length-append (rule_routes c.args.rules.now) (flat_map table_routes c.args.keyspaces.now) in
    omega (arith, both, c.rule_count.ensures.value, c.route_len.ensures.value)
